use Rattle.letters.proofs.Sole.{read_back, read_only, read_sole}
use Rattle.letters.proofs.letter.Letter.read.Goals as goal

pub returns : goal.returns
returns c = record {
  read = c.read_line.ensures;
  sole = read_sole _ _ c.read_line.ensures;
  only = read_only _ _ c.read_line.ensures;
  back = read_back _ _ c.read_line.ensures;
}
