use Rattle.lines.proofs.Fronts.{text_whole}
use Rattle.lines.proofs.sound.SoundTextTryFromRefSliceU8.try_from.Goals as goal

pub returns : goal.returns
returns c = text_whole _ c.args.text.now _ c.of.ensures c.sound.result c.sound.ensures
