use Rattle.std.proofs.Common.{◌++◌, sym, subst}
use Rattle.lines.specs.Buffer.{Holds}
use Rattle.reader.proofs.Intakes.{open_line}
use Rattle.reader.proofs.intake.Intake.take.Goals as goal

pub returns-clause-held : goal.returns-clause-held
returns-clause-held c = λ line h. subst (λ l. Holds c.push.new.self (line ++ l)) (sym (open_line _ (c.if-byte-eq10.false, tt))) (c.push.ensures line h)
