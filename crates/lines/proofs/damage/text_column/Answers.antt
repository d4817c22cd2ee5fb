use Rattle.std.proofs.Common.{subst}
use Rattle.lines.specs.Damage.{Sound}
use Rattle.lines.proofs.damage.text_column.Goals as goal

pub returns-in-Ok : goal.returns-in-Ok
returns-in-Ok c = subst Sound c.in-Ok.ensures c.in-Ok.field-0.sound
