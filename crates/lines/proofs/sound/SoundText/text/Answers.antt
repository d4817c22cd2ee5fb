use Rattle.lines.proofs.Fronts.{sound_short, sound_even, sound_hex}
use Rattle.lines.proofs.sound.SoundText.text.Goals as goal

pub returns-clause-few : goal.returns-clause-few
returns-clause-few c = sound_short _ c.args.self.sound

pub returns-clause-even : goal.returns-clause-even
returns-clause-even c = sound_even _ c.args.self.sound

pub returns-clause-hexadecimal : goal.returns-clause-hexadecimal
returns-clause-hexadecimal c = sound_hex _ c.args.self.sound
