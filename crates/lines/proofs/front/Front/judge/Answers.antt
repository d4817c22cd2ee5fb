use Rattle.std.proofs.Common.{refl}
use Rattle.std.proofs.lemmas.Bool.Decides.{not_from_Decides}
use Rattle.lines.proofs.Fronts.{no_more, note_line, note_front, front_whole, damaged_whole, sound_whole, sound_short}
use Rattle.lines.proofs.front.Front.judge.Goals as goal

pub returns-in-Ok : goal.returns-in-Ok
returns-in-Ok c = λ line f.
    let sound = sound_whole _ line _ f c.in-Ok.ensures.1 in (
      refl,
      front_whole _ line _ f (sound_short line sound),
      λ note. not_from_Decides c.is_note.result c.is_note.ensures c.if-not-is_note.true (note_front _ line _ f note),
      sound,
    )

pub returns-in-Err : goal.returns-in-Err
returns-in-Err c = λ line f. (
  refl,
  f.0,
  λ note. absurd (not_from_Decides c.is_note.result c.is_note.ensures c.if-not-is_note.true (note_front _ line _ f note)),
  λ _. damaged_whole _ line _ f c.in-Err.damage.column c.in-Err.ensures.1,
)

pub returns : goal.returns
returns c = λ line f.
    let short = no_more _ line _ f c.if-self.false in (
      refl,
      front_whole _ line _ f short,
      note_line _ line _ f (c.is_note.ensures.0 c.if-not-is_note.false),
      short,
    )
