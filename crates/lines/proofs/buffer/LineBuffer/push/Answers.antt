use Rattle.std.proofs.Common.{ℕ, ◌<◌, ◌≤◌, List, [], ◌∷◌, ◌++◌, length, Bool, true, sym, ap, arith, length-take}
use Rattle.std.proofs.lemmas.List.{length_push, take_all, take-append-le}
use Rattle.std.proofs.lemmas.Bool.{eqb-true, eqb-false}
use Rattle.std.proofs.lemmas.Bool.Decides.{nat_tests}
use Rattle.lines.specs.Damage.{Fronts}
use Rattle.lines.proofs.buffer.LineBuffer.push.Goals as goal

module _ (kept line : List ℕ) (longer : Bool) (byte : ℕ) (f : Fronts kept longer line) where
  let_go : 512 ≤ length kept → Fronts kept true (line ++ byte ∷ [])
  let_go h = grind (arith, ap length f.0, length-take 512 line, length_push line byte, take-append-le 512 line (byte ∷ []), nat_tests)

  keep : length kept < 512 → Fronts (kept ++ byte ∷ []) longer (line ++ byte ∷ [])
  keep h = grind (arith, ap length f.0, length-take 512 line, length_push line byte, take_all 512 line, take_all 512 (line ++ byte ∷ []), nat_tests)

pub returns-then-is_full : goal.returns-then-is_full
returns-then-is_full c = λ line f. let_go _ line _ c.args.byte f (omega (arith, eqb-true _ _ (sym c.if-is_full.ensures.value)))

pub returns : goal.returns
returns c = λ line f. rw c.push.ensures.items (keep _ line _ c.args.byte f (omega (arith, eqb-false _ _ (sym c.if-is_full.ensures.value), c.is_full.ensures.fits)))
