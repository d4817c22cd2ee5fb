use Rattle.std.proofs.Common.{◌≡◌, ◌-◌, ◌∙◌, arith}
use Rattle.hexadecimal.specs.Hex.{digits}
use Rattle.hexadecimal.proofs.Digits.{put_more}
use Rattle.hexadecimal.proofs.put.Goals as goal

pub loop-place-preserved : goal.loop-place-preserved
loop-place-preserved c = rw c.last_digit.ensures (put_more c.loop-place.out c.loop-place.place (c.loop-place.place - 1) c.loop-place.rest (omega arith) (omega arith) ∙ c.loop-place.invariant)

pub returns : goal.returns
unfolding digits
returns c = let none : c.loop-place.place ≡ 0 = omega arith in rw none at c.loop-place.invariant
