use Rattle.std.proofs.Common.{◌/◌, ◌^◌, ◌<◌, ◌≤◌, arith, pow_mono}
use native.Mathlib.Nat.{div-eq_of_lt}
use Rattle.std.proofs.lemmas.Bool.{eqb-true, eq-eqb, le-leb}
use Rattle.masks.proofs.Naming.{below_from_shift, below_inside, inside_below}
use Rattle.masks.proofs.mask.within.Goals as goal

pub returns-then-n-ge64 : goal.returns-then-n-ge64
returns-then-n-ge64 c =
    let m = c.args.mask in
    let n = c.args.n in
    let wide : 2 ^ 64 ≤ 2 ^ n = pow_mono c.if-n-ge64.true in
    let low : m < 2 ^ n = omega (arith, c.ranges.mask.fits) in
    (λ _. below_inside m n low, λ _. le-leb 64 n c.if-n-ge64.true)

pub returns-else-n-ge64 : goal.returns-else-n-ge64
returns-else-n-ge64 c =
    let m = c.args.mask in
    let n = c.args.n in (
      λ e. below_inside m n (below_from_shift m n (eqb-true (m / 2 ^ n) 0 e)),
      λ i. eq-eqb (m / 2 ^ n) 0 (div-eq_of_lt (inside_below m n c.ranges.mask.fits i)),
    )
