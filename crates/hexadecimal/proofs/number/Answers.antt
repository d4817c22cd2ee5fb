use Rattle.std.proofs.Common.{◌<◌, refl, arith}
use Rattle.std.proofs.lemmas.List.{take_more}
use Rattle.hexadecimal.proofs.Digits.{digits_more, bound_more, below_all}
use Rattle.hexadecimal.specs.Hex.{digits}
use Rattle.hexadecimal.proofs.number.Goals as goal

pub loop-byte-init : goal.loop-byte-init
unfolding digits
loop-byte-init c = (omega arith, refl)

pub overflow_mul-n : goal.overflow_mul-n
overflow_mul-n c = let b = below_all _ _ c.loop-byte.invariant.0 (omega arith) in omega arith

pub overflow_add-n : goal.overflow_add-n
overflow_add-n c = let b = below_all _ _ c.loop-byte.invariant.0 (omega arith) in omega (arith, c.in_ok-value.ensures.1)

pub loop-byte-preserved : goal.loop-byte-preserved
loop-byte-preserved c =
    let is = c.from.ensures in
    let small : c.from.result < 16 = omega (arith, c.in_ok-value.ensures.1) in
    let front = take_more c.args.text.now c.loop-byte.byte-index 0 c.loop-byte-test.true in
    let char = c.in_ok-value.ensures.2 in
    let more = digits_more c.loop-byte.byte-index c.loop-byte.n c.from.result small in
    (bound_more _ _ _ c.loop-byte.invariant.0 small, (cc))
