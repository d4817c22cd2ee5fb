use Rattle.std.proofs.Common.{◌≡◌, ◌++◌, length, drop}
use Rattle.hexadecimal.specs.Hex.{digits}
use Rattle.hexadecimal.proofs.put.Given as goal

abbrev pub invariant-loop-place : goal.invariant-loop-place
invariant-loop-place l = digits l.place l.rest ++ drop l.place l.out ≡ digits (length l.initial.out) l.value
