use Rattle.std.proofs.Common.{◌≡◌, ◌^◌, ◌<◌, take}
use Rattle.hexadecimal.specs.Hex.{digits}
use Rattle.hexadecimal.proofs.number.Given as goal

abbrev pub invariant-loop-byte : goal.invariant-loop-byte
invariant-loop-byte l = (l.n < 16 ^ l.byte-index) × (take l.byte-index l.text ≡ digits l.byte-index l.n)
