-- The test of two refusals by their numbers decides equality, as == does. Assumes nothing.
use Rattle.std.proofs.Common.{◌≡◌, ◌==◌, Decides, rules}
use Rattle.refusals.specs.declared.Refusal.{Refusal}
use Rattle.refusals.specs.Numbers.{number_of}

pub decides_same : (x y : Refusal) → Decides (number_of x == number_of y) (x ≡ y)
decides_same = search rules
