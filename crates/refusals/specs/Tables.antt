-- Tables of refusals: the tests that a call is put to, each with the refusal that it brings, in
-- ascending order of their numbers.
-- A reader must believe: `first_refusal`, that the first test that holds counts.
use Rattle.std.specs.Prelude.{Bool, cond, List, [], ◌∷◌, Ok, Err, Result}
use Rattle.refusals.specs.declared.Refusal.{Refusal}

-- tests with the refusal that each brings
abbrev pub Tests : Type 0
Tests = List (Bool × Refusal)

-- taken, or refused
abbrev pub Verdict : Type 0
Verdict = Result (Unit {0}) Refusal

-- the refusal of the first test that holds, if one does
abbrev pub first_refusal : Tests → Verdict
first_refusal [] = Ok tt
first_refusal (t ∷ ts) = cond t.0 (Err t.1) (first_refusal ts)
