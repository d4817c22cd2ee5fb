-- What becomes of a signing, by the record's own answers: whether it holds the signature, and whether
-- it is full.
-- A reader must believe: nothing here. What a record answers is `sign_answer` of council.
use Rattle.std.specs.Prelude.{◌≡◌, Bool, not, Ok, Err, Result, MatchResult}
use Rattle.refusals.specs.declared.Refusal.{Refusal}
use Rattle.council.specs.declared.statement.Signature.{Signature}
use Rattle.council.specs.Signing.{signed}

-- taken, and to be added where it is not held already; or refused
abbrev pub Wanted : Signature → Bool → Bool → Result Bool Refusal → Type 0
Wanted x held full r = MatchResult r (λ yes. (signed x held full ≡ Ok tt) × (yes ≡ not held)) (λ e. signed x held full ≡ Err e)
