-- What a record answers to a signing.
-- A reader must believe: `signed`, the order of the refusals, and that what is held already is never
-- refused for want of a place.
use Rattle.std.specs.Prelude.{ℕ, Bool, cond, Ok, Err, Result, ◌==◌, nat_le}
use Rattle.refusals.specs.declared.Refusal.{Refusal}
use Rattle.refusals.specs.declared.Refusal.TheVariants.{NoSuchPost, RecordFull}
use Rattle.council.specs.declared.statement.Signature.{Signature}

-- refused for a signer above 63; taken if held already; refused exactly where the record is full
abbrev pub signed : Signature → Bool → Bool → Result (Unit {0}) Refusal
signed x held full = cond (nat_le 64 x.signer) (Err NoSuchPost) (cond held (Ok tt) (cond full (Err RecordFull) (Ok tt)))

-- the same of a record, which is full exactly when the number held is the capacity
abbrev pub sign_answer : (Signature → Bool) → ℕ → ℕ → Signature → Result (Unit {0}) Refusal
sign_answer held number capacity x = signed x (held x) (number == capacity)
