-- What a call on a post leaves: the answer, the post, and the papers that all posts share.
-- A reader must believe: `limits`, that a call is refused for want of room last, and only for what it
-- would add; `filed`, what an effect adds; `contents`, what papers say; `Took`, that a refusal changes
-- nothing; `TookOn`, that the record stays besides where nothing is signed.
use Rattle.std.specs.Prelude.{◌≡◌, ℕ, ◌+◌, Bool, false, cond, not, ◌&&◌, List, [], ◌∷◌, ◌++◌, length, Some, None, Ok, Err, Option, Result, ◌==◌, nat_lt}
use Rattle.refusals.specs.Tables.{Tests, Verdict, first_refusal}
use Rattle.refusals.specs.declared.Refusal.{Refusal}
use Rattle.refusals.specs.declared.Refusal.TheVariants.{RollFull, RecordFull}
use Rattle.council.specs.declared.statement.Signature.{Signature}
use Rattle.council.specs.declared.statement.Statement.{Statement}
use Rattle.council.specs.Signatures.{adding, by}
use Rattle.letters.specs.declared.letter.Letter.{Letter}
use Rattle.rolls.specs.Rolls.{letters_of}
use Rattle.posts.specs.declared.papers.Papers.{Papers}
use Rattle.posts.specs.declared.post.Post.{Post}
use Rattle.posts.specs.Effects.{Effect}

-- what stands in the papers that all posts share: the letters on the roll and its places; the
-- signatures held by the record, how many, and its capacity
pub record Contents : Type 0 where
  pub letters : List Letter
  pub places : ℕ
  pub held : Signature → Bool
  pub number : ℕ
  pub capacity : ℕ

-- the same, of papers with a record of any sort
abbrev pub contents : {B : Type 0} → (B → Signature → Bool) → (B → ℕ) → (B → ℕ) → Papers B → Contents
contents held number capacity p = record {
  letters = letters_of p.roll;
  places = p.roll.places;
  held = held p.book;
  number = number p.book;
  capacity = capacity p.book;
}

-- ---- signing and writing

-- the statement is to be signed, is not yet, and the record is full
abbrev pub overfull : ℕ → Contents → Option Statement → Bool
overfull me d None = false
overfull me d (Some s) = not (d.held (by me s)) && d.number == d.capacity

-- what an effect is refused for, whatever the letter: no places for all letters, then a full record
abbrev pub limits : ℕ → Contents → Option Statement → List Letter → Tests
limits me d signs writes =
    (nat_lt d.places (length d.letters + length writes), RollFull)
    ∷ (overfull me d signs, RecordFull)
    ∷ []

-- the signatures held once post `me` signed
abbrev pub signed_by : ℕ → (Signature → Bool) → Option Statement → Signature → Bool
signed_by me held None = held
signed_by me held (Some s) = adding held (by me s)

-- how many more signatures are held then
abbrev pub newly_signed : ℕ → (Signature → Bool) → Option Statement → ℕ
newly_signed me held None = 0
newly_signed me held (Some s) = cond (held (by me s)) 0 1

-- the papers once post `me` signed and wrote
abbrev pub filed : ℕ → Contents → Option Statement → List Letter → Contents
filed me d signs writes = record {
  letters = d.letters ++ writes;
  places = d.places;
  held = signed_by me d.held signs;
  number = d.number + newly_signed me d.held signs;
  capacity = d.capacity;
}

-- ---- a call on a post

-- the answer: how many letters were added, and the post's view afterwards
abbrev pub Answer : Type 0
Answer = Result (ℕ × ℕ) Refusal

abbrev pub answered : Verdict → Effect → Answer
answered (Ok u) a = Ok (length a.writes, a.becomes.view)
answered (Err e) a = Err e

-- what stands after the call: the new where it was taken, the old where it was refused
abbrev pub after : {X : Type 0} → Verdict → X → X → X
after (Ok u) old new = new
after (Err e) old new = old

-- the first verdict, if it is a refusal, else the second
abbrev pub and_then : Verdict → Verdict → Verdict
and_then (Ok u) v = v
and_then (Err e) v = Err e

-- the tests of the call, and last the limits
abbrev pub verdict : ℕ → Tests → Effect → Contents → Verdict
verdict me tests a d = and_then (first_refusal tests) (first_refusal (limits me d a.signs a.writes))

-- post `me` was P and is now Q, the papers were d and are now e: the call was refused by the first of
-- its tests that holds and changed nothing, or it had its effect
pub record Took (me : ℕ) (tests : Tests) (a : Effect) (P : Post) (d : Contents) (r : Answer) (Q : Post) (e : Contents) : Type 0 where
  pub answer : r ≡ answered (verdict me tests a d) a
  pub post : Q ≡ after (verdict me tests a d) P a.becomes
  pub papers : e ≡ after (verdict me tests a d) d (filed me d a.signs a.writes)

-- the same, where the papers p have become q; where nothing is signed the record is what it was
pub record TookOn {B : Type 0} (held : B → Signature → Bool) (number capacity : B → ℕ) (me : ℕ) (tests : Tests) (a : Effect) (P : Post) (p : Papers B) (r : Answer) (Q : Post) (q : Papers B) : Type 0 where
  pub took : Took me tests a P (contents held number capacity p) r Q (contents held number capacity q)
  pub unsigned : a.signs ≡ None → q.book ≡ p.book
