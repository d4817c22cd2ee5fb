-- The posts behind a matter.
-- A reader must believe: `Senders`, that a mask names exactly the posts from which an entry on the
-- matter came.
use Rattle.std.specs.Prelude.{◌≡◌, ℕ, ◌<◌, List, Decides}
use Rattle.std.specs.List.{HoldsAt}
use Rattle.masks.specs.Masks.{named}

-- one of the first n entries came from post p, and is on the matter m
abbrev pub SentIn : {E M : Type 0} → (E → ℕ) → (E → M) → List E → ℕ → M → ℕ → Type 0
SentIn from about entries n m p = (k : ℕ) × (k < n) × HoldsAt (λ e. (from e ≡ p) × (about e ≡ m)) entries k

-- the mask names the posts, below 64, from which the first n entries on the matter m came
abbrev pub Senders : {E M : Type 0} → (E → ℕ) → (E → M) → List E → ℕ → M → ℕ → Type 0
Senders from about entries n m mask = (p : ℕ) → Decides (named mask p) ((p < 64) × SentIn from about entries n m p)
