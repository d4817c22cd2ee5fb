-- Sets of signatures, as tests, and the posts behind a statement.
-- A reader must believe: `adding`, a set with one member more, and `Numbers`, how many a set has.
use Rattle.std.specs.Prelude.{◌≡◌, ℕ, ◌≤◌, Bool, true, not, ◌&&◌, ◌||◌, List, [], ◌∷◌, length, ◌==◌}
use Rattle.masks.specs.Masks.{count}
use Rattle.council.specs.declared.council.Council.{Council}
use Rattle.council.specs.declared.statement.Statement.{Statement}
use Rattle.council.specs.declared.statement.Signature.{Signature}
use Rattle.std.specs.List.{list_any}
use Rattle.council.specs.Statements.{same_statement}

-- the signature of post p on the statement s
abbrev pub by : ℕ → Statement → Signature
by p s = record { signer = p; statement = s }

-- x and y are one signature
abbrev pub same : Signature → Signature → Bool
same x y = x.signer == y.signer && same_statement x.statement y.statement

-- the set with x added
unfoldable pub adding : (Signature → Bool) → Signature → Signature → Bool
adding held x y = same x y || held y

-- the second set has all that the first has
abbrev pub Grows : (Signature → Bool) → (Signature → Bool) → Type 0
Grows held more = (x : Signature) → held x ≡ true → more x ≡ true

-- the list has the signature
abbrev pub listed : List Signature → Signature → Bool
listed l x = list_any (λ y. same y x) l

-- no signature stands twice in the list
abbrev pub distinct : List Signature → Bool
distinct [] = true
distinct (y ∷ ys) = not (listed ys y) && distinct ys

-- the set has n members: a list of that length names each of them, and each once
abbrev pub Numbers : (Signature → Bool) → ℕ → Type 0
Numbers held n = (l : List Signature) × (distinct l ≡ true) × (length l ≡ n) × ((x : Signature) → held x ≡ listed l x)

-- the posts whose signature on the statement is held
abbrev pub signers : (Signature → Bool) → Statement → ℕ → Bool
signers held s p = held (by p s)

-- a quorum of the council's posts signed the statement
abbrev pub Quorum : Council → (Signature → Bool) → Statement → Type 0
Quorum c held s = c.quorum ≤ count c.n (signers held s)
