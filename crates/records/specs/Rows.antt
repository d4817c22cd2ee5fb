-- What the rows of a sheet say: each has a statement and the mask of its signers.
-- A reader must believe: `on_sheet`, the signatures that a sheet stands for.
use Rattle.std.specs.Prelude.{◌≡◌, ℕ, ◌+◌, ◌<◌, Bool, true, false, not, ◌&&◌, List, [], ◌∷◌, length, Some, None, Option, nat_lt}
use Rattle.std.specs.List.{HoldsAt}
use Rattle.masks.specs.Masks.{named, tally}
use Rattle.council.specs.declared.statement.Statement.{Statement}
use Rattle.council.specs.declared.statement.Signature.{Signature}
use Rattle.std.specs.List.{list_any, sum_by}
use Rattle.council.specs.Statements.{same_statement}
use Rattle.council.specs.Signatures.{adding}
use Rattle.records.specs.declared.row.Row.{Row}

-- a row is on the statement
abbrev pub stated : List Row → Statement → Bool
stated rs s = list_any (λ r. same_statement r.statement s) rs

-- the place of a row on the statement, or that no row is on it
abbrev pub Found : List Row → Statement → Option ℕ → Type 0
Found rs s (Some i) = (i < length rs) × HoldsAt (λ r. r.statement ≡ s) rs i
Found rs s None = stated rs s ≡ false

-- no two rows are on one statement
abbrev pub apart : List Row → Bool
apart [] = true
apart (r ∷ rs) = not (stated rs r.statement) && apart rs

-- the row marks the signature
abbrev pub marks : Row → Signature → Bool
marks r x = same_statement r.statement x.statement && named r.signers x.signer

-- a row marks the signature
abbrev pub marked : List Row → Signature → Bool
marked rs x = list_any (λ r. marks r x) rs

-- what a sheet holds: what its rows mark, of the signers that have a bit
abbrev pub on_sheet : List Row → Signature → Bool
on_sheet rs x = nat_lt x.signer 64 && marked rs x

-- how many signatures the rows mark
abbrev pub total : List Row → ℕ
total = sum_by (λ r. tally r.signers)

-- rows that mark x, and else what they marked before
pub record MarkedToo (before after : List Row) (x : Signature) : Type 0 where
  pub marks : marked after ≡ adding (marked before) x
  pub apart : apart after ≡ true
  pub total : total after ≡ total before + 1
