-- The lead of a view, by turns and by a table, and which tables there are.
-- A reader must believe: `by_turns` and `by_table`, which post leads; and `Tabled`, which entries
-- make a table.
use Rattle.std.specs.Prelude.{ℕ, ◌+◌, ◌%◌, ◌<◌, ◌≤◌, List, length, slice_index}

-- of n posts, the one that is view + offset places on from post 0
abbrev pub by_turns : ℕ → ℕ → ℕ → ℕ
by_turns n offset view = (view + offset) % n

-- the entry for the view, where the table begins anew after its last entry
abbrev pub by_table : List ℕ → ℕ → ℕ
by_table entries view = slice_index entries (view % length entries)

-- the first k entries are each below n
abbrev pub FirstUnder : ℕ → ℕ → List ℕ → Type 0
FirstUnder k n entries = (i : ℕ) → i < k → slice_index entries i < n

-- each entry is below n
abbrev pub AllUnder : ℕ → List ℕ → Type 0
AllUnder n entries = FirstUnder (length entries) n entries

-- a draw can be from this many posts
abbrev pub Drawable : ℕ → Type 0
Drawable n = (1 ≤ n) × (n ≤ 64)

-- the entries make a table for n posts
pub record Tabled (n : ℕ) (entries : List ℕ) : Type 0 where
  pub range : Drawable n
  pub some : 0 < length entries
  pub under : AllUnder n entries
