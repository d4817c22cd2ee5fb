-- What setting a draw to another number of posts answers, and what it changes.
-- A reader must believe: `TurnSet` and `TableSet`, when a setting is refused and what stands after it.
use Rattle.std.specs.Prelude.{◌≡◌, ℕ, List, Ok, Err, vec_items, Result}
use Rattle.refusals.specs.declared.Refusal.{Refusal}
use Rattle.refusals.specs.declared.Refusal.TheVariants.{BadOpening}
use Rattle.leads.specs.declared.turn.Turn.{Turn}
use Rattle.leads.specs.declared.table.Table.{Table}
use Rattle.leads.specs.Leads.{Drawable, Tabled}

-- a turn is set to n posts and keeps its offset, or is refused and stays
abbrev pub TurnSet : Turn → ℕ → Turn → Result (Unit {0}) Refusal → Type 0
TurnSet before n after (Ok _) = Drawable n × (after.n ≡ n) × (after.offset ≡ before.offset)
TurnSet before n after (Err e) = (Drawable n → ⊥) × (e ≡ BadOpening) × (after ≡ before)

-- a table is set to n posts and these entries, or is refused and stays
abbrev pub TableSet : Table → ℕ → List ℕ → Table → Result (Unit {0}) Refusal → Type 0
TableSet before n entries after (Ok _) = Tabled n entries × (after.n ≡ n) × (vec_items after.entries ≡ entries)
TableSet before n entries after (Err e) = (Tabled n entries → ⊥) × (e ≡ BadOpening) × (after ≡ before)
