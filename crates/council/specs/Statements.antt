-- What can be signed, and which statements have shape.
-- A reader must believe: `Shape`. `shaped` is the same as a test, for tables of refusals.
use Rattle.std.specs.Prelude.{◌≡◌, ℕ, ◌<◌, ◌≤◌, Bool, not, ◌&&◌, ◌||◌, ◌⊎◌, ◌==◌, nat_le, nat_lt}
use Rattle.council.specs.declared.statement.Statement.{Statement}

-- views are 1 to 1,000
abbrev pub last_view : ℕ
last_view = 1000

-- steps of a broadcast are 1 to 4
abbrev pub last_step : ℕ
last_step = 4

-- the skip statement of a view
abbrev pub skipping : ℕ → Statement
skipping view = record { view = view; lead = 0; step = 0; edition = 0 }

-- on a step of a lead's broadcast, with an edition
pub record OfBroadcast (n : ℕ) (s : Statement) : Type 0 where
  pub lead : s.lead < n
  pub step : (1 ≤ s.step) × (s.step ≤ last_step)
  pub edition : s.edition ≡ 0 → ⊥

-- the statement has shape in a council of n posts
pub record Shape (n : ℕ) (s : Statement) : Type 0 where
  pub view : (1 ≤ s.view) × (s.view ≤ last_view)
  pub kind : (s ≡ skipping s.view) ⊎ OfBroadcast n s

-- ---- the same, as tests

-- s and t are one statement
abbrev pub same_statement : Statement → Statement → Bool
same_statement s t = s.view == t.view && (s.lead == t.lead && (s.step == t.step && s.edition == t.edition))

abbrev pub of_broadcast : ℕ → Statement → Bool
of_broadcast n s = nat_lt s.lead n && (nat_le 1 s.step && (nat_le s.step last_step && not (s.edition == 0)))

abbrev pub shaped : ℕ → Statement → Bool
shaped n s = nat_le 1 s.view && (nat_le s.view last_view && (same_statement s (skipping s.view) || of_broadcast n s))
