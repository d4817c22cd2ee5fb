-- Which councils there are, and what their quorums are for.
-- A reader must believe: `Formed`, when a council is refused; and `QuorumsMeet`, that two quorums
-- share a post that is not bad.
use Rattle.std.specs.Prelude.{◌≡◌, ℕ, ◌<◌, ◌≤◌, Bool, true, false, Ok, Err, Result}
use Rattle.refusals.specs.declared.Refusal.{Refusal}
use Rattle.refusals.specs.declared.Refusal.TheVariants.{BadOpening}
use Rattle.masks.specs.Masks.{count}
use Rattle.council.specs.declared.council.Council.{Council}

-- what forming a council answers: one that withstands f bad posts, or a refusal where f is not 1 to 21
abbrev pub Formed : ℕ → Result Council Refusal → Type 0
Formed f (Ok c) = c.f ≡ f
Formed f (Err e) = (e ≡ BadOpening) × (1 ≤ f → f ≤ 21 → ⊥)

-- a post below n that is in both sets, and is not bad
pub record Shared (n : ℕ) (A B bad : ℕ → Bool) : Type 0 where
  pub post : ℕ
  pub below : post < n
  pub in_first : A post ≡ true
  pub in_second : B post ≡ true
  pub sound : bad post ≡ false

-- of n posts, of which at most f are bad, any two sets of q share one that is not bad
abbrev pub QuorumsMeet : ℕ → ℕ → ℕ → Type 0
QuorumsMeet n f q = (A B bad : ℕ → Bool) → q ≤ count n A → q ≤ count n B → count n bad ≤ f → Shared n A B bad
