-- Tests of lists, and tests that decide equality. Assumes nothing.
use Rattle.std.proofs.Common.{◌≡◌, ℕ, ◌<◌, Bool, true, false, ◌||◌, List, [], ◌∷◌, ◌++◌, length, Decides, sym, refl, ap, ◌∙◌}
use Rattle.std.specs.List.{HoldsAt}
use Rattle.std.proofs.lemmas.Bool.Decides.{Decides-by_or, same_from_decides}
use Rattle.std.specs.List.{list_any}

-- the second comes to the front
pub turn : (a b d : Bool) → (a || (b || d)) ≡ (b || (a || d))
turn true true d = refl
turn true false d = refl
turn false true d = refl
turn false false d = refl

module _ {X : Type 0} (t : X → Bool) where
  -- one entry more at the end
  pub any_push : (l : List X) (x : X) → list_any t (l ++ x ∷ []) ≡ (t x || list_any t l)
  any_push [] x = refl
  any_push (y ∷ l) x = ap (λ b. t y || b) (any_push l x) ∙ turn (t y) (t x) (list_any t l)

  -- where the test decides a property, some entry has it
  pub decides-any : (P : X → Type 0) → ((x : X) → Decides (t x) (P x)) → (l : List X) → Decides (list_any t l) ((k : ℕ) × (k < length l) × HoldsAt P l k)
  decides-any P each l = Decides-by_or t P (list_any t) each refl (λ _ _. refl) l

-- a test that decides equality says the same either way round
pub decided_swap : {X : Type 0} (t : X → X → Bool) → ((x y : X) → Decides (t x y) (x ≡ y)) → (x y : X) → t x y ≡ t y x
decided_swap t each x y = same_from_decides (t x y) (t y x) (each x y) (λ e. sym ((each y x).0 e), λ e. (each y x).1 (sym e))
