-- The mask that the senders of a list's entries fold up to. Assumes nothing.
use Rattle.std.proofs.Common.{◌≡◌, ℕ, Bool, true, false, ◌&&◌, ◌||◌, cond, nat_eq, nat_lt, List, [], ◌∷◌, length, Decides, sym, refl, ap, ◌∙◌, inl, inr, arith}
use Rattle.std.specs.List.{filter, fold, list_any}
use Rattle.std.proofs.lemmas.Bool.{and_right, cases_lt}
use Rattle.std.proofs.lemmas.Bool.Decides.{nat_tests, Decides-and, Decides-at, Decides-by_or, Decides-eqb, Decides-ltb}
use Rattle.masks.specs.Masks.{named, naming}
use Rattle.masks.specs.Senders.{Senders}
use Rattle.masks.proofs.Naming.{named_zero, named-naming, naming_high}

-- a post is named after adding q, which may have no bit, if it is q and has a bit, or was named before
named_after : (mask q p : ℕ) → named (naming mask q) p ≡ ((nat_lt p 64 && nat_eq q p) || named mask p)
named_after mask q p = elim (cases_lt q 64) [
  | inl l ↦ let e : nat_eq p q ≡ (nat_lt p 64 && nat_eq q p) = grind (arith, nat_tests) in named-naming mask q p l ∙ ap (λ b. b || named mask p) e
  | inr h ↦ let e : false ≡ (nat_lt p 64 && nat_eq q p) = grind (arith, nat_tests) in ap (λ x. named x p) (naming_high mask q h) ∙ ap (λ b. b || named mask p) e
]

join : (l a b n : Bool) → ((l && a) || ((l && b) || n)) ≡ ((l && ((b && true) || a)) || n)
join true true true n = refl
join true true false n = refl
join true false true n = refl
join true false false n = refl
join false a b n = refl

skip : (l a b n : Bool) → ((l && a) || n) ≡ ((l && ((b && false) || a)) || n)
skip l a true n = refl
skip l a false n = refl

none : (b : Bool) → (b || false) ≡ b
none true = refl
none false = refl

module _ {E M : Type 0} (from : E → ℕ) (about : E → M) (m : M) (eq : M → Bool) (exact : (x : M) → Decides (eq x) (x ≡ m)) where
  abbrev sent : ℕ → E → Bool
  sent p e = nat_eq (from e) p && eq (about e)

  abbrev folded : ℕ → List E → ℕ
  folded mask es = fold (λ k e. naming k (from e)) mask (filter (λ e. eq (about e)) es)

  named_folded : (es : List E) (mask p : ℕ) → named (folded mask es) p ≡ ((nat_lt p 64 && list_any (sent p) es) || named mask p)
  named_folded [] mask p = ap (λ b. b || named mask p) (sym (and_right (nat_lt p 64) false refl))
  named_folded (e ∷ es) mask p = go (eq (about e)) (λ k. named_folded es k p)
    where
      later : Bool
      later = list_any (sent p) es

      go : (b : Bool) → ((k : ℕ) → named (folded k es) p ≡ ((nat_lt p 64 && later) || named k p)) → named (fold (λ k e. naming k (from e)) mask (cond b (e ∷ filter (λ e. eq (about e)) es) (filter (λ e. eq (about e)) es))) p ≡ ((nat_lt p 64 && ((nat_eq (from e) p && b) || later)) || named mask p)
      go true rest = rest (naming mask (from e)) ∙ ap (λ b. (nat_lt p 64 && later) || b) (named_after mask (from e) p) ∙ join (nat_lt p 64) later (nat_eq (from e) p) (named mask p)
      go false rest = rest mask ∙ skip (nat_lt p 64) later (nat_eq (from e) p) (named mask p)

  pub senders_folded : (es : List E) → Senders from about es (length es) m (folded 0 es)
  senders_folded es p =
      Decides-at (named (folded 0 es) p) (nat_lt p 64 && list_any (sent p) es)
      (named_folded es 0 p ∙ ap (λ b. (nat_lt p 64 && list_any (sent p) es) || b) (named_zero p) ∙ none (nat_lt p 64 && list_any (sent p) es))
      (Decides-and (nat_lt p 64) (list_any (sent p) es) (Decides-ltb p 64)
      (Decides-by_or (sent p) (λ e. (from e ≡ p) × (about e ≡ m)) (list_any (sent p)) (λ e. Decides-and (nat_eq (from e) p) (eq (about e)) (Decides-eqb (from e) p) (exact (about e))) refl (λ _ _. refl) es))
