-- A set without members, by its number. Assumes nothing.
use Rattle.std.proofs.Common.{◌≡◌, ℕ, Bool, false, ◌||◌, eqb, List, [], ◌∷◌, length, Decides, sym, ap, ◌∙◌, arith}
use Rattle.std.proofs.lemmas.Bool.{eqb-true, eq-eqb, both_ways}
use Rattle.council.specs.declared.statement.Signature.{Signature}
use Rattle.council.specs.Signatures.{Numbers, listed}
use Rattle.council.proofs.Same.{same_self}

module _ (held : Signature → Bool) (n : ℕ) where
  none : (l : List Signature) → length l ≡ n → ((x : Signature) → held x ≡ listed l x) → n ≡ 0 → (x : Signature) → held x ≡ false
  none [] e h z x = h x
  none (y ∷ l) e h z x = absurd (omega arith)

  zero : (l : List Signature) → length l ≡ n → ((x : Signature) → held x ≡ listed l x) → ((x : Signature) → held x ≡ false) → n ≡ 0
  zero [] e h off = sym e
  zero (y ∷ l) e h off = absurd (both_ways (held y) (off y) (h y ∙ ap (λ b. b || listed l y) (same_self y)))

  pub numbers_empty : Numbers held n → Decides (eqb n 0) ((x : Signature) → held x ≡ false)
  numbers_empty w = (λ e. none w.0 w.2 w.3 (eqb-true n 0 e), λ off. eq-eqb n 0 (zero w.0 w.2 w.3 off))
