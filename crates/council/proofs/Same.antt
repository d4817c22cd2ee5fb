-- The tests of equality decide equality. Assumes nothing.
use Rattle.std.proofs.Common.{◌≡◌, Bool, true, ◌||◌, Decides, sym, refl, ap, ◌∙◌, inl, inr, rules}
use mathlib.Core.Path.{fun_ext}
use Rattle.std.proofs.lemmas.Bool.{cases_Bool, or_left}
use Rattle.council.specs.declared.statement.Statement.{Statement}
use Rattle.council.specs.declared.statement.Signature.{Signature}
use Rattle.council.specs.Statements.{same_statement}
use Rattle.council.specs.Signatures.{adding, same}

pub decides-same_statement : (s t : Statement) → Decides (same_statement s t) (s ≡ t)
decides-same_statement = search rules

pub decides-same : (x y : Signature) → Decides (same x y) (x ≡ y)
decides-same = search rules

pub same_self : (x : Signature) → same x x ≡ true
same_self x = (decides-same x x).1 refl

-- adding what is held changes nothing
pub adding_held : (held : Signature → Bool) (x : Signature) → held x ≡ true → adding held x ≡ held
unfolding adding
adding_held held x h = fun_ext (λ y. elim (cases_Bool (same x y)) [
  | inl t ↦ or_left (same x y) (held y) t ∙ sym (ap held (sym ((decides-same x y).0 t)) ∙ h)
  | inr t ↦ ap (λ b. b || held y) t
])
