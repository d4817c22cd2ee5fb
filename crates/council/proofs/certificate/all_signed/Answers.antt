use Rattle.std.proofs.Common.{rules, tests, ◌≡◌, ℕ, ◌<◌, true, slice_index_or, refl, sym, subst, arith}
use Rattle.std.specs.List.{range_with_len}
use Rattle.std.proofs.lemmas.Iterator.{cases_from_all, YieldsList-from_range}
use Rattle.std.proofs.lemmas.Iterator.Search.{true_from_All}
use Rattle.std.proofs.lemmas.Bool.{MatchBool-at_true}
use Rattle.std.proofs.lemmas.List.FromFn.{length-range_with_len, get_or-range_with_len}
use Rattle.masks.specs.Masks.{named}
use Rattle.council.specs.Signatures.{by}
use Rattle.council.proofs.certificate.all_signed.Goals as goal

pub returns : goal.returns
returns g c =
    let n = c.args.n in
    let s = c.args.statement.now in
    let Yes : ℕ → Type 0 = λ p. named c.args.mask p ≡ true → g.R.Record.held c.args.book.now (by p s) ≡ true in
    let No : ℕ → Type 0 = λ p. Yes p → ⊥ in
    let xs = range_with_len 0 n in
    let at = λ (p d : ℕ) (l : p < n). let e : slice_index_or xs p d ≡ p = omega (arith, get_or-range_with_len 0 n p d l) in e in
    let len = length-range_with_len 0 n in
    let r = cases_from_all _ _ _ Yes No c.all.ensures.ran (YieldsList-from_range 0 n n refl (omega arith)) (λ x q k. search (rules, tests)) (λ x q k. search (rules, tests)) in (
      λ t p l. subst Yes (at p 0 l) (MatchBool-at_true _ _ t r p 0 (omega arith) (omega (arith, len))),
      λ h. true_from_All Yes No _ xs (λ x p q. q p) r (λ k d l. let m : k < n = omega (arith, len) in subst Yes (sym (at k d m)) (h k m)),
    )
