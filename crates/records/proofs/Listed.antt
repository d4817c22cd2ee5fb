-- Lists of signatures: what they have, one more at the end, and who is behind a statement. Assumes
-- nothing.
use Rattle.std.specs.Prelude.{◌≡◌, ℕ, ◌<◌, true, false, not, List, [], ◌∷◌, ◌++◌, length, Decides, ◌==◌, nat_lt, refl}
use Rattle.std.proofs.Common.{◌∙◌}
use Rattle.std.proofs.Math.Path.{fun_ext}
use Rattle.std.proofs.lemmas.Bool.{lt-ltb, and_parts, and_from, or_parts, or_from, not-true, not_from_false}
use Rattle.std.proofs.lemmas.Bool.Decides.{Decides-and, Decides-eqb, same_from_decides}
use Rattle.std.proofs.lemmas.List.Folds.{list_all-append}
use Rattle.masks.specs.Masks.{named}
use Rattle.masks.specs.Senders.{SentIn}
use Rattle.council.specs.declared.statement.Statement.{Statement}
use Rattle.council.specs.declared.statement.Signature.{Signature}
use Rattle.council.specs.Statements.{same_statement}
use Rattle.council.specs.Signatures.{adding, by, distinct, listed, same}
use Rattle.council.proofs.Same.{decides-same, decides-same_statement}
use Rattle.council.proofs.Tests.{any_push, decided_swap, decides-any}
use Rattle.records.specs.Lists.{all_masked, masked_listed}

-- ---- one more at the end

pub listed-adding : (l : List Signature) (x : Signature) → listed (l ++ x ∷ []) ≡ adding (listed l) x
unfolding adding
listed-adding l x = fun_ext (λ y. any_push (λ z. same z y) l x)

pub distinct_push : (l : List Signature) (x : Signature) → distinct l ≡ true → listed l x ≡ false → distinct (l ++ x ∷ []) ≡ true
distinct_push [] x h k = refl
distinct_push (z ∷ l) x h k =
    let a = and_parts (not (listed l z)) (distinct l) h in
    let b = or_parts (same z x) (listed l x) k in
    and_from _ _ (not_from_false _ (any_push (λ y. same y z) l x ∙ or_from (same x z) (listed l z) (decided_swap same decides-same x z ∙ b.0) (not-true _ a.0))) (distinct_push l x a.1 b.1)

pub masked_push : (l : List Signature) (x : Signature) → all_masked l ≡ true → x.signer < 64 → all_masked (l ++ x ∷ []) ≡ true
masked_push l x h k = list_all-append (λ y. nat_lt y.signer 64) l (x ∷ []) ∙ and_from (all_masked l) _ h (and_from (nat_lt x.signer 64) true (lt-ltb x.signer 64 k) refl)

-- ---- who is behind a statement

listed_sent : (l : List Signature) (p : ℕ) (s : Statement) → Decides (listed l (by p s)) (SentIn (λ (x : Signature). x.signer) (λ (x : Signature). x.statement) l (length l) s p)
listed_sent l p s =
    decides-any (λ y. same y (by p s)) (λ y. (y.signer ≡ p) × (y.statement ≡ s))
    (λ y. Decides-and (y.signer == p) (same_statement y.statement s) (Decides-eqb y.signer p) (decides-same_statement y.statement s)) l

pub signers-listed : (l : List Signature) (s : Statement) (mask p : ℕ) → all_masked l ≡ true → Decides (named mask p) ((p < 64) × SentIn (λ (x : Signature). x.signer) (λ (x : Signature). x.statement) l (length l) s p) → named mask p ≡ listed l (by p s)
signers-listed l s mask p low h = same_from_decides (named mask p) (listed l (by p s)) h (
  λ e. (masked_listed l (by p s) low e, (listed_sent l p s).0 e),
  λ w. (listed_sent l p s).1 w.1,
)
