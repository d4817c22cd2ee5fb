-- Lists of signatures whose signers have a bit in a mask.
-- A reader must believe: nothing here. It is what a list record keeps true of itself, so that its
-- law on signers holds.
use Rattle.std.specs.Prelude.{◌≡◌, ◌<◌, Bool, true, false, List, [], ◌∷◌, nat_lt, refl}
use Rattle.std.specs.List.{list_all}
use Rattle.std.proofs.Common.{ap, ⊎_elim, arith}
use Rattle.std.proofs.lemmas.Bool.{ltb-true, and_parts, or_cases, both_ways}
use Rattle.council.specs.declared.statement.Signature.{Signature}
use Rattle.council.specs.Signatures.{listed, same}
use Rattle.council.proofs.Same.{decides-same}

-- each signer of the list is below 64
abbrev pub all_masked : List Signature → Bool
all_masked = list_all (λ x. nat_lt x.signer 64)

-- so each signer has a bit
pub masked_listed : (l : List Signature) (x : Signature) → all_masked l ≡ true → listed l x ≡ true → x.signer < 64
masked_listed [] x h k = absurd (both_ways false refl k)
masked_listed (y ∷ l) x h k =
    let a = and_parts (nat_lt y.signer 64) (all_masked l) h in
    ⊎_elim (λ e. omega (arith, ltb-true y.signer 64 a.0, ap (λ (z : Signature). z.signer) ((decides-same y x).0 e))) (λ e. masked_listed l x a.1 e) (or_cases (same y x) (listed l x) k)
