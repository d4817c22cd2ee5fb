-- How many numbers pass a test: more pass a weaker one, and two large sets share a member outside a
-- small one. Assumes nothing.
use Rattle.std.proofs.Common.{◌≡◌, ℕ, zero, suc, ◌+◌, ◌<◌, ◌≤◌, Bool, true, false, cond, not, ◌&&◌, ◌||◌, eqb, ◌⊎◌, refl, ap, ◌∙◌, ap₂, inl, inr, arith}
use Rattle.std.proofs.lemmas.Bool.{and_parts, not-true, cases_eq, cases_Bool, eq-eqb, ne_eqb, or_left}
use Rattle.masks.specs.Masks.{count}

one_le : (a b : Bool) → (a ≡ true → b ≡ true) → cond a 1 0 ≤ cond b 1 0
one_le true b h = rw (h refl) (omega arith)
one_le false b h = omega arith

-- a larger set has no fewer members
pub count_grows : (n : ℕ) (A B : ℕ → Bool) → ((p : ℕ) → p < n → A p ≡ true → B p ≡ true) → count n A ≤ count n B
unfolding count
count_grows zero A B h = omega arith
count_grows (suc n) A B h =
    let here = one_le (A n) (B n) (h n (omega arith)) in
    let rest = count_grows n A B (λ p l. h p (omega arith)) in
    omega arith

pub count_same : (n : ℕ) (A B : ℕ → Bool) → ((p : ℕ) → p < n → A p ≡ B p) → count n A ≡ count n B
unfolding count
count_same zero A B h = refl
count_same (suc n) A B h = ap₂ (λ b x. cond b 1 0 + x) (h n (omega arith)) (count_same n A B (λ p l. h p (omega arith)))

pub count_none : (n : ℕ) (A : ℕ → Bool) → ((p : ℕ) → A p ≡ false) → count n A ≡ 0
unfolding count
count_none zero A h = refl
count_none (suc n) A h = rw (h n) (omega (arith, count_none n A h))

pub count_up : (n k : ℕ) (A : ℕ → Bool) → k ≤ n → count k A ≤ count n A
unfolding count
count_up zero k A h = let z : k ≡ 0 = omega arith in rw z (omega arith)
count_up (suc n) k A h = elim (cases_eq k (suc n)) [ inl e ↦ rw e (omega arith) | inr e ↦ let r = count_up n k A (omega arith) in omega arith ]

-- where only numbers below n pass, it is enough to count those
pub count_inside : (k n : ℕ) (A : ℕ → Bool) → ((p : ℕ) → A p ≡ true → p < n) → count k A ≤ count n A
unfolding count
count_inside zero n A h = omega arith
count_inside (suc k) n A h = elim (cases_Bool (A k)) [
  | inl t ↦ count_up n (suc k) A (h k t)
  | inr t ↦ let z : ◌≡◌ {A = ℕ} (cond (A k) 1 0) 0 = rw t in let r = count_inside k n A h in omega arith
]

-- one member more
pub count_with : (n q : ℕ) (A B : ℕ → Bool) → q < n → A q ≡ false → ((p : ℕ) → B p ≡ (eqb p q || A p)) → count n B ≡ count n A + 1
unfolding count
count_with zero q A B l none same = absurd (omega arith)
count_with (suc n) q A B l none same = go (cases_eq n q) (λ k. count_with n q A B k none same)
  where
    go : (n ≡ q) ⊎ (n ≡ q → ⊥) → (q < n → count n B ≡ count n A + 1) → cond (B n) 1 0 + count n B ≡ cond (A n) 1 0 + count n A + 1
    go (inl e) rest =
        let new : B n ≡ true = same n ∙ or_left (eqb n q) (A n) (eq-eqb n q e) in
        let old : A n ≡ false = ap A e ∙ none in
        let others : count n B ≡ count n A = count_same n B A (λ p h. same p ∙ ap (λ b. b || A p) (ne_eqb p q (λ z. omega arith))) in
        simp (new, old) (omega arith)
    go (inr e) rest =
        let this : B n ≡ A n = same n ∙ ap (λ b. b || A n) (ne_eqb n q e) in
        let below = rest (omega arith) in
        simp this (omega arith)

one_meet : (a b c : Bool) → cond a 1 0 + cond b 1 0 ≤ 1 + cond c 1 0 + cond (a && (b && not c)) 1 0
one_meet true true true = omega arith
one_meet true true false = omega arith
one_meet true false true = omega arith
one_meet true false false = omega arith
one_meet false true true = omega arith
one_meet false true false = omega arith
one_meet false false true = omega arith
one_meet false false false = omega arith

count_meet : (n : ℕ) (A B C : ℕ → Bool) → count n A + count n B ≤ n + count n C + count n (λ p. A p && (B p && not (C p)))
unfolding count
count_meet zero A B C = omega arith
count_meet (suc n) A B C =
    let here = one_meet (A n) (B n) (C n) in
    let rest = count_meet n A B C in
    omega arith

some_counted : (n : ℕ) (A : ℕ → Bool) → 0 < count n A → (p : ℕ) × (p < n) × (A p ≡ true)
unfolding count
some_counted zero A h = absurd (omega arith)
some_counted (suc n) A h = go (cases_Bool (A n)) (some_counted n A)
  where
    go : (A n ≡ true) ⊎ (A n ≡ false) → (0 < count n A → (p : ℕ) × (p < n) × (A p ≡ true)) → (p : ℕ) × (p < suc n) × (A p ≡ true)
    go (inl e) rest = (n, omega arith, e)
    go (inr e) rest =
        let z : ◌≡◌ {A = ℕ} (cond (A n) 1 0) 0 = rw e in
        let r = rest (omega arith) in
        (r.0, omega (arith, r.1), r.2)

-- two sets that have more members together than n and a third set share a member outside the third
pub count_share : (n : ℕ) (A B C : ℕ → Bool) → n + count n C < count n A + count n B → (p : ℕ) × (p < n) × (A p ≡ true) × (B p ≡ true) × (C p ≡ false)
count_share n A B C h =
    let m = count_meet n A B C in
    let w = some_counted n (λ p. A p && (B p && not (C p))) (omega arith) in
    let q = and_parts (A w.0) (B w.0 && not (C w.0)) w.2 in
    let r = and_parts (B w.0) (not (C w.0)) q.1 in
    (w.0, w.1, q.0, r.0, not-true (C w.0) r.1)
