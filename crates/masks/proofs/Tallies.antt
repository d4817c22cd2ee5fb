-- How many posts a mask names: what `count_ones` answers, and as many as it names below n, where it
-- names no others. Assumes nothing.
use Rattle.std.proofs.Common.{◌≡◌, ℕ, zero, suc, ◌+◌, ◌/◌, ◌%◌, ◌^◌, ◌<◌, ◌≤◌, Bool, false, cond, eqb, sym, refl, ap, ◌∙◌, inl, inr, div-one, arith}
use lib.Count.{ones, ones_step, ones-le}
use Rattle.std.proofs.lemmas.Nat.{shr-shr}
use Rattle.std.proofs.lemmas.Bool.{eq-eqb, ne_eqb, cases_eq}
use Rattle.masks.specs.Masks.{count, named, naming, tally, Inside}
use Rattle.masks.proofs.Counting.{count_same, count_none, count_up, count_inside, count_with}
use Rattle.masks.proofs.Naming.{named_zero, named-naming}

count_shift : (n : ℕ) (A : ℕ → Bool) → count (suc n) A ≡ cond (A 0) 1 0 + count n (λ x. A (suc x))
unfolding count
count_shift zero A = refl
count_shift (suc n) A = let rest = count_shift n A in omega arith

named_half : (m p : ℕ) → named m (suc p) ≡ named (m / 2) p
unfolding named
named_half m p =
    let e : suc p ≡ 1 + p = omega arith in
    ap (λ (y : ℕ). eqb (y % 2) 1) (ap (λ (k : ℕ). m / 2 ^ k) e ∙ sym (shr-shr m 1 p))

named_low : (m : ℕ) → cond (named m 0) 1 0 ≡ m % 2
unfolding named
named_low m = elim (cases_eq (m / 1 % 2) 1) [
  | inl e ↦ rw (eq-eqb (m / 1 % 2) 1 e) (sym e ∙ ap (λ (y : ℕ). y % 2) (div-one m))
  | inr n ↦ let z : m / 1 % 2 ≡ 0 = omega arith in rw (ne_eqb (m / 1 % 2) 1 n) (sym z ∙ ap (λ (y : ℕ). y % 2) (div-one m))
]

pub count_ones : (n m : ℕ) → m < 2 ^ n → count n (named m) ≡ ones m
unfolding count
count_ones zero m h = omega (arith, ones-le 0 m h)
count_ones (suc n) m h =
    let half : m / 2 < 2 ^ n = omega arith in
    let rest = count_same n (λ p. named m (suc p)) (named (m / 2)) (λ p _. named_half m p) ∙ count_ones n (m / 2) half in
    let all = count_shift n (named m) in
    let low = named_low m in
    let step = ones_step m in
    omega arith

pub ones_tally : (m : ℕ) → m < 2 ^ 64 → ones m ≡ tally m
unfolding tally
ones_tally m h = sym (count_ones 64 m h)

-- where a mask names posts below n alone, it names as many as it names below n
pub tally_inside : (n m : ℕ) → n ≤ 64 → Inside m n → tally m ≡ count n (named m)
unfolding tally
tally_inside n m h i = omega (arith, count_up 64 n (named m) h, count_inside 64 n (named m) i)

pub tally_none : tally 0 ≡ 0
unfolding tally
tally_none = count_none 64 (named 0) named_zero

-- one post more
pub tally-naming : (m q : ℕ) → q < 64 → named m q ≡ false → tally (naming m q) ≡ tally m + 1
unfolding tally
tally-naming m q h none = count_with 64 q (named m) (named (naming m q)) h none (λ p. named-naming m q p h)
