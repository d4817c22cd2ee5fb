-- What a mask names: after a post is added, past its width, and below a bound. Assumes nothing.
use Rattle.std.proofs.Common.{◌≡◌, ℕ, zero, suc, ◌+◌, ◌-◌, ◌*◌, ◌/◌, ◌%◌, ◌^◌, ◌<◌, ◌≤◌, false, cond, ◌||◌, eqb, sym, refl, ap, ◌∙◌, subst, inl, inr, mod-lt, pow-suc, arith, pow_pos, pow_mono}
use native.Mathlib.Nat.{div_self, div-eq_of_lt, zero-div, mul-mod_left}
use lib.Bits.{bit_or, or_shr, or_mod, or_zero_r}
use Rattle.std.proofs.lemmas.Nat.{one_shl, pow-add, shl-shr, pow_below, shr_below, shr_split}
use Rattle.std.proofs.lemmas.Bool.{or_left, eqb-true, eqb-false, eq-eqb, ne_eqb, lt-ltb, le-ltb, cases_order, cases_lt, cases_Bool}
use Rattle.masks.specs.Masks.{named, naming, Inside}

-- the digit of 2 ^ p at x
digit_same : (p : ℕ) → 2 ^ p / 2 ^ p % 2 ≡ 1
digit_same p = ap (λ (y : ℕ). y % 2) (div_self (pow_pos p))

digit_above : (p x : ℕ) → p < x → 2 ^ p / 2 ^ x % 2 ≡ 0
digit_above p x h = ap (λ (y : ℕ). y % 2) (div-eq_of_lt (pow_below p x h))

digit_below : (p x : ℕ) → x < p → 2 ^ p / 2 ^ x % 2 ≡ 0
digit_below p x h =
    let d = p - x - 1 in
    let e : p ≡ suc d + x = omega arith in
    let q : 2 ^ p ≡ 2 ^ suc d * 2 ^ x = ap (λ (y : ℕ). 2 ^ y) e ∙ pow-add 2 (suc d) x in
    let r : 2 ^ p / 2 ^ x ≡ 2 ^ d * 2 = ap (λ (y : ℕ). y / 2 ^ x) q ∙ shl-shr (2 ^ suc d) x ∙ pow-suc 2 d in
    ap (λ (y : ℕ). y % 2) r ∙ mul-mod_left (2 ^ d) 2

digits_or : (m p x : ℕ) → bit_or m (2 ^ p) / 2 ^ x % 2 ≡ bit_or (m / 2 ^ x % 2) (2 ^ p / 2 ^ x % 2)
digits_or m p x = ap (λ (y : ℕ). y % 2) (or_shr m (2 ^ p) x) ∙ or_mod (m / 2 ^ x) (2 ^ p / 2 ^ x) 1

or_one : (d : ℕ) → d < 2 → bit_or d 1 ≡ 1
or_one zero h = refl
or_one (suc zero) h = refl
or_one (suc (suc d)) h = absurd (omega arith)

named_or : (m p x : ℕ) → named (bit_or m (2 ^ p)) x ≡ (eqb x p || named m x)
unfolding named
named_or m p x = elim (cases_order x p) [
  | inl e ↦
      let d : bit_or m (2 ^ p) / 2 ^ x % 2 ≡ 1 = digits_or m p x ∙ ap (λ (y : ℕ). bit_or (m / 2 ^ x % 2) y) (rw e (digit_same p)) ∙ or_one (m / 2 ^ x % 2) (mod-lt (m / 2 ^ x) (omega arith)) in
      ap (λ (y : ℕ). eqb y 1) d ∙ sym (or_left (eqb x p) (named m x) (eq-eqb x p e))
  | inr k ↦
      let z : 2 ^ p / 2 ^ x % 2 ≡ 0 = elim k [ inl l ↦ digit_below p x l | inr l ↦ digit_above p x l ] in
      let d : bit_or m (2 ^ p) / 2 ^ x % 2 ≡ m / 2 ^ x % 2 = digits_or m p x ∙ ap (λ (y : ℕ). bit_or (m / 2 ^ x % 2) y) z ∙ or_zero_r (m / 2 ^ x % 2) in
      let f : eqb x p ≡ false = ne_eqb x p (λ e. elim k [ inl l ↦ omega arith | inr l ↦ omega arith ]) in
      ap (λ (y : ℕ). eqb y 1) d ∙ rw f refl
]

-- the text of `naming`, where the post has a bit and where it has none
pub naming_low : (m p : ℕ) → p < 64 → naming m p ≡ bit_or m (2 ^ p)
unfolding naming
naming_low m p h = ap (λ b. cond b (bit_or m (2 ^ p)) m) (lt-ltb p 64 h)

pub naming_high : (m p : ℕ) → 64 ≤ p → naming m p ≡ m
unfolding naming
naming_high m p h = ap (λ b. cond b (bit_or m (2 ^ p)) m) (le-ltb p 64 h)

-- what `mask | 1 << q` is
pub or_naming : (m q : ℕ) → q < 64 → bit_or m (1 * 2 ^ q % 2 ^ 64) ≡ naming m q
or_naming m q h = ap (bit_or m) (one_shl q 64 h) ∙ sym (naming_low m q h)

-- a post is named after adding q exactly if it is q or was named before
pub named-naming : (m q p : ℕ) → q < 64 → named (naming m q) p ≡ (eqb p q || named m p)
named-naming m q p h = ap (λ x. named x p) (naming_low m q h) ∙ named_or m q p

pub named_zero : (p : ℕ) → named 0 p ≡ false
unfolding named
named_zero p = rw (zero-div (2 ^ p))

-- a mask of n bits names posts below n alone
pub below_inside : (m n : ℕ) → m < 2 ^ n → Inside m n
unfolding named
below_inside m n h p t = elim (cases_lt p n) [
  | inl l ↦ l
  | inr l ↦
      let z : m / 2 ^ p ≡ 0 = div-eq_of_lt (omega (arith, h, pow_mono l)) in
      let one : m / 2 ^ p % 2 ≡ 1 = eqb-true (m / 2 ^ p % 2) 1 t in
      absurd (omega (arith, ap (λ (y : ℕ). y % 2) z))
]

pub named_past : (m n p : ℕ) → m < 2 ^ n → n ≤ p → named m p ≡ false
named_past m n p h l = elim (cases_Bool (named m p)) [ inl t ↦ absurd (omega (arith, below_inside m n h p t)) | inr t ↦ t ]

pub below_from_shift : (m n : ℕ) → m / 2 ^ n ≡ 0 → m < 2 ^ n
below_from_shift m n h = omega (arith, rw h at (shr_split m n), mod-lt m (pow_pos n))

-- one bit fewer: where the highest is not set
narrower : (m n : ℕ) → m < 2 ^ suc n → named m n ≡ false → m < 2 ^ n
unfolding named
narrower m n h t =
    let grown : suc n ≡ 1 + n = omega arith in
    let low : m / 2 ^ n < 2 = shr_below m 1 n (subst (λ k. m < 2 ^ k) grown h) in
    let off : (m / 2 ^ n % 2 ≡ 1) → ⊥ = eqb-false (m / 2 ^ n % 2) 1 t in
    below_from_shift m n (omega arith)

inside_narrows : (k m n : ℕ) → m < 2 ^ (k + n) → Inside m n → m < 2 ^ n
inside_narrows zero m n h i = let same : 0 + n ≡ n = omega arith in subst (λ k. m < 2 ^ k) same h
inside_narrows (suc k) m n h i =
    let same : suc k + n ≡ suc (k + n) = omega arith in
    let off : named m (k + n) ≡ false = elim (cases_Bool (named m (k + n))) [ inl t ↦ absurd (omega (arith, i (k + n) t)) | inr t ↦ t ] in
    inside_narrows k m n (narrower m (k + n) (subst (λ j. m < 2 ^ j) same h) off) i

-- a mask of 64 bits that names posts below n alone has no bits from n on
pub inside_below : (m n : ℕ) → m < 2 ^ 64 → Inside m n → m < 2 ^ n
inside_below m n h i =
    let most : 64 ≤ 64 + n = omega arith in
    let wide : 2 ^ 64 ≤ 2 ^ (64 + n) = pow_mono most in
    inside_narrows 64 m n (omega arith) i
