-- Numbers in a fixed count of hexadecimal characters. Assumes nothing.
use Rattle.std.proofs.Common.{◌≡◌, ℕ, zero, suc, ◌+◌, ◌*◌, ◌/◌, ◌%◌, ◌^◌, ◌<◌, ◌≤◌, List, [], ◌∷◌, ◌++◌, length, take, drop, set, sym, refl, ap, ◌∙◌, append_assoc, lt_of_lt_of_le, pow-suc, add-one, arith, length-append}
use native.Mathlib.Nat.{pow-le-pow_right}
use Rattle.std.specs.List.{AllByRecursion}
use Rattle.std.proofs.ByRecursion.{All-append}
use Rattle.std.proofs.lemmas.List.{drop-set, take_at, drop_at, same_from_push}
use Rattle.std.proofs.lemmas.Bool.Decides.{nat_tests}
use Rattle.hexadecimal.specs.Hex.{Hex, char_of, digits}

pub length_digits : (k n : ℕ) → length (digits k n) ≡ k
unfolding digits
length_digits zero n = refl
length_digits (suc k) n = omega (arith, length_digits k (n / 16), length-append {A = ℕ})

-- one more digit at the end
pub digits_more : (k n d : ℕ) → d < 16 → digits (k + 1) (n * 16 + d) ≡ digits k n ++ char_of d ∷ []
unfolding digits
digits_more k n d h = grind arith

pub bound_more : (k n d : ℕ) → n < 16 ^ k → d < 16 → n * 16 + d < 16 ^ (k + 1)
bound_more k n d h l = rw (add-one, pow-suc) (omega arith)

pub below_all : (k n : ℕ) → n < 16 ^ k → k ≤ 15 → n < 16 ^ 15
below_all k n h l = lt_of_lt_of_le h (pow-le-pow_right (omega arith) l)

-- one more digit written in front of those that are written
pub put_more : (out : List ℕ) (j k n : ℕ) → j ≡ suc k → j ≤ length out → digits k (n / 16) ++ drop k (set out k (char_of (n % 16))) ≡ digits j n ++ drop j out
unfolding digits
put_more out j k n e h = rw (drop-set out k (char_of (n % 16)) (omega arith), e, append_assoc (digits k (n / 16)) (char_of (n % 16) ∷ []) (drop (suc k) out), add-one)

char_same : (a b : ℕ) → a < 16 → b < 16 → char_of a ≡ char_of b → a ≡ b
char_same a b l m e = grind (arith, nat_tests)

-- a number below 16 ^ k is known by its k digits
pub digits_same : (k m n : ℕ) → m < 16 ^ k → n < 16 ^ k → digits k m ≡ digits k n → m ≡ n
unfolding digits
digits_same zero m n l h e = omega arith
digits_same (suc k) m n l h e =
    let p = same_from_push (digits k (m / 16)) (digits k (n / 16)) (char_of (m % 16)) (char_of (n % 16)) e in
    let q : m / 16 ≡ n / 16 = digits_same k (m / 16) (n / 16) (omega (arith, rw pow-suc at l)) (omega (arith, rw pow-suc at h)) p.0 in
    let r : m % 16 ≡ n % 16 = char_same (m % 16) (n % 16) (omega arith) (omega arith) p.1 in
    omega arith

-- where as many digits stand in front, those are the same, and so is the rest
pub split_digits : (k m n : ℕ) (x y : List ℕ) → digits k m ++ x ≡ digits k n ++ y → (digits k m ≡ digits k n) × (x ≡ y)
split_digits k m n x y e = (
  sym (take_at (digits k m) x k (length_digits k m)) ∙ ap (take k) e ∙ take_at (digits k n) y k (length_digits k n),
  sym (drop_at (digits k m) x k (length_digits k m)) ∙ ap (drop k) e ∙ drop_at (digits k n) y k (length_digits k n),
)

char_hex : (d : ℕ) → d < 16 → Hex (char_of d)
char_hex d h = grind (arith, nat_tests)

-- digits are hexadecimal
pub digits_hex : (k n : ℕ) → AllByRecursion Hex (digits k n)
unfolding digits
digits_hex zero n = tt
digits_hex (suc k) n = All-append Hex (digits k (n / 16)) (char_of (n % 16) ∷ []) (digits_hex k (n / 16)) (char_hex (n % 16) (omega arith), tt)
