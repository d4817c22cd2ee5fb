-- Sets of posts: tests that are counted below a bound, and masks, which name a post by a bit.
-- A reader must believe: `named`, that bit p names post p; and `count`, how many below n pass a test.
use Rattle.std.specs.Prelude.{◌≡◌, ℕ, zero, suc, ◌+◌, ◌/◌, ◌%◌, ◌^◌, ◌<◌, Bool, true, cond, ◌==◌, bit_or, nat_lt}

-- how many of the numbers below n pass the test
unfoldable pub count : ℕ → (ℕ → Bool) → ℕ
count zero A = 0
count (suc n) A = cond (A n) 1 0 + count n A

-- the mask names post p: its bit p is 1
unfoldable pub named : ℕ → ℕ → Bool
named mask p = mask / 2 ^ p % 2 == 1

-- the mask with post p named too, where p has a bit
unfoldable pub naming : ℕ → ℕ → ℕ
naming mask p = cond (nat_lt p 64) (bit_or mask (2 ^ p)) mask

-- how many posts a mask of 64 bits names
unfoldable pub tally : ℕ → ℕ
tally mask = count 64 (named mask)

-- the mask names posts below n alone
abbrev pub Inside : ℕ → ℕ → Type 0
Inside mask n = (p : ℕ) → named mask p ≡ true → p < n
