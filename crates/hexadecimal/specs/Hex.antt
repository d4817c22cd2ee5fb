-- Hexadecimal: the sixteen characters, and a number in a fixed count of them.
-- A reader must believe: `Hex` names the right characters, `char_of` the right one for each value,
-- and `digits` puts the highest digit first.
use Rattle.std.specs.Prelude.{◌≡◌, ℕ, zero, suc, ◌+◌, ◌/◌, ◌%◌, ◌^◌, ◌<◌, ◌≤◌, cond, ◌⊎◌, List, [], ◌∷◌, ◌++◌, length, Some, None, Option, nat_lt}
use Rattle.std.specs.List.{AllByRecursion}

-- c lies from lo to hi
abbrev pub In : ℕ → ℕ → ℕ → Type 0
In lo hi c = (lo ≤ c) × (c ≤ hi)

-- a character of hexadecimal: 0 to 9 (codes 48 to 57) or small a to f (97 to 102)
abbrev pub Hex : ℕ → Type 0
Hex c = In 48 57 c ⊎ In 97 102 c

-- the character that stands for a value below sixteen
abbrev pub char_of : ℕ → ℕ
char_of d = cond (nat_lt d 10) (48 + d) (87 + d)

-- the last k hexadecimal digits of n, the highest first; `unfoldable`, so that goals over long
-- frames stay short
unfoldable pub digits : ℕ → ℕ → List ℕ
digits zero n = []
digits (suc k) n = digits k (n / 16) ++ char_of (n % 16) ∷ []

-- what a character is worth: the digit it stands for, and nothing where it is not hexadecimal
abbrev pub Worth : ℕ → Option ℕ → Type 0
Worth c None = Hex c → ⊥
Worth c (Some d) = Hex c × (d < 16) × (c ≡ char_of d)

-- what a text is as a number: the one whose digits it is, and nothing where it has more than sixteen
-- characters or one that is not hexadecimal
abbrev pub AsNumber : List ℕ → Option ℕ → Type 0
AsNumber text None = (16 < length text) ⊎ (AllByRecursion Hex text → ⊥)
AsNumber text (Some n) = (n < 16 ^ length text) × (text ≡ digits (length text) n)
