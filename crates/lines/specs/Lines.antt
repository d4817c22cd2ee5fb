-- The lines of an input.
-- A reader must believe: a line runs up to byte 0a (10) or the input's end (`RunsTo`, which
-- `first_line` and `after_line` are proved to meet), and a further line is there only where bytes are.
use Rattle.std.specs.Prelude.{◌≡◌, ℕ, zero, suc, cond, ◌⊎◌, List, [], ◌∷◌, ◌++◌, ◌==◌, ◌≢◌}
use Rattle.std.specs.List.{AllByRecursion}

-- the first line, and what follows it
abbrev pub first_line : List ℕ → List ℕ
first_line [] = []
first_line (b ∷ bs) = cond (b == 10) [] (b ∷ first_line bs)

abbrev pub after_line : List ℕ → List ℕ
after_line [] = []
after_line (b ∷ bs) = cond (b == 10) bs (after_line bs)

-- the rule itself: the line has no 0a, and then comes a 0a and the rest, or nothing at all
abbrev pub RunsTo : List ℕ → List ℕ → List ℕ → Type 0
RunsTo input line rest = AllByRecursion (λ b. b ≢ 10) line × ((input ≡ line ++ 10 ∷ rest) ⊎ ((input ≡ line) × (rest ≡ [])))

-- what is left of an input after its first k lines
abbrev pub rest_after : ℕ → List ℕ → List ℕ
rest_after zero input = input
rest_after (suc k) input = after_line (rest_after k input)

-- the line that has k lines before it
abbrev pub line_after : ℕ → List ℕ → List ℕ
line_after k input = first_line (rest_after k input)
