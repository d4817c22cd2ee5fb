-- Which editions a check admits, as tests.
-- A reader must believe: `in_list`, the editions of a list but for 0; and `remainder_one`, those that
-- leave remainder 1 on division by 97.
use Rattle.std.specs.Prelude.{ℕ, ◌%◌, Bool, not, ◌&&◌, List, ◌==◌, nat_eq}
use Rattle.std.specs.List.{list_any}

-- the number stands in the list
abbrev pub among : List ℕ → ℕ → Bool
among xs e = list_any (λ x. nat_eq x e) xs

-- it stands in the list, and is not 0
abbrev pub in_list : List ℕ → ℕ → Bool
in_list xs e = not (e == 0) && among xs e

-- it leaves remainder 1 on division by 97
abbrev pub remainder_one : ℕ → Bool
remainder_one e = e % 97 == 1
