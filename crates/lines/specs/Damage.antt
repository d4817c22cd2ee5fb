-- The two layers by number and name, and layer 1: where the text of a line is damaged.
-- A reader must believe: the three reasons, that the least column counts, `Fronts`, and the words of a
-- damage.
use Rattle.std.specs.Prelude.{◌≡◌, ℕ, ◌+◌, ◌%◌, ◌<◌, ◌≤◌, Bool, true, false, ◌⊎◌, List, ◌++◌, length, take, codes, nat_lt, slice_index}
use Rattle.hexadecimal.specs.Hex.{Hex}
use Rattle.std.specs.Fmt.{decimal}
use Rattle.lines.specs.declared.damage.Damage.{Damage}
use Rattle.lines.specs.declared.damage.Layer.{Layer}
use Rattle.lines.specs.declared.damage.Layer.TheVariants.{Text, Frame}

-- the number of a layer
abbrev pub layer_number : Layer → ℕ
layer_number Text = 1
layer_number Frame = 2

-- its name
abbrev pub layer_word : Layer → List ℕ
layer_word Text = codes "text"
layer_word Frame = codes "frame"

-- a damage in words
abbrev pub damage_text : Damage → List ℕ
damage_text damage = codes "layer " ++ decimal (layer_number damage.layer) ++ codes " (" ++ layer_word damage.layer ++ codes "), column " ++ decimal damage.column

-- a character that is not hexadecimal stands at this column, counted from 1
abbrev pub Wrong : List ℕ → ℕ → Type 0
Wrong line column = (i : ℕ) × (column ≡ i + 1) × (i < length line) × (Hex (slice_index line i) → ⊥)

-- the line has an odd number of characters, and this column is one past its end
abbrev pub OddEnd : List ℕ → ℕ → Type 0
OddEnd line column = (length line % 2 ≡ 1) × (column ≡ length line + 1)

-- the line has more than 512 characters, and this column is the first past them
abbrev pub Overlong : List ℕ → ℕ → Type 0
Overlong line column = (512 < length line) × (column ≡ 513)

-- a reason to call the line damaged at this column
abbrev pub Applies : List ℕ → ℕ → Type 0
Applies line column = Wrong line column ⊎ (OddEnd line column ⊎ Overlong line column)

-- the least number of which something holds
abbrev pub Least : (ℕ → Type 0) → ℕ → Type 0
Least P n = P n × ((other : ℕ) → P other → n ≤ other)

-- the least column that applies
abbrev pub DamagedAt : List ℕ → ℕ → Type 0
DamagedAt line column = Least (Applies line) column

-- no column applies
abbrev pub Sound : List ℕ → Type 0
Sound line = (column : ℕ) → Applies line column → ⊥

-- a line seen through its first 512 characters, and whether it has more
abbrev pub Fronts : List ℕ → Bool → List ℕ → Type 0
Fronts front longer line = (front ≡ take 512 line) × (longer ≡ nat_lt 512 (length line))

-- `Applies`, said of what is seen
abbrev pub FrontApplies : List ℕ → Bool → ℕ → Type 0
FrontApplies front longer column = Wrong front column ⊎ (((longer ≡ false) × OddEnd front column) ⊎ ((longer ≡ true) × (column ≡ 513)))

-- `DamagedAt`, said of what is seen
abbrev pub FrontDamagedAt : List ℕ → Bool → ℕ → Type 0
FrontDamagedAt front longer column = Least (FrontApplies front longer) column
