-- What a tally counts: of each sort, how many entries there were.
-- A reader must believe: `Tallies`, each count beside the test for its sort.
use Rattle.std.specs.Prelude.{◌≡◌, ℕ, ◌+◌, ◌<◌, ◌≤◌, Bool, true, false, cond, List, [], ◌∷◌, ◌++◌, length, ◌==◌}
use Rattle.std.specs.List.{count_by}
use Rattle.lines.specs.declared.damage.Layer.{Layer}
use Rattle.lines.specs.declared.damage.Layer.TheVariants.{Text, Frame}
use Rattle.letters.specs.Layout.{code_at, code_of}
use Rattle.letters.specs.declared.kind.Kind.{Kind}
use Rattle.letters.specs.declared.kind.Kind.TheVariants as kind
use Rattle.listing.specs.declared.entry.Entry.{Entry}
use Rattle.listing.specs.declared.entry.Entry.TheVariants.{Note, Letter, Damaged}
use Rattle.listing.specs.declared.tally.Tally.{Tally}

abbrev pub is_note : Entry → Bool
is_note Note = true
is_note (Letter l) = false
is_note (Damaged d) = false

-- a letter of this kind
abbrev pub is_letter : Kind → Entry → Bool
is_letter k Note = false
is_letter k (Letter l) = code_of l.body == code_at k
is_letter k (Damaged d) = false

abbrev pub in_text : Layer → Bool
in_text Text = true
in_text Frame = false

abbrev pub in_frame : Layer → Bool
in_frame Text = false
in_frame Frame = true

-- damaged in a layer that passes a test
abbrev pub is_damaged : (Layer → Bool) → Entry → Bool
is_damaged p Note = false
is_damaged p (Letter l) = false
is_damaged p (Damaged d) = p d.layer

-- the letters that were counted
abbrev pub letters_in : Tally → ℕ
letters_in t = t.send + t.ack + t.done + t.skip_share + t.skip + t.view_change

-- the lines that were counted
abbrev pub lines_in : Tally → ℕ
lines_in t = letters_in t + t.notes + t.text + t.frame

-- one entry more: its sort's count is one higher, every other stays
pub record Adds (e : Entry) (t t' : Tally) : Type 0 where
  pub send : t'.send ≡ t.send + cond (is_letter kind.Send e) 1 0
  pub ack : t'.ack ≡ t.ack + cond (is_letter kind.Ack e) 1 0
  pub done : t'.done ≡ t.done + cond (is_letter kind.Done e) 1 0
  pub skip_share : t'.skip_share ≡ t.skip_share + cond (is_letter kind.SkipShare e) 1 0
  pub skip : t'.skip ≡ t.skip + cond (is_letter kind.Skip e) 1 0
  pub view_change : t'.view_change ≡ t.view_change + cond (is_letter kind.ViewChange e) 1 0
  pub notes : t'.notes ≡ t.notes + cond (is_note e) 1 0
  pub text : t'.text ≡ t.text + cond (is_damaged in_text e) 1 0
  pub frame : t'.frame ≡ t.frame + cond (is_damaged in_frame e) 1 0
  pub all : lines_in t' ≡ lines_in t + 1

-- each count is that of its sort, and every entry is counted once
pub record Tallies (es : List Entry) (t : Tally) : Type 0 where
  pub send : t.send ≡ count_by (is_letter kind.Send) es
  pub ack : t.ack ≡ count_by (is_letter kind.Ack) es
  pub done : t.done ≡ count_by (is_letter kind.Done) es
  pub skip_share : t.skip_share ≡ count_by (is_letter kind.SkipShare) es
  pub skip : t.skip ≡ count_by (is_letter kind.Skip) es
  pub view_change : t.view_change ≡ count_by (is_letter kind.ViewChange) es
  pub notes : t.notes ≡ count_by is_note es
  pub text : t.text ≡ count_by (is_damaged in_text) es
  pub frame : t.frame ≡ count_by (is_damaged in_frame) es
  pub all : lines_in t ≡ length es

-- counting an entry, and whether it was counted: a tally of 65,535 lines takes no more and stays as it is
abbrev pub Counted : Tally → Entry → Tally → Bool → Type 0
Counted t e t' true = (lines_in t < 65535) × Adds e t t' × ((es : List Entry) → Tallies es t → Tallies (es ++ e ∷ []) t')
Counted t e t' false = (65535 ≤ lines_in t) × (t' ≡ t)
