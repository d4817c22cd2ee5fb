-- A line is judged by its first 512 characters and by whether it has more. Assumes nothing.
use Rattle.std.proofs.Common.{◌≡◌, ℕ, ◌+◌, ◌%◌, ◌<◌, ◌≤◌, min, Bool, true, false, List, length, get_or, Ok, Err, Result, sym, refl, ap, ◌∙◌, inl, inr, ⊎_elim, arith, length-take, MatchResult}
use Rattle.std.specs.List.{AllByRecursion}
use Rattle.std.proofs.ByRecursion.{All-from_get_or}
use Rattle.std.proofs.lemmas.List.{get_or-take, take_all}
use Rattle.std.proofs.lemmas.Bool.{cases_lt, ltb-true, ltb-false, lt-ltb, le-ltb}
use Rattle.hexadecimal.specs.Hex.{Hex}
use Rattle.lines.specs.Damage.{Applies, DamagedAt, Sound, Fronts, FrontApplies, FrontDamagedAt}
use Rattle.lines.specs.Judged.{IsNote}
use Rattle.lines.specs.declared.damage.Damage.{Damage}
use Rattle.lines.specs.declared.damage.Layer.TheVariants.{Text}
use Rattle.lines.specs.declared.sound.SoundText.{SoundText}

module _ (front line : List ℕ) (longer : Bool) (f : Fronts front longer line) where
  long : length front ≡ min 512 (length line)
  long = ap length f.0 ∙ length-take 512 line

  at : (i : ℕ) → i < 512 → get_or front i 0 ≡ get_or line i 0
  at i h = ap (λ l. get_or l i 0) f.0 ∙ get_or-take 512 line i 0 h

  more : longer ≡ true → 512 < length line
  more e = ltb-true 512 (length line) (sym f.1 ∙ e)

  pub no_more : longer ≡ false → length line ≤ 512
  no_more e = ltb-false 512 (length line) (sym f.1 ∙ e)

  pub note_line : IsNote front → IsNote line
  note_line h = grind (arith, long, at 0)

  pub note_front : IsNote line → IsNote front
  note_front h = grind (arith, long, at 0)

  over : 512 < length line → FrontApplies front longer 513
  over h = inr (inr (f.1 ∙ lt-ltb 512 (length line) h, refl))

  from_front : (d : ℕ) → FrontApplies front longer d → Applies line d
  from_front d h = grind (arith, long, at, more, no_more)

  to_front : (d : ℕ) → Applies line d → (e : ℕ) × FrontApplies front longer e × (e ≤ d)
  to_front d h =
      ⊎_elim
      (λ l. ⊎_elim (λ m. (513, over l, omega arith)) (λ m. (d, grind (arith, long, at), omega arith)) (cases_lt 512 d))
      (λ l. (d, grind (arith, long, at, f.1, le-ltb 512 (length line) l), omega arith))
      (cases_lt 512 (length line))

  pub damaged_whole : (column : ℕ) → FrontDamagedAt front longer column → DamagedAt line column
  damaged_whole column t = (from_front column t.0, λ d h. let e = to_front d h in omega (arith, t.1 e.0 e.1, e.2))

  pub sound_whole : ((column : ℕ) → FrontApplies front longer column → ⊥) → Sound line
  sound_whole none column h = let e = to_front column h in none e.0 e.1

  -- a sound line is all seen, and so is one that has no more
  pub front_whole : length line ≤ 512 → front ≡ line
  front_whole h = f.0 ∙ take_all 512 line h

-- a sound line has no more than 512 characters
pub sound_short : (line : List ℕ) → Sound line → length line ≤ 512
sound_short line sound = grind (arith, sound 513)

-- a sound line has no odd end
pub sound_even : (line : List ℕ) → Sound line → length line % 2 ≡ 0
sound_even line sound = grind (arith, sound (length line + 1))

hex_from : (c : ℕ) → ((Hex c → ⊥) → ⊥) → Hex c
hex_from c h = grind arith

-- a sound line is hexadecimal
pub sound_hex : (line : List ℕ) → Sound line → AllByRecursion Hex line
sound_hex line sound =
    All-from_get_or Hex line 0
    (λ i h. hex_from (get_or line i 0) (λ bad. sound _ (inl (i, refl, h, bad))))

-- what is found of the front is so of the line
pub text_whole : (front line : List ℕ) (longer : Bool) → Fronts front longer line → (r : Result SoundText Damage) → MatchResult r (λ part. (part.text.now ≡ front) × ((column : ℕ) → FrontApplies front longer column → ⊥)) (λ d. (d.layer ≡ Text) × FrontDamagedAt front longer d.column) → MatchResult r (λ part. part.text.now ≡ line) (λ d. (d.layer ≡ Text) × DamagedAt line d.column)
text_whole front line longer f (Ok part) h = h.0 ∙ front_whole front line longer f (sound_short line (sound_whole front line longer f h.1))
text_whole front line longer f (Err d) found = (found.0, damaged_whole front line longer f d.column found.1)
