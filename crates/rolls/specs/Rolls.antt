-- What a roll answers, and what adding to it leaves.
-- A reader must believe: which letter a number has, that adding is all or nothing, and who is behind
-- a kind and view.
use Rattle.std.specs.Prelude.{◌≡◌, ℕ, ◌+◌, ◌<◌, ◌≤◌, ◌⊎◌, List, ◌++◌, length, Ok, Err, vec_items, Result, ◌≢◌}
use Rattle.std.specs.List.{HoldsAt}
use Rattle.refusals.specs.declared.Refusal.{Refusal}
use Rattle.refusals.specs.declared.Refusal.TheVariants.{Malformed, NoSuchLetter, RollFull}
use Rattle.masks.specs.Senders.{Senders}
use Rattle.council.specs.Statements.{last_view}
use Rattle.letters.specs.Layout.{code_at, code_of}
use Rattle.letters.specs.declared.kind.Kind.{Kind}
use Rattle.letters.specs.declared.letter.Letter.{Letter}
use Rattle.rolls.specs.declared.roll.Roll.{Roll}

-- a letter's number fits two bytes
abbrev pub most_places : ℕ
most_places = 65535

-- the letters on a roll
abbrev pub letters_of : Roll → List Letter
letters_of r = vec_items r.letters

-- the letter with that number, or a refusal where it is not on the roll
abbrev pub LetterAt : List Letter → ℕ → Result Letter Refusal → Type 0
LetterAt ls k (Ok l) = (k < length ls) × HoldsAt (λ m. m ≡ l) ls k
LetterAt ls k (Err e) = (e ≡ NoSuchLetter) × (length ls ≤ k)

-- all the letters were added in their order, or there were not places for all, and nothing changed
abbrev pub Added : Roll → List Letter → Roll → Result (Unit {0}) Refusal → Type 0
Added r ls s (Ok u) = (length (letters_of r) + length ls ≤ r.places) × (letters_of s ≡ letters_of r ++ ls) × (s.places ≡ r.places)
Added r ls s (Err e) = (e ≡ RollFull) × (r.places < length (letters_of r) + length ls) × (s ≡ r)

-- no kind of letter has the code, or there is no such view
abbrev pub NoSuchMatter : ℕ → ℕ → Type 0
NoSuchMatter code view = ((k : Kind) → code_at k ≢ code) ⊎ ((view < 1) ⊎ (last_view < view))

-- the mask of the senders of the letters of that kind and view, or a refusal where there is none such
abbrev pub Asked : List Letter → ℕ → ℕ → Result ℕ Refusal → Type 0
Asked ls code view (Ok mask) = Senders {M = ℕ × ℕ} (λ l. l.sender) (λ l. (code_of l.body, l.view)) ls (length ls) (code, view) mask
Asked ls code view (Err e) = (e ≡ Malformed) × NoSuchMatter code view
