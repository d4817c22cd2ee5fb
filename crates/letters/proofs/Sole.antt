-- The rule for reading a line leaves no choice. Assumes nothing.
use Rattle.std.proofs.Common.{◌≡◌, ℕ, List, Ok, Err, Result, sym, refl, ap, ◌∙◌, subst, ⊎_elim, arith}
use Rattle.lines.specs.Damage.{Applies}
use Rattle.lines.specs.declared.damage.Damage.{Damage}
use Rattle.lines.specs.declared.damage.Layer.{Layer}
use Rattle.lines.specs.declared.damage.Layer.TheVariants.{Text, Frame}
use Rattle.letters.specs.Layout.{line_of, Fits}
use Rattle.letters.specs.Reading.{DamagedIn, FrameDamaged, OnlyLine, Read, ReadsBack, Sole, UnknownCode, WrongLength}
use Rattle.letters.specs.declared.letter.Letter.{Letter}
use Rattle.letters.proofs.Law.{err_not_ok, frame_whole, line_same, line_sound, ok_back, ok_only}

-- an unknown code has no wrong length
apart : (line : List ℕ) → UnknownCode line → WrongLength line → ⊥
apart line u = ⊎_elim (λ short. omega (arith, u.0)) (λ t. u.1 t.0 t.1)

column_same : (line : List ℕ) (x y : ℕ) → FrameDamaged line x → FrameDamaged line y → x ≡ y
column_same line x y =
    ⊎_elim
    (λ h. ⊎_elim (λ k. omega (arith, h.1, k.1)) (λ k. absurd (apart line h.0 k.0)))
    (λ h. ⊎_elim (λ k. absurd (apart line k.0 h.0)) (λ k. omega (arith, h.1, k.1)))

damaged_same : (line : List ℕ) (a b : Layer) (x y : ℕ) → DamagedIn a line x → DamagedIn b line y → (a ≡ b) × (x ≡ y)
damaged_same line Text Text x y h k = (refl, omega (arith, h.1 y k.0, k.1 x h.0))
damaged_same line Text Frame x y h k = absurd (k.0 x h.0)
damaged_same line Frame Text x y h k = absurd (h.0 y k.0)
damaged_same line Frame Frame x y h k = (refl, column_same line x y h.1 k.1)

damage_same : (d e : Damage) → d.layer ≡ e.layer → d.column ≡ e.column → d ≡ e
damage_same d e p q = λ i. record { layer = p i; column = q i }

-- a letter's line is not damaged
whole : (line : List ℕ) (l : Letter) (a : Layer) (x : ℕ) → line ≡ line_of l → Fits l → DamagedIn a line x → ⊥
whole line l Text x e f h = line_sound l x (subst (λ t. Applies t x) e h.0)
whole line l Frame x e f h = frame_whole line l x e h.1

pub read_sole : (line : List ℕ) (r : Result Letter Damage) → Read line r → Sole line r
read_sole line (Ok m) h (Ok l) k = ap Ok (line_same l m k.1 h.1 (sym k.0 ∙ h.0))
read_sole line (Ok m) h (Err d) k = absurd (whole line m d.layer d.column h.0 h.1 k)
read_sole line (Err d) h (Ok l) k = absurd (whole line l d.layer d.column k.0 k.1 h)
read_sole line (Err d) h (Err e) k =
    let same = damaged_same line e.layer d.layer e.column d.column k h in
    ap Err (damage_same e d same.0 same.1)

-- what reading answers keeps the law, both ways
pub read_only : (line : List ℕ) (r : Result Letter Damage) → Read line r → OnlyLine line r
read_only line (Ok m) h = ok_only line m h.0
read_only line (Err d) h = λ l e. absurd (err_not_ok d l e)

pub read_back : (line : List ℕ) (r : Result Letter Damage) → Read line r → ReadsBack line r
read_back line (Ok m) h = ok_back line m h
read_back line (Err d) h = λ l f e. absurd (whole line l d.layer d.column e f h)
