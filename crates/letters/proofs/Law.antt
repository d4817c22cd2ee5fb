-- A line is the line of at most one letter, and reading finds that one. Assumes nothing.
use Rattle.std.proofs.Common.{◌≡◌, ℕ, ◌+◌, ◌*◌, ◌^◌, ◌<◌, ◌≤◌, ◌≢◌, inr, cond, eqb, List, [], ◌∷◌, ◌++◌, map, length, get_or, Ok, Err, Result, sym, refl, ap, ◌∙◌, subst, ⊎_elim, arith, length-append}
use Rattle.std.proofs.ByRecursion.{All-get_or}
use Rattle.hexadecimal.specs.Hex.{Hex, digits}
use Rattle.std.proofs.lemmas.List.{nil_from_length}
use Rattle.hexadecimal.proofs.Digits.{digits_same, length_digits, split_digits}
use Rattle.lines.specs.Damage.{Sound}
use Rattle.letters.specs.Parts.{Part, Took, before, byte, short, text, Fit}
use Rattle.letters.specs.Layout.{code_at, code_of, kind_of, line_of, parts_of, size_of, Fits}
use Rattle.letters.specs.Reading.{Begins, FrameDamaged, IsLine, OnlyLine, ReadsBack, UnknownCode, WrongLength}
use Rattle.letters.specs.declared.kind.Kind.{Kind}
use Rattle.letters.specs.declared.kind.Kind.TheVariants as kind
use Rattle.letters.specs.declared.letter.Body.{Body}
use Rattle.letters.specs.declared.letter.Body.TheVariants.{Send, Ack, Done, SkipShare, Skip, ViewChange}
use Rattle.letters.specs.declared.letter.Letter.{Letter}
use Rattle.letters.proofs.Frames.{begins, codes, line_hex, line_long, size_range, sized}

abbrev width : Part → ℕ
width p = p.0

abbrev value : Part → ℕ
value p = p.1

head_same : (a b : ℕ) (x y : List ℕ) → a ∷ x ≡ b ∷ y → a ≡ b
head_same a b x y e = cc

tail_same : (a b : ℕ) (x y : List ℕ) → a ∷ x ≡ b ∷ y → x ≡ y
tail_same a b x y e = cc

-- texts of the same widths are of the same numbers
values_same : (ps qs : List Part) → map width ps ≡ map width qs → Fit ps → Fit qs → text ps ≡ text qs → map value ps ≡ map value qs
values_same [] [] w f h e = refl
values_same [] (q ∷ qs) w f h e = absurd (omega (arith, ap length w))
values_same (p ∷ ps) [] w f h e = absurd (omega (arith, ap length w))
values_same (p ∷ ps) (q ∷ qs) w f h e =
    let same = head_same p.0 q.0 (map width ps) (map width qs) w in
    let d = split_digits (2 * p.0) p.1 q.1 (text ps) (text qs) (e ∙ ap (λ k. digits (2 * k) q.1 ++ text qs) (sym same)) in
    let v = digits_same (2 * p.0) p.1 q.1 f.0 (subst (λ k. q.1 < 16 ^ (2 * k)) (sym same) h.0) d.0 in
    let vs = values_same ps qs (tail_same p.0 q.0 (map width ps) (map width qs) w) f.1 h.1 d.1 in
    cc

-- the kind with a code
abbrev kind_at : ℕ → Kind
kind_at c =
    cond (eqb c 17) kind.Send
    (cond (eqb c 18) kind.Ack (cond (eqb c 19) kind.Done (cond (eqb c 20) kind.SkipShare (cond (eqb c 21) kind.Skip kind.ViewChange))))

kind_is : (k : Kind) → kind_at (code_at k) ≡ k
kind_is kind.Send = refl
kind_is kind.Ack = refl
kind_is kind.Done = refl
kind_is kind.SkipShare = refl
kind_is kind.Skip = refl
kind_is kind.ViewChange = refl

-- kinds with one code are one kind
pub kind_same : (j k : Kind) → code_at j ≡ code_at k → j ≡ k
kind_same j k e = sym (kind_is j) ∙ ap kind_at e ∙ kind_is k

-- so are kinds with which one line begins
pub begins_same : (line : List ℕ) (j k : Kind) → Begins line (code_at j) → Begins line (code_at k) → j ≡ k
begins_same line j k b d =
    kind_same j k (digits_same 2 (code_at j) (code_at k) (omega (arith, codes j)) (omega (arith, codes k)) (sym b ∙ d))

-- the widths of a frame's fields after the code, by the kind
abbrev widths_at : Kind → List ℕ
widths_at kind.Send = 1 ∷ 2 ∷ 1 ∷ 8 ∷ 2 ∷ 8 ∷ []
widths_at kind.Ack = 1 ∷ 2 ∷ 1 ∷ 1 ∷ 8 ∷ []
widths_at kind.Done = 1 ∷ 2 ∷ 8 ∷ 8 ∷ []
widths_at kind.SkipShare = 1 ∷ 2 ∷ []
widths_at kind.Skip = 1 ∷ 2 ∷ 8 ∷ []
widths_at kind.ViewChange = 1 ∷ 2 ∷ 8 ∷ 8 ∷ 8 ∷ 8 ∷ 8 ∷ 8 ∷ []

-- what a letter of the kind says with these numbers after the code
abbrev pub body_at : Kind → List ℕ → Body
body_at kind.Send vs = Send (record { step = get_or vs 2 0; edition = get_or vs 3 0; key_view = get_or vs 4 0; mask = get_or vs 5 0 })
body_at kind.Ack vs = Ack (record { lead = get_or vs 2 0; step = get_or vs 3 0; edition = get_or vs 4 0 })
body_at kind.Done vs = Done (record { edition = get_or vs 2 0; mask = get_or vs 3 0 })
body_at kind.SkipShare vs = SkipShare (record {})
body_at kind.Skip vs = Skip (record { mask = get_or vs 2 0 })
body_at kind.ViewChange vs =
    ViewChange (record { key = record { edition = get_or vs 2 0; mask = get_or vs 3 0 }; lock = record { edition = get_or vs 4 0; mask = get_or vs 5 0 }; commit = record { edition = get_or vs 6 0; mask = get_or vs 7 0 } })

abbrev pub letter_at : Kind → List ℕ → Letter
letter_at k vs = record { sender = get_or vs 0 0; view = get_or vs 1 0; body = body_at k vs }

-- the parts after the code
abbrev rest_of : Letter → List Part
rest_of l = (1, l.sender) ∷ (2, l.view) ∷ parts_of l.body

widths_of : (b : Body) (s v : ℕ) → map width ((1, s) ∷ (2, v) ∷ parts_of b) ≡ widths_at (kind_of b)
widths_of (Send k) s v = refl
widths_of (Ack k) s v = refl
widths_of (Done k) s v = refl
widths_of (SkipShare k) s v = refl
widths_of (Skip k) s v = refl
widths_of (ViewChange k) s v = refl

body_is : (b : Body) (s v : ℕ) → body_at (kind_of b) (map value ((1, s) ∷ (2, v) ∷ parts_of b)) ≡ b
body_is (Send k) s v = refl
body_is (Ack k) s v = refl
body_is (Done k) s v = refl
body_is (SkipShare k) s v = refl
body_is (Skip k) s v = refl
body_is (ViewChange k) s v = refl

letter_is : (l : Letter) → letter_at (kind_of l.body) (map value (rest_of l)) ≡ l
letter_is l = ap (λ b. record { sender = l.sender; view = l.view; body = b }) (body_is l.body l.sender l.view)

-- two letters with one line are one letter
pub line_same : (l m : Letter) → Fits l → Fits m → line_of l ≡ line_of m → l ≡ m
line_same l m f h e =
    let d = split_digits 2 (code_of l.body) (code_of m.body) (text (rest_of l)) (text (rest_of m)) e in
    let k = kind_same (kind_of l.body) (kind_of m.body) (digits_same 2 (code_of l.body) (code_of m.body) f.0 h.0 d.0) in
    let ws = widths_of l.body l.sender l.view ∙ ap widths_at k ∙ sym (widths_of m.body m.sender m.view) in
    let vs = values_same (rest_of l) (rest_of m) ws f.1 h.1 d.1 in
    sym (letter_is l) ∙ ap (λ x. letter_at x (map value (rest_of l))) k ∙ ap (letter_at (kind_of m.body)) vs ∙ letter_is m

-- a line read as a letter is read back, whatever the error's type
pub ok_back : {E : Type 0} (line : List ℕ) (m : Letter) → IsLine line m → ReadsBack {E = E} line (Ok m)
ok_back line m h l f e = ap Ok (line_same m l h.1 f (sym h.0 ∙ e))

-- how much of a line is left after its code
pub after_code : (line rest : List ℕ) (c : ℕ) → line ≡ digits 2 c ++ rest → length line ≡ 2 + length rest
after_code line rest c e = ap length e ∙ length-append (digits 2 c) rest ∙ omega (arith, length_digits 2 c)

-- a line of the kind's length from which the fields of a letter were taken is that letter's line
pub taken : (line r r1 r2 r3 : List ℕ) (b : Body) (s v : ℕ) → line ≡ digits 2 (code_of b) ++ r → Took (byte s ∷ []) r r1 → Took (short v ∷ []) r1 r2 → Took (parts_of b) r2 r3 → length line ≡ 2 * size_of (kind_of b) → IsLine line (record { sender = s; view = v; body = b })
taken line r r1 r2 r3 b s v e t u w long =
    let none : r3 ≡ [] = nil_from_length r3 (omega (arith, after_code line r (code_of b) e, t.left, u.left, w.left, sized b)) in
    let body : r2 ≡ text (parts_of b) = w.text ∙ ap (before (parts_of b)) none in
    let view : r1 ≡ digits 4 v ++ text (parts_of b) = u.text ∙ ap (λ x. digits 4 v ++ x) body in
    let sender : r ≡ digits 2 s ++ (digits 4 v ++ text (parts_of b)) = t.text ∙ ap (λ x. digits 2 s ++ x) view in
    (e ∙ ap (λ x. digits 2 (code_of b) ++ x) sender, (omega (arith, codes (kind_of b)), (t.fits.0, (u.fits.0, w.fits))))

-- a line whose first byte is no code
pub unknown : (line rest : List ℕ) (c : ℕ) → line ≡ digits 2 c ++ rest → c < 256 → 2 ≤ length line → ((k : Kind) → code_at k ≢ c) → UnknownCode line
unknown line rest c e small some none =
    (some, λ k b. none k (digits_same 2 (code_at k) c (omega (arith, codes k)) small (sym b ∙ begins line rest c e)))

-- a line whose length is not that of its kind
pub wrong_length : (line rest : List ℕ) (c : ℕ) (k : Kind) → line ≡ digits 2 c ++ rest → code_at k ≡ c → (length line ≢ 2 * size_of k) → WrongLength line
wrong_length line rest c k e is other = inr (k, subst (Begins line) (sym is) (begins line rest c e), other)

-- the frame of a letter's line is not damaged
pub frame_whole : (line : List ℕ) (l : Letter) (column : ℕ) → line ≡ line_of l → FrameDamaged line column → ⊥
frame_whole line l column e =
    let b = begins line (text (rest_of l)) (code_of l.body) e in
    ⊎_elim (λ u. u.0.1 (kind_of l.body) b)
    (λ w.
    ⊎_elim
    (λ short. omega (arith, ap length e, line_long l, size_range (kind_of l.body)))
    (λ t. t.2 (ap length e ∙ line_long l ∙ ap (λ k. 2 * size_of k) (begins_same line (kind_of l.body) t.0 b t.1)))
    w.0)

-- the text of a letter's line is sound
pub line_sound : (l : Letter) → Sound (line_of l)
line_sound l column =
    ⊎_elim (λ w. w.3 (All-get_or Hex (line_of l) w.0 0 w.2 (line_hex l)))
    (⊎_elim (λ o. omega (arith, o.0, line_long l)) (λ o. omega (arith, o.0, line_long l, size_range (kind_of l.body))))

-- what reads as a letter is its line
pub ok_only : {E : Type 0} (line : List ℕ) (m : Letter) → line ≡ line_of m → OnlyLine {E = E} line (Ok m)
ok_only line m h l e = let same : m ≡ l = cc in h ∙ ap line_of same

pub err_not_ok : {A B : Type 0} (e : B) (x : A) → ◌≡◌ {A = Result A B} (Err e) (Ok x) → ⊥
err_not_ok e x h = let z : ◌≡◌ {A = ℕ} 0 1 = cc in omega arith
