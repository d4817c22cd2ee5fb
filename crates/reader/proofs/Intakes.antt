-- An input that comes in byte by byte. Assumes nothing.
use Rattle.std.proofs.Common.{◌≡◌, ℕ, zero, suc, ◌+◌, ◌<◌, Bool, true, false, List, [], ◌∷◌, ◌++◌, sym, refl, ap, ◌∙◌, subst, subst₂, inl, inr, ⊎_elim, append_assoc, append-nil, add-one, arith}
use Rattle.std.specs.List.{ContainsAt, AllByRecursion}
use Rattle.std.proofs.ByRecursion.{all-has, has_append_left, has_append_right, has_push, has_push_cases}
use Rattle.std.proofs.lemmas.List.{length_push}
use Rattle.std.proofs.lemmas.Bool.Decides.{nat_tests}
use Rattle.std.proofs.lemmas.Bool.{cases_lt, both_ways}
use Rattle.lines.specs.Buffer.{Holds}
use Rattle.lines.specs.declared.buffer.LineBuffer.{LineBuffer}
use Rattle.reader.specs.Intake.{Stands, Last, CameAs, Did}
use Rattle.lines.specs.Lines.{first_line, after_line, rest_after}
use Rattle.reader.specs.declared.intake.Progress.{Progress}
use Rattle.reader.specs.declared.intake.Progress.TheVariants.{Inside, Ended, Past}
use Rattle.lines.proofs.Ends.{runs}

-- bytes among which no 0a is
abbrev Open : List ℕ → Type 0
Open = AllByRecursion (λ b. b ≡ 10 → ⊥)

-- the first k lines are whole
abbrev Whole : ℕ → List ℕ → Type 0
Whole k input = (j : ℕ) → j < k → ContainsAt (rest_after j input) 10

-- an open line goes on with what comes
open_more : (xs ys : List ℕ) → Open xs → (first_line (xs ++ ys) ≡ xs ++ first_line ys) × (after_line (xs ++ ys) ≡ after_line ys)
open_more [] ys n = (refl, refl)
open_more (b ∷ bs) ys n = grind (arith, open_more bs ys n.1, nat_tests)

-- a whole line stays as it is, and what comes goes to the rest
whole_more : (xs ys : List ℕ) → ContainsAt xs 10 → (first_line (xs ++ ys) ≡ first_line xs) × (after_line (xs ++ ys) ≡ after_line xs ++ ys)
whole_more xs ys h =
    let r = runs xs in
    let cut : xs ≡ first_line xs ++ 10 ∷ after_line xs = ⊎_elim (λ e. e) (λ w. absurd (all-has (λ b. b ≡ 10 → ⊥) (first_line xs) 10 r.0 (subst (λ l. ContainsAt l 10) w.0 h) refl)) r.1 in
    let e : xs ++ ys ≡ first_line xs ++ (10 ∷ after_line xs ++ ys) = ap (λ l. l ++ ys) cut ∙ append_assoc (first_line xs) (10 ∷ after_line xs) ys in
    let m = open_more (first_line xs) (10 ∷ after_line xs ++ ys) r.0 in
    (ap first_line e ∙ m.0 ∙ append-nil (first_line xs), ap after_line e ∙ m.1)

open_from : (xs : List ℕ) → (ContainsAt xs 10 → ⊥) → Open xs
open_from xs n =
    let r = runs xs in
    ⊎_elim
    (λ e. absurd (n (subst (λ l. ContainsAt l 10) (sym e) (has_append_right (first_line xs) (10 ∷ after_line xs) 10 (0, omega arith, λ d. refl)))))
    (λ w. subst Open (sym w.0) r.0)
    r.1

-- an open line is all that came of it
pub open_line : (xs : List ℕ) → Open xs → first_line xs ≡ xs
open_line xs n = grind (arith, open_more xs [] n, append-nil xs)

-- what comes after whole lines leaves them whole
rest_more : (k : ℕ) (input ys : List ℕ) → Whole k input → rest_after k (input ++ ys) ≡ rest_after k input ++ ys
rest_more zero input ys w = refl
rest_more (suc k) input ys w = ap after_line (rest_more k input ys (λ j h. w j (omega arith))) ∙ (whole_more (rest_after k input) ys (w k (omega arith))).1

has_more : (k : ℕ) (input ys : List ℕ) → Whole k input → ContainsAt (rest_after k input) 10 → ContainsAt (rest_after k (input ++ ys)) 10
has_more k input ys w h = subst (λ l. ContainsAt l 10) (sym (rest_more k input ys w)) (has_append_left (rest_after k input) ys 10 h)

whole_still : (k : ℕ) (input ys : List ℕ) → Whole k input → Whole k (input ++ ys)
whole_still k input ys w j h = has_more j input ys (λ i g. w i (omega arith)) (w j h)

-- k lines are whole, and what follows them has no 0a yet
pub record Ready (input : List ℕ) (k : ℕ) : Type 0 where
  pub few : k < 65535
  pub whole : Whole k input
  pub rest : Open (rest_after k input)

came_at : (input : List ℕ) (buffer : LineBuffer) (k number : ℕ) (opened o : Bool) → number ≡ k + 1 → opened ≡ o → Last input buffer k o → CameAs input buffer number opened
came_at input buffer k number opened o n e l = subst₂ (CameAs input buffer) (sym (n ∙ add-one k)) (sym e) l

-- one byte more of the line that follows
module _ (input : List ℕ) (k byte : ℕ) (r : Ready input k) where
  rest : rest_after k (input ++ byte ∷ []) ≡ rest_after k input ++ byte ∷ []
  rest = rest_more k input (byte ∷ []) r.whole

  last : (buffer : LineBuffer) (o : Bool) → Holds buffer (rest_after k input ++ first_line (byte ∷ [])) → Stands (input ++ byte ∷ []) k o → Last (input ++ byte ∷ []) buffer k o
  last buffer o h s = record {
    few = r.few;
    whole = whole_still k input (byte ∷ []) r.whole;
    held = subst (Holds buffer) (sym (ap first_line rest ∙ (open_more (rest_after k input) (byte ∷ []) r.rest).0)) h;
    stands = s;
  }

  inside : (byte ≡ 10 → ⊥) → Stands (input ++ byte ∷ []) k true
  inside n = grind (arith, rest, length_push {X = ℕ}, has_push_cases (rest_after k input) byte 10, all-has (λ b. b ≡ 10 → ⊥) (rest_after k input) 10 r.rest)

  ended : byte ≡ 10 → Stands (input ++ byte ∷ []) k false
  ended e = (
    subst₂ ContainsAt (sym rest) e (has_push (rest_after k input) byte),
    inl (ap after_line rest ∙ (open_more (rest_after k input) (byte ∷ []) r.rest).1 ∙ ap (λ b. after_line (b ∷ [])) e),
  )

  -- the open line takes a byte
  pub takes : (buffer : LineBuffer) (number number' : ℕ) (opened : Bool) (p : Progress) → number ≡ k + 1 → Holds buffer (rest_after k input ++ first_line (byte ∷ [])) → Did true number byte opened number' p → CameAs (input ++ byte ∷ []) buffer number' opened
  takes buffer number number' opened Inside n h d = came_at _ buffer k number' opened true (d.3 ∙ n) d.2 (last buffer true h (inside d.1))
  takes buffer number number' opened Ended n h d = came_at _ buffer k number' opened false (d.3 ∙ n) d.2 (last buffer false h (ended d.1))
  takes buffer number number' opened Past n h d = absurd (both_ways true d.0 refl)

-- a line is open: it is ready, and the buffer holds what came of it
opened_ready : (input : List ℕ) (buffer : LineBuffer) (number : ℕ) (opened : Bool) → opened ≡ true → CameAs input buffer number opened → (k : ℕ) × (number ≡ k + 1) × Ready input k × Holds buffer (rest_after k input)
opened_ready input buffer zero opened e c = absurd (both_ways opened c.1 e)
opened_ready input buffer (suc k) opened e c =
    let s : Stands input k true = subst (Stands input k) e c.stands in
    let n = open_from (rest_after k input) s.1 in
    (k, sym (add-one k), record { few = c.few; whole = c.whole; rest = n }, subst (Holds buffer) (open_line (rest_after k input) n) c.held)

-- no line is open, and there is room for one: nothing has come of it
closed_rest : (input : List ℕ) (buffer : LineBuffer) (number : ℕ) (opened : Bool) → opened ≡ false → number < 65535 → CameAs input buffer number opened → Whole number input × (rest_after number input ≡ [])
closed_rest input buffer zero opened e h c = (λ j g. absurd (omega arith), c.0)
closed_rest input buffer (suc k) opened e h c =
    let s : Stands input k false = subst (Stands input k) e c.stands in (
      λ j g. ⊎_elim (c.whole j) (λ l. let same : k ≡ j = omega arith in subst (λ i. ContainsAt (rest_after i input) 10) same s.0) (cases_lt j k),
      ⊎_elim (λ x. x) (λ l. absurd (omega arith)) s.1,
    )

-- the state before a byte, whether a line was open, and the state after it, where the byte was taken
module _ (input : List ℕ) (buffer buffer' : LineBuffer) (byte number number' : ℕ) (was opened : Bool) (p : Progress) where
  pub goes_on : was ≡ true → ((line : List ℕ) → Holds buffer line → Holds buffer' (line ++ first_line (byte ∷ []))) → Did true number byte opened number' p → CameAs input buffer number was → CameAs (input ++ byte ∷ []) buffer' number' opened
  goes_on e took did c =
      let r = opened_ready input buffer number was e c in
      takes input r.0 byte r.2 buffer' number number' opened p r.1 (took (rest_after r.0 input) r.3) did

  pub begins : was ≡ false → number < 65535 → Holds buffer' (first_line (byte ∷ [])) → Did true (number + 1) byte opened number' p → CameAs input buffer number was → CameAs (input ++ byte ∷ []) buffer' number' opened
  begins e h held did c =
      let r = closed_rest input buffer number was e h c in
      takes input number byte (record { few = h; whole = r.0; rest = subst Open (sym r.1) tt }) buffer' (number + 1) number' opened p refl (subst (λ l. Holds buffer' (l ++ first_line (byte ∷ []))) (sym r.1) held) did

-- line 65,535 is whole: what comes changes nothing
pub past_same : (input : List ℕ) (buffer : LineBuffer) (number byte : ℕ) (opened : Bool) → opened ≡ false → number ≡ 65535 → CameAs input buffer number opened → CameAs (input ++ byte ∷ []) buffer number opened
past_same input buffer zero byte opened e n c = absurd (omega arith)
past_same input buffer (suc k) byte opened e n c =
    let s : Stands input k false = subst (Stands input k) e c.stands in
    record {
      few = c.few;
      whole = whole_still k input (byte ∷ []) c.whole;
      held = subst (Holds buffer) (sym (ap first_line (rest_more k input (byte ∷ []) c.whole) ∙ (whole_more (rest_after k input) (byte ∷ []) s.0).0)) c.held;
      stands = subst (Stands (input ++ byte ∷ []) k) (sym e) (has_more k input (byte ∷ []) c.whole s.0, inr n);
    }
