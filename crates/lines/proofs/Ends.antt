-- Where a line ends. Assumes nothing.
use Rattle.std.proofs.Common.{◌≡◌, ℕ, suc, ◌+◌, ◌≤◌, Bool, true, false, cond, not, eqb, Some, None, List, [], ◌∷◌, length, take, drop, refl, ap, ◌∙◌, inl, inr, ⊎_elim, arith, sym}
use Rattle.std.specs.Prelude.{◌==◌, position}
use Rattle.std.specs.List.{position_or_len}
use Rattle.std.proofs.lemmas.List.{take_all, drop_all}
use Rattle.std.proofs.lemmas.Bool.{eqb-true, eqb-false, ltb-false}
use Rattle.lines.specs.Lines.{first_line, after_line, RunsTo}

-- the bytes in front of the first 0a
abbrev ahead : List ℕ → ℕ
ahead = position_or_len (λ b. b == 10)

-- an input is cut around its first 0a
abbrev CutAt : List ℕ → ℕ → List ℕ → List ℕ → Type 0
CutAt xs i line rest = (take i xs ≡ line) × (drop (suc i) xs ≡ rest)

cut_at : (b : ℕ) (bs : List ℕ) (here : Bool) → CutAt bs (ahead bs) (first_line bs) (after_line bs) → CutAt (b ∷ bs) (cond (not here) (1 + ahead bs) 0) (cond here [] (b ∷ first_line bs)) (cond here bs (after_line bs))
cut_at b bs true r = (refl, refl)
cut_at b bs false r = let is : 1 + ahead bs ≡ suc (ahead bs) = omega arith in rw is (ap (λ l. b ∷ l) r.0, r.1)

cut : (xs : List ℕ) → CutAt xs (ahead xs) (first_line xs) (after_line xs)
cut [] = (refl, refl)
cut (b ∷ bs) = cut_at b bs (b == 10) (cut bs)

place_is : (here : Bool) (n i : ℕ) → Some i ≡ cond here (Some n) None → i ≡ n
place_is true n i e = cc
place_is false n i e = cc

no_place : (here : Bool) (n : ℕ) → None ≡ cond here (Some n) None → here ≡ false
no_place true n e = cc
no_place false n e = refl

pub ended : (xs : List ℕ) (i : ℕ) → Some i ≡ position (λ b. b == 10) xs → CutAt xs i (first_line xs) (after_line xs)
ended xs i e = let is : i ≡ ahead xs = place_is _ _ i e in rw is (cut xs)

-- an input without a 0a is one line
pub whole : (xs : List ℕ) → None ≡ position (λ b. b == 10) xs → (xs ≡ first_line xs) × ([] ≡ after_line xs)
whole xs e =
    let long : length xs ≤ ahead xs = ltb-false (ahead xs) (length xs) (no_place _ _ e) in
    (sym (take_all (ahead xs) xs long) ∙ (cut xs).0, sym (drop_all (suc (ahead xs)) xs (omega arith)) ∙ (cut xs).1)

-- one byte more in front, where it ends the line or not
runs_at : (b : ℕ) (bs : List ℕ) (here : Bool) → eqb b 10 ≡ here → RunsTo bs (first_line bs) (after_line bs) → RunsTo (b ∷ bs) (cond here [] (b ∷ first_line bs)) (cond here bs (after_line bs))
runs_at b bs true e r = (tt, inl (ap (λ x. x ∷ bs) (eqb-true b 10 e)))
runs_at b bs false e r = (
  (eqb-false b 10 e, r.0),
  ⊎_elim (λ ended. inl (ap (λ l. b ∷ l) ended)) (λ whole. inr (ap (λ l. b ∷ l) whole.0, whole.1)) r.1,
)

-- the two definitions meet the rule
pub runs : (input : List ℕ) → RunsTo input (first_line input) (after_line input)
runs [] = (tt, inr (refl, refl))
runs (b ∷ bs) = runs_at b bs (eqb b 10) refl (runs bs)
