-- The list of the signatures that the rows of a sheet mark, on which the laws of the sheet record rest.
-- A reader must believe: nothing here. All of it is proved.
use Rattle.std.specs.Prelude.{◌≡◌, ℕ, zero, suc, ◌+◌, Bool, true, false, cond, not, ◌&&◌, ◌||◌, List, [], ◌∷◌, ◌++◌, length, ◌≢◌, nat_lt, refl}
use Rattle.std.proofs.Common.{sym, ap, ap₂, ◌∙◌, ⊎_elim, arith, length-append}
use Rattle.std.proofs.lemmas.Bool.{eq-eqb, ne_eqb, lt-ltb, le-ltb, and_parts, and_from, and_left, and_right, or_parts, or_from, or_right, not-true, not_from_false, cases_eq}
use Rattle.std.proofs.lemmas.Bool.Decides.{nat_tests}
use Rattle.masks.specs.Masks.{count, named, tally}
use Rattle.council.specs.declared.statement.Signature.{Signature}
use Rattle.council.specs.Statements.{same_statement}
use Rattle.council.specs.Signatures.{by, distinct, listed, same}
use Rattle.council.proofs.Same.{decides-same_statement, same_self}
use Rattle.std.proofs.lemmas.List.Folds.{list_any-append}
use Rattle.std.proofs.lemmas.List.Sums.{sum_by-cons}
use Rattle.records.specs.declared.row.Row.{Row}
use Rattle.records.specs.Rows.{apart, marked, marks, stated, total}

abbrev spread_row : ℕ → Row → List Signature
spread_row zero r = []
spread_row (suc n) r = cond (named r.signers n) (by n r.statement ∷ spread_row n r) (spread_row n r)

abbrev pub spread : ℕ → List Row → List Signature
spread n [] = []
spread n (r ∷ rs) = spread_row n r ++ spread n rs

-- ---- what is marked

pub marked_none : (rs : List Row) (x : Signature) → stated rs x.statement ≡ false → marked rs x ≡ false
marked_none [] x h = refl
marked_none (r ∷ rs) x h =
    let p = or_parts (same_statement r.statement x.statement) (stated rs x.statement) h in
    or_from (marks r x) (marked rs x) (ap (λ b. b && named r.signers x.signer) p.0) (marked_none rs x p.1)

-- ---- lists side by side

distinct_append : (a b : List Signature) → distinct a ≡ true → distinct b ≡ true → ((x : Signature) → listed a x ≡ true → listed b x ≡ false) → distinct (a ++ b) ≡ true
distinct_append [] b p q off = q
distinct_append (y ∷ a) b p q off =
    let h = and_parts (not (listed a y)) (distinct a) p in
    let here : listed (y ∷ a) y ≡ true = ap (λ t. t || listed a y) (same_self y) in
    and_from (not (listed (a ++ b) y)) (distinct (a ++ b))
    (not_from_false _ (list_any-append (λ z. same z y) a b ∙ or_from (listed a y) (listed b y) (not-true _ h.0) (off y here)))
    (distinct_append a b h.1 q (λ x e. off x (or_right (same y x) (listed a x) e)))

-- ---- one row

below : (p n : ℕ) → (p ≢ n) → nat_lt p n ≡ nat_lt p (suc n)
below p n ne = grind (arith, nat_tests)

trim : (s : Bool) → (s || false) ≡ (s && true)
trim true = refl
trim false = refl

module _ (r : Row) (x : Signature) where
  abbrev here : ℕ → Bool → Type 0
  here n b = listed (cond b (by n r.statement ∷ spread_row n r) (spread_row n r)) x ≡ (nat_lt x.signer (suc n) && marks r x)

  off : (n : ℕ) → (x.signer ≢ n) → (nat_lt x.signer n && marks r x) ≡ (nat_lt x.signer (suc n) && marks r x)
  off n ne = ap (λ a. a && marks r x) (below x.signer n ne)

  step : (n : ℕ) (b : Bool) → named r.signers n ≡ b → listed (spread_row n r) x ≡ (nat_lt x.signer n && marks r x) → here n b
  step n true e ih = ⊎_elim at (λ ne. ap₂ (λ a b. (a && same_statement r.statement x.statement) || b) (ne_eqb n x.signer (λ z. ne (sym z))) (ih ∙ off n ne)) (cases_eq x.signer n)
    where
      at : x.signer ≡ n → here n true
      at p =
          let known : named r.signers x.signer ≡ true = ap (named r.signers) p ∙ e in
          let none : listed (spread_row n r) x ≡ false = ih ∙ and_left (nat_lt x.signer n) (marks r x) (le-ltb x.signer n (omega arith)) in
          let s : Bool = same_statement r.statement x.statement in
          ap₂ (λ a b. (a && s) || b) (eq-eqb n x.signer (sym p)) none ∙ trim s ∙ ap₂ (λ a b. a && (s && b)) (sym (lt-ltb x.signer (suc n) (omega arith))) (sym known)
  step n false e ih = ⊎_elim at (λ ne. ih ∙ off n ne) (cases_eq x.signer n)
    where
      at : x.signer ≡ n → here n false
      at p =
          let miss : marks r x ≡ false = and_right (same_statement r.statement x.statement) (named r.signers x.signer) (ap (named r.signers) p ∙ e) in
          ih ∙ and_right (nat_lt x.signer n) (marks r x) miss ∙ sym (and_right (nat_lt x.signer (suc n)) (marks r x) miss)

  pub listed_row : (n : ℕ) → listed (spread_row n r) x ≡ (nat_lt x.signer n && marks r x)
  listed_row zero = sym (and_left (nat_lt x.signer 0) (marks r x) (le-ltb x.signer 0 (omega arith)))
  listed_row (suc n) = step n (named r.signers n) refl (listed_row n)

distinct_row : (n : ℕ) (r : Row) → distinct (spread_row n r) ≡ true
distinct_row zero r = refl
distinct_row (suc n) r = go (named r.signers n) (distinct_row n r)
  where
    go : (b : Bool) → distinct (spread_row n r) ≡ true → distinct (cond b (by n r.statement ∷ spread_row n r) (spread_row n r)) ≡ true
    go true h = and_from (not (listed (spread_row n r) (by n r.statement))) (distinct (spread_row n r)) (not_from_false _ (listed_row r (by n r.statement) n ∙ and_left (nat_lt n n) (marks r (by n r.statement)) (le-ltb n n (omega arith)))) h
    go false h = h

length_row : (n : ℕ) (r : Row) → length (spread_row n r) ≡ count n (named r.signers)
unfolding count
length_row zero r = refl
length_row (suc n) r = go (named r.signers n) (length_row n r)
  where
    go : (b : Bool) → length (spread_row n r) ≡ count n (named r.signers) → length (cond b (by n r.statement ∷ spread_row n r) (spread_row n r)) ≡ cond b 1 0 + count n (named r.signers)
    go true h = omega arith
    go false h = omega arith

-- ---- all rows

and_or : (l a b : Bool) → ((l && a) || (l && b)) ≡ (l && (a || b))
and_or true a b = refl
and_or false a b = refl

pub listed-spread : (n : ℕ) (rs : List Row) (x : Signature) → listed (spread n rs) x ≡ (nat_lt x.signer n && marked rs x)
listed-spread n [] x = sym (and_right (nat_lt x.signer n) false refl)
listed-spread n (r ∷ rs) x = list_any-append (λ z. same z x) (spread_row n r) (spread n rs) ∙ ap₂ (λ a b. a || b) (listed_row r x n) (listed-spread n rs x) ∙ and_or (nat_lt x.signer n) (marks r x) (marked rs x)

pub distinct-spread : (n : ℕ) (rs : List Row) → apart rs ≡ true → distinct (spread n rs) ≡ true
distinct-spread n [] a = refl
distinct-spread n (r ∷ rs) a =
    let h = and_parts (not (stated rs r.statement)) (apart rs) a in
    distinct_append (spread_row n r) (spread n rs) (distinct_row n r) (distinct-spread n rs h.1) (λ x e. other x (not-true _ h.0) e)
  where
    other : (x : Signature) → stated rs r.statement ≡ false → listed (spread_row n r) x ≡ true → listed (spread n rs) x ≡ false
    other x none e =
        let m = and_parts (nat_lt x.signer n) (marks r x) (sym (listed_row r x n) ∙ e) in
        let s = and_parts (same_statement r.statement x.statement) (named r.signers x.signer) m.1 in
        listed-spread n rs x ∙ and_right (nat_lt x.signer n) (marked rs x) (marked_none rs x (ap (stated rs) (sym ((decides-same_statement r.statement x.statement).0 s.0)) ∙ none))

pub length-spread : (rs : List Row) → length (spread 64 rs) ≡ total rs
unfolding tally
length-spread [] = refl
length-spread (r ∷ rs) = length-append (spread_row 64 r) (spread 64 rs) ∙ ap₂ (λ a b. a + b) (length_row 64 r) (length-spread rs) ∙ sym (sum_by-cons (λ r. tally r.signers) r rs)
