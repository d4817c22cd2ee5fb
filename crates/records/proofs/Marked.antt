-- The rows of a sheet: what they mark, that they stay apart, and how many they mark. Assumes nothing.
use Rattle.std.specs.Prelude.{◌≡◌, ℕ, zero, suc, ◌+◌, ◌<◌, Bool, true, false, cond, not, ◌&&◌, ◌||◌, List, [], ◌∷◌, ◌++◌, length, Decides, ◌==◌, ◌≢◌, nat_eq, nat_lt, slice_index_or, slice_set, Option, Some, None, refl}
use Rattle.std.proofs.Math.Path.{sym, ap, fun_ext}
use Rattle.std.proofs.Common.{ap₂, ◌∙◌, inl, inr, arith}
use Rattle.std.specs.Option.{MatchOption, option_map}
use Rattle.std.specs.List.{HoldsAt, AllWithin, find}
use Rattle.std.proofs.lemmas.List.{get_or_default}
use Rattle.std.proofs.lemmas.List.Sums.{sum_by-set, sum_by_push}
use Rattle.std.proofs.lemmas.Bool.{lt-ltb, and_parts, and_from, and_right, or_parts, or_from, not-true, not_from_false, cases_Bool, both_ways}
use Rattle.std.proofs.lemmas.Bool.Decides.{Decides-eqb}
use Rattle.masks.specs.Masks.{named, naming, tally}
use Rattle.masks.proofs.Naming.{named_zero, named-naming}
use Rattle.masks.proofs.Tallies.{tally-naming, tally_none}
use Rattle.council.specs.declared.statement.Statement.{Statement}
use Rattle.council.specs.declared.statement.Signature.{Signature}
use Rattle.council.specs.Statements.{same_statement}
use Rattle.council.specs.Signatures.{adding, by, same}
use Rattle.council.proofs.Same.{decides-same, decides-same_statement}
use Rattle.council.proofs.Tests.{any_push, decided_swap, decides-any, turn}
use Rattle.records.specs.declared.row.Row.{Row}
use Rattle.records.specs.Rows.{Found, MarkedToo, apart, marked, marks, on_sheet, stated, total}
use Rattle.records.specs.Spread.{marked_none}

-- ---- which statements have a row

decides-stated : (rs : List Row) (s : Statement) → Decides (stated rs s) ((k : ℕ) × (k < length rs) × HoldsAt (λ r. r.statement ≡ s) rs k)
decides-stated rs s = decides-any (λ r. same_statement r.statement s) (λ r. r.statement ≡ s) (λ r. decides-same_statement r.statement s) rs

pub stated_none : (rs : List Row) (s : Statement) → AllWithin (λ r. r.statement ≢ s) rs 0 (length rs) → stated rs s ≡ false
stated_none rs s h = elim (cases_Bool (stated rs s)) [
  | inl e ↦
      let w = (decides-stated rs s).0 e in
      let d : Row = record { statement = s; signers = 0 } in
      absurd (h w.0 d (omega arith) w.1 (w.2 d))
  | inr e ↦ e
]

-- what `position` answers
pub found_first : (rs : List Row) (s : Statement) (r : Option ℕ) → MatchOption r (AllWithin (λ r. r.statement ≢ s) rs 0 (length rs)) (λ i. (i < length rs) × HoldsAt (λ r. r.statement ≡ s) rs i × AllWithin (λ r. r.statement ≢ s) rs 0 i) → Found rs s r
found_first rs s (Some i) h = (h.0, h.1)
found_first rs s None h = stated_none rs s h

stated_at : (rs : List Row) (i : ℕ) (d : Row) (s : Statement) → i < length rs → (slice_index_or rs i d).statement ≡ s → stated rs s ≡ true
stated_at rs i d s l h = (decides-stated rs s).1 (i, l, λ e. ap (λ (r : Row). r.statement) (get_or_default rs i e d l) ∙ h)

-- ---- what is marked

or_false : (b : Bool) → (b || false) ≡ b
or_false true = refl
or_false false = refl

-- a signature is marked where the row of its statement names the signer
pub marked_at : (rs : List Row) (i : ℕ) (d : Row) (x : Signature) → apart rs ≡ true → i < length rs → (slice_index_or rs i d).statement ≡ x.statement → marked rs x ≡ named (slice_index_or rs i d).signers x.signer
marked_at [] i d x a l h = absurd (omega arith)
marked_at (r ∷ rs) zero d x a l h =
    let p = and_parts (not (stated rs r.statement)) (apart rs) a in
    let rest : marked rs x ≡ false = marked_none rs x (ap (stated rs) (sym h) ∙ not-true _ p.0) in
    let on : same_statement r.statement x.statement ≡ true = (decides-same_statement r.statement x.statement).1 h in
    ap₂ (λ b m. (b && named r.signers x.signer) || m) on rest ∙ or_false (named r.signers x.signer)
marked_at (r ∷ rs) (suc i) d x a l h =
    let p = and_parts (not (stated rs r.statement)) (apart rs) a in
    let other : same_statement r.statement x.statement ≡ false = elim (cases_Bool (same_statement r.statement x.statement)) [
      | inl e ↦ absurd (both_ways (stated rs r.statement) (not-true _ p.0) (stated_at rs i d r.statement (omega arith) (h ∙ sym ((decides-same_statement r.statement x.statement).0 e))))
      | inr e ↦ e
    ] in
    ap (λ b. (b && named r.signers x.signer) || marked rs x) other ∙ marked_at rs i d x p.1 (omega arith) h

mix : (s e n m : Bool) → ((s && (e || n)) || m) ≡ ((e && s) || ((s && n) || m))
mix true true n m = refl
mix true false n m = refl
mix false true n m = refl
mix false false n m = refl

-- a row that names one post more marks its signature too
marks_more : (s : Statement) (m q : ℕ) → q < 64 → (y : Signature) (b : Bool) → (marks (record { statement = s; signers = naming m q }) y || b) ≡ (same (by q s) y || (marks (record { statement = s; signers = m }) y || b))
marks_more s m q low y b =
    ap (λ t. (same_statement s y.statement && t) || b) (named-naming m q y.signer low ∙ ap (λ t. t || named m y.signer) (decided_swap nat_eq Decides-eqb y.signer q))
    ∙ mix (same_statement s y.statement) (q == y.signer) (named m y.signer) b

marked_set : (rs : List Row) (i : ℕ) (d : Row) (q : ℕ) → q < 64 → i < length rs → (y : Signature) → marked (slice_set rs i (record { statement = (slice_index_or rs i d).statement; signers = naming (slice_index_or rs i d).signers q })) y ≡ (same (by q (slice_index_or rs i d).statement) y || marked rs y)
marked_set [] i d q low l y = absurd (omega arith)
marked_set (r ∷ rs) zero d q low l y = marks_more r.statement r.signers q low y (marked rs y)
marked_set (r ∷ rs) (suc i) d q low l y = ap (λ b. marks r y || b) (marked_set rs i d q low (omega arith) y) ∙ turn (marks r y) (same (by q (slice_index_or rs i d).statement) y) (marked rs y)

marked_push : (rs : List Row) (s : Statement) (q : ℕ) → q < 64 → (y : Signature) → marked (rs ++ record { statement = s; signers = naming 0 q } ∷ []) y ≡ (same (by q s) y || marked rs y)
marked_push rs s q low y =
    let off : marks (record { statement = s; signers = 0 }) y ≡ false = and_right (same_statement s y.statement) (named 0 y.signer) (named_zero y.signer) in
    any_push (λ r. marks r y) rs (record { statement = s; signers = naming 0 q }) ∙ marks_more s 0 q low y (marked rs y) ∙ ap (λ b. same (by q s) y || (b || marked rs y)) off

-- ---- the rows stay apart

stated_set : (rs : List Row) (i : ℕ) (d new : Row) (s : Statement) → i < length rs → new.statement ≡ (slice_index_or rs i d).statement → stated (slice_set rs i new) s ≡ stated rs s
stated_set [] i d new s l on = absurd (omega arith)
stated_set (r ∷ rs) zero d new s l on = ap (λ t. same_statement t s || stated rs s) on
stated_set (r ∷ rs) (suc i) d new s l on = ap (λ b. same_statement r.statement s || b) (stated_set rs i d new s (omega arith) on)

apart_set : (rs : List Row) (i : ℕ) (d new : Row) → i < length rs → new.statement ≡ (slice_index_or rs i d).statement → apart (slice_set rs i new) ≡ apart rs
apart_set [] i d new l on = absurd (omega arith)
apart_set (r ∷ rs) zero d new l on = ap (λ t. not (stated rs t) && apart rs) on
apart_set (r ∷ rs) (suc i) d new l on = ap₂ (λ a b. not a && b) (stated_set rs i d new r.statement (omega arith) on) (apart_set rs i d new (omega arith) on)

apart_push : (rs : List Row) (new : Row) → apart rs ≡ true → stated rs new.statement ≡ false → apart (rs ++ new ∷ []) ≡ true
apart_push [] new a h = refl
apart_push (r ∷ rs) new a h =
    let p = and_parts (not (stated rs r.statement)) (apart rs) a in
    let n = or_parts (same_statement r.statement new.statement) (stated rs new.statement) h in
    and_from (not (stated (rs ++ new ∷ []) r.statement)) (apart (rs ++ new ∷ []))
    (not_from_false _ (any_push (λ t. same_statement t.statement r.statement) rs new ∙ or_from (same_statement new.statement r.statement) (stated rs r.statement) (decided_swap same_statement decides-same_statement new.statement r.statement ∙ n.0) (not-true _ p.0)))
    (apart_push rs new p.1 n.1)

-- ---- how many are marked

total_set : (rs : List Row) (i : ℕ) (d new : Row) → i < length rs → tally new.signers ≡ tally (slice_index_or rs i d).signers + 1 → total (slice_set rs i new) ≡ total rs + 1
total_set rs i d new l h = omega (arith, sum_by-set (λ r. tally r.signers) rs i new d l)

-- ---- one signature more

module _ (rs : List Row) (x : Signature) (low : x.signer < 64) (sound : apart rs ≡ true) where
  -- in the row of its statement
  pub marked_in_row : (i : ℕ) (d new : Row) → i < length rs → (slice_index_or rs i d).statement ≡ x.statement → marked rs x ≡ false → new.statement ≡ (slice_index_or rs i d).statement → new.signers ≡ naming (slice_index_or rs i d).signers x.signer → MarkedToo rs (slice_set rs i new) x
  unfolding adding
  marked_in_row i d new l on off kept more =
      let unnamed : named (slice_index_or rs i d).signers x.signer ≡ false = sym (marked_at rs i d x sound l on) ∙ off in
      let is : new ≡ record { statement = (slice_index_or rs i d).statement; signers = naming (slice_index_or rs i d).signers x.signer } = λ k. record { statement = kept k; signers = more k } in
      record {
        marks = fun_ext (λ y. ap (λ (r : Row). marked (slice_set rs i r) y) is ∙ marked_set rs i d x.signer low l y ∙ ap (λ (s : Statement). same (by x.signer s) y || marked rs y) on);
        apart = apart_set rs i d new l kept ∙ sound;
        total = total_set rs i d new l (ap tally more ∙ tally-naming (slice_index_or rs i d).signers x.signer low unnamed);
      }

  -- in a row of its own
  pub marked_in_new : (m : ℕ) → stated rs x.statement ≡ false → m ≡ naming 0 x.signer → MarkedToo rs (rs ++ record { statement = x.statement; signers = m } ∷ []) x
  unfolding adding
  marked_in_new m none only = record {
    marks = fun_ext (λ y. ap (λ k. marked (rs ++ record { statement = x.statement; signers = k } ∷ []) y) only ∙ marked_push rs x.statement x.signer low y);
    apart = apart_push rs (record { statement = x.statement; signers = m }) sound none;
    total = sum_by_push (λ r. tally r.signers) rs (record { statement = x.statement; signers = m }) ∙ ap (λ k. total rs + k) (ap tally only ∙ tally-naming 0 x.signer low (named_zero x.signer) ∙ ap (λ k. k + 1) tally_none);
  }

-- ---- what a sheet holds

-- a test that holds of posts with a bit alone
pub only_low : (p : ℕ) (r m : Bool) → r ≡ m → (r ≡ true → p < 64) → r ≡ (nat_lt p 64 && m)
only_low p true m e low = ap₂ (λ a b. a && b) (sym (lt-ltb p 64 (low refl))) e
only_low p false m e low = sym (and_right (nat_lt p 64) m (sym e))

-- what the row of its statement says of a signature
abbrev named_by : Signature → Option Row → Bool
named_by x (Some r) = named r.signers x.signer
named_by x None = false

marked_found : (rs : List Row) (x : Signature) → apart rs ≡ true → marked rs x ≡ named_by x (find (λ r. same_statement r.statement x.statement) rs)
marked_found [] x a = refl
marked_found (r ∷ rs) x a =
    let p = and_parts (not (stated rs r.statement)) (apart rs) a in
    go (same_statement r.statement x.statement) refl (not-true _ p.0) (marked_found rs x p.1)
  where
    later : Option Row
    later = find (λ r. same_statement r.statement x.statement) rs

    go : (b : Bool) → same_statement r.statement x.statement ≡ b → stated rs r.statement ≡ false → marked rs x ≡ named_by x later → ((b && named r.signers x.signer) || marked rs x) ≡ named_by x (cond b (Some r) later)
    go true e alone rest =
        let none = marked_none rs x (ap (stated rs) (sym ((decides-same_statement r.statement x.statement).0 e)) ∙ alone) in
        ap (λ b. named r.signers x.signer || b) none ∙ or_false (named r.signers x.signer)
    go false e alone rest = rest

-- what is asked of the row that `find` answers
pub found_holds : {A : Type 0} (v : A → Row) (rs : List Row) (x : Signature) (o : Option A) (r : Bool) (Q : A → Type 0) → apart rs ≡ true → option_map v o ≡ find (λ r. same_statement r.statement x.statement) rs → MatchOption o (r ≡ false) Q → ((y : A) → Q y → (r ≡ named (v y).signers x.signer) × (r ≡ true → x.signer < 64)) → r ≡ on_sheet rs x
found_holds v rs x (Some y) r Q a e h each = only_low x.signer r (marked rs x) ((each y h).0 ∙ ap (named_by x) e ∙ sym (marked_found rs x a)) (each y h).1
found_holds v rs x None r Q a e h each = h ∙ sym (and_right (nat_lt x.signer 64) (marked rs x) (marked_found rs x a ∙ ap (named_by x) (sym e)))

with_low : (l s m : Bool) → (s ≡ true → l ≡ true) → (l && (s || m)) ≡ (s || (l && m))
with_low true true m h = refl
with_low true false m h = refl
with_low false true m h = absurd (both_ways false refl (h refl))
with_low false false m h = refl

pub sheet_adding : (before after : List Row) (x : Signature) → x.signer < 64 → marked after ≡ adding (marked before) x → on_sheet after ≡ adding (on_sheet before) x
unfolding adding
sheet_adding before after x low h = fun_ext (λ y.
    ap (λ (f : Signature → Bool). nat_lt y.signer 64 && f y) h
    ∙ with_low (nat_lt y.signer 64) (same x y) (marked before y) (λ e. lt-ltb y.signer 64 (omega (arith, ap (λ (z : Signature). z.signer) ((decides-same x y).0 e)))))
