use Rattle.std.proofs.Common.{◌≡◌, ◌<◌, false, List, length, slice_index_or, vec_items, sym, ap, ◌∙◌, subst, arith}
use Rattle.std.proofs.lemmas.List.{get_or_default}
use Rattle.masks.specs.Masks.{naming}
use Rattle.records.specs.declared.row.Row.{Row}
use Rattle.records.specs.Rows.{MarkedToo, stated}
use Rattle.records.proofs.Marked.{marked_in_row, marked_in_new}
use Rattle.records.proofs.row.mark.Goals as goal

pub returns-in-Some-clause-marked : goal.returns-in-Some-clause-marked
returns-in-Some-clause-marked c =
    let x = c.args.signature in
    let rs = vec_items c.args.rows.now in
    let i = c.in-Some.i in
    let d = c.index.result.now in
    let new : Row = record { statement = c.index_mut.result.now.statement; signers = c.with_post.result } in
    let within : i < length rs = omega (arith, c.in-Some.ensures.0, ap length c.deref.ensures.value) in
    let on : (slice_index_or rs i d).statement ≡ x.statement = ap (λ (l : List Row). (slice_index_or l i d).statement) (sym c.deref.ensures.value) ∙ c.in-Some.ensures.1 d in
    marked_in_row rs x c.requires.signer c.requires.apart i d new within on c.requires.unmarked
    (ap (λ (r : Row). r.statement) (c.index_mut.ensures.value ∙ get_or_default rs i c.index_mut.result.now d within))
    (c.with_post.ensures.value ∙ ap (λ (r : Row). naming r.signers x.signer) c.index.ensures)

pub returns-in-None-clause-marked : goal.returns-in-None-clause-marked
returns-in-None-clause-marked c =
    let x = c.args.signature in
    let rs = vec_items c.args.rows.now in
    let none : stated rs x.statement ≡ false = ap (λ (l : List Row). stated l x.statement) (sym c.deref.ensures.value) ∙ c.in-None.ensures in
    subst (λ (l : List Row). MarkedToo rs l x) (sym c.push_reserved.ensures.items) (marked_in_new rs x c.requires.signer c.requires.apart c.with_post-in-None.result none c.with_post-in-None.ensures.value)
