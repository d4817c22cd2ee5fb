use Rattle.std.proofs.Common.{rules, tests, ◌≡◌, ◌≢◌}
use Rattle.std.proofs.lemmas.Iterator.{IsFirst-from_position, YieldsList-from_slice}
use Rattle.records.proofs.Marked.{found_first}
use Rattle.records.proofs.row.find.Goals as goal

pub returns : goal.returns
returns c =
    let rs = c.args.rows.now in
    let s = c.args.statement.now in
    found_first rs s c.position.result
    (IsFirst-from_position _ _ c.position.result (λ r. r.statement ≡ s) (λ r. r.statement ≢ s) c.position.ensures.ran (YieldsList-from_slice rs cc) (λ x q k. search (rules, tests)) (λ x q k. search (rules, tests)))
