use Rattle.std.proofs.Common.{rules, tests, vec_items}
use Rattle.std.proofs.lemmas.Iterator.{YieldsList-from_slice}
use Rattle.std.proofs.lemmas.Iterator.Search.{find_from_yields_List}
use Rattle.council.specs.Statements.{same_statement}
use Rattle.records.proofs.Marked.{found_holds}
use Rattle.records.proofs.sheet.SheetRecordRecord.holds.Goals as goal

pub returns : goal.returns
returns c =
    let x = c.args.signature.now in
    let rs = vec_items c.args.self.now.rows in
    let is = find_from_yields_List (λ r. same_statement r.statement x.statement) _ _ c.find.result c.find.ensures.ran (YieldsList-from_slice rs cc) (λ r b q k. search (rules, tests)) in
    found_holds (λ y. y.now) rs x c.find.result c.is_some_and.result _ c.args.self.now.once is c.is_some_and.ensures (λ y k. search (rules, tests))
