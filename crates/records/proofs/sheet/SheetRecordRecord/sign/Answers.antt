use Rattle.std.proofs.Common.{◌≡◌, ◌<◌, true, vec_items, sym, rules}
use Rattle.council.proofs.Same.{adding_held}
use Rattle.records.specs.Rows.{on_sheet}
use Rattle.records.proofs.Marked.{sheet_adding}
use Rattle.records.proofs.sheet.SheetRecordRecord.sign.Goals as goal

pub returns-then-branch-clause-held : goal.returns-then-branch-clause-held
returns-then-branch-clause-held c =
    let low : c.args.signature.signer < 64 = search rules in
    sheet_adding (vec_items c.args.self.now.rows) (vec_items c.mark.new.rows) c.args.signature low c.mark.ensures.marked.marks

pub returns-else-branch-clause-held : goal.returns-else-branch-clause-held
returns-else-branch-clause-held c =
    let rs = vec_items c.args.self.now.rows in
    let old : on_sheet rs c.args.signature ≡ true = search rules in
    sym (adding_held (on_sheet rs) c.args.signature old)
