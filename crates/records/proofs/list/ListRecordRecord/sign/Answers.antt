use Rattle.std.proofs.Common.{◌≡◌, ◌<◌, true, false, vec_items, sym, ap, ◌∙◌, rules}
use Rattle.council.specs.Signatures.{distinct, listed}
use Rattle.council.proofs.Same.{adding_held}
use Rattle.records.specs.Lists.{all_masked}
use Rattle.records.proofs.Listed.{listed-adding, distinct_push, masked_push}
use Rattle.records.proofs.list.ListRecordRecord.sign.Goals as goal

pub invariant_of-self-clause-once : goal.invariant_of-self-clause-once
invariant_of-self-clause-once c =
    let l = vec_items c.args.self.now.signatures in
    let new : listed l c.args.signature ≡ false = search rules in
    ap distinct c.push_reserved.ensures.items ∙ distinct_push l c.args.signature c.args.self.now.once new

pub invariant_of-self-clause-masked : goal.invariant_of-self-clause-masked
invariant_of-self-clause-masked c =
    let l = vec_items c.args.self.now.signatures in
    let low : c.args.signature.signer < 64 = search rules in
    ap all_masked c.push_reserved.ensures.items ∙ masked_push l c.args.signature c.args.self.now.masked low

pub returns-then-branch-clause-held : goal.returns-then-branch-clause-held
returns-then-branch-clause-held c = ap listed c.push_reserved.ensures.items ∙ listed-adding (vec_items c.args.self.now.signatures) c.args.signature

pub returns-else-branch-clause-held : goal.returns-else-branch-clause-held
returns-else-branch-clause-held c =
    let l = vec_items c.args.self.now.signatures in
    let old : listed l c.args.signature ≡ true = search rules in
    sym (adding_held (listed l) c.args.signature old)
