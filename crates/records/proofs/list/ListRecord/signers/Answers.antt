use Rattle.std.proofs.Common.{◌≡◌, true, List, sym, subst}
use Rattle.council.specs.declared.statement.Signature.{Signature}
use Rattle.council.specs.Signatures.{by, listed}
use Rattle.masks.specs.Masks.{named}
use Rattle.records.specs.Lists.{all_masked}
use Rattle.records.proofs.Listed.{signers-listed}
use Rattle.records.proofs.list.ListRecord.signers.Goals as goal

pub returns : goal.returns
returns c =
    let s = c.args.statement.now in
    let mask = c.senders.result in
    let is = c.deref.ensures.value in
    let low : all_masked c.deref.result.now ≡ true = subst (λ (l : List Signature). all_masked l ≡ true) (sym is) c.args.self.now.masked in
    λ p. subst (λ (l : List Signature). named mask p ≡ listed l (by p s)) is (signers-listed c.deref.result.now s mask p low (c.senders.ensures p))
