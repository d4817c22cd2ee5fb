use Rattle.std.proofs.Common.{rules, tests, subst, sym, refl}
use Rattle.std.proofs.lemmas.Iterator.{YieldsList-from_slice}
use Rattle.std.proofs.lemmas.Iterator.Consumers.{YieldsList-at, YieldsList-from_filter, fold_from_yields_List}
use Rattle.masks.specs.Masks.{naming}
use Rattle.masks.specs.Senders.{Senders}
use Rattle.masks.proofs.Folded.{senders_folded}
use Rattle.masks.proofs.senders.senders.Goals as goal

pub returns : goal.returns
returns g c =
    let from = g.E.Entry.from in
    let about = g.E.Entry.about in
    let xs = c.args.entries.now in
    let m = c.args.matter.now in
    let is = fold_from_yields_List _ (λ k e. naming k (from e)) 0 c.fold.result c.fold.ensures.ran
    (YieldsList-from_filter _ (λ e. g.E.Matter.PartialEq.eq (about e) m) (YieldsList-at c.filter.ensures.source (YieldsList-from_slice xs cc)) c.filter.ensures.closure (λ x b q k. search (rules, tests)))
    (λ k x b q d. search (rules, tests)) in
    subst (Senders from about xs _ m) (sym is) (senders_folded from about m (λ x. g.E.Matter.PartialEq.eq x m) (λ x. g.met.E.Entry.exact x m _ refl) xs)
