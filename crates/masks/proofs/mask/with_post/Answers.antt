use Rattle.std.proofs.Common.{sym, ap, ◌∙◌}
use Rattle.masks.specs.Masks.{named}
use Rattle.masks.proofs.Naming.{or_naming, naming_high, named-naming}
use Rattle.masks.proofs.mask.with_post.Goals as goal

pub returns-then-post-ge64-clause-value : goal.returns-then-post-ge64-clause-value
returns-then-post-ge64-clause-value c = sym (naming_high c.args.mask c.args.post c.if-post-ge64.true)

pub returns-clause-value : goal.returns-clause-value
returns-clause-value c = or_naming c.args.mask c.args.post c.if-post-ge64.false

pub returns-clause-added : goal.returns-clause-added
returns-clause-added c l p = ap (λ x. named x p) (or_naming c.args.mask c.args.post c.if-post-ge64.false) ∙ named-naming c.args.mask c.args.post p l
