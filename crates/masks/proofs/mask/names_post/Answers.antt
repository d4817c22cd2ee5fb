use Rattle.std.proofs.Common.{eqb, sym, ap, ◌∙◌, ◌/◌, ◌^◌}
use lib.Bits.{and_mask}
use Rattle.std.proofs.lemmas.Bool.{le-ltb}
use Rattle.masks.specs.Masks.{named}
use Rattle.masks.proofs.Naming.{named_past}
use Rattle.masks.proofs.mask.names_post.Goals as goal

pub returns-then-post-lt64-clause-value : goal.returns-then-post-lt64-clause-value
unfolding named
returns-then-post-lt64-clause-value c = ap (λ x. eqb x 1) (and_mask (c.args.mask / 2 ^ c.args.post) 1)

pub returns-else-post-lt64-clause-value : goal.returns-else-post-lt64-clause-value
returns-else-post-lt64-clause-value c = le-ltb c.args.post 64 c.if-post-lt64.false ∙ sym (named_past c.args.mask 64 c.args.post c.ranges.mask.fits c.if-post-lt64.false)
