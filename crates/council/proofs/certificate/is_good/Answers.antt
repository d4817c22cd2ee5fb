use Rattle.council.proofs.Certified.{good_is}
use Rattle.council.proofs.certificate.is_good.Goals as goal

pub returns-clause-value : goal.returns-clause-value
returns-clause-value g c = good_is c.args.council.now (g.R.Record.held c.args.book.now) c.args.mask c.args.statement.now c.certifies.result c.ranges.mask.fits c.certifies.ensures
