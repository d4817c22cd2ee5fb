use Rattle.std.proofs.Common.{rules}
use Rattle.listing.proofs.Counts.{tallies_more}
use Rattle.listing.proofs.tally.Tally.count.Goals as goal

pub returns : goal.returns
returns c = search (rules, tallies_more)
