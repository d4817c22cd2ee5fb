-- Two quorums share a post that is not bad, wherever twice the quorum exceeds n + f. Assumes nothing.
use Rattle.std.proofs.Common.{ℕ, ◌+◌, ◌*◌, ◌<◌, ◌≤◌, arith}
use Rattle.masks.proofs.Counting.{count_share}
use Rattle.council.specs.declared.council.Council.{Council}
use Rattle.council.specs.Councils.{QuorumsMeet}

pub quorums_meet : (n f q : ℕ) → n + f < 2 * q → QuorumsMeet n f q
quorums_meet n f q over A B bad a b few =
    let w = count_share n A B bad (omega arith) in
    record { post = w.0; below = w.1; in_first = w.2; in_second = w.3; sound = w.4 }

-- what every council guarantees
pub overlap : (c : Council) → c.n + c.f < 2 * c.quorum
overlap c = omega (arith, c.posts, c.enough)

pub reached : (c : Council) → c.quorum + c.f ≤ c.n
reached c = omega (arith, c.posts, c.enough)

pub masked : (c : Council) → c.n ≤ 64
masked c = omega (arith, c.posts, c.range)

pub council_meets : (c : Council) → QuorumsMeet c.n c.f c.quorum
council_meets c = quorums_meet c.n c.f c.quorum (overlap c)
