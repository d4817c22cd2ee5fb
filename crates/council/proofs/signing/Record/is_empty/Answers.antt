use Rattle.std.proofs.Common.{nat_eq, ap}
use Rattle.std.proofs.lemmas.Bool.Decides.{Decides-at}
use Rattle.council.proofs.Empty.{numbers_empty}
use Rattle.council.proofs.signing.Record.is_empty.Goals as goal

pub returns : goal.returns
returns g c =
    let record_of = g.Self.Record in
    let book = c.args.self.now in
    Decides-at (nat_eq c.count.result 0) (nat_eq (record_of.number book) 0) (ap (λ n. nat_eq n 0) c.count.ensures)
    (numbers_empty (record_of.held book) (record_of.number book) (g.met.Self.Record.numbered book))
