use Rattle.std.proofs.Common.{true, [], subst, arith}
use Rattle.reader.specs.Intake.{Did}
use Rattle.reader.proofs.Intakes.{goes_on, begins, past_same}
use Rattle.reader.proofs.intake.Intake.push.Goals as goal

pub returns-then-self-clause-came : goal.returns-then-self-clause-came
returns-then-self-clause-came c = λ input k. goes_on input _ _ c.args.byte _ _ _ _ c.take.result c.if-self.true c.take.ensures.held c.take.ensures.did k

pub returns-then-self-2-clause-came : goal.returns-then-self-2-clause-came
returns-then-self-2-clause-came c = λ input k. past_same input _ _ c.args.byte _ c.if-self.false c.if-self-2.true k

pub returns-clause-came : goal.returns-clause-came
returns-clause-came c =
    let did = subst (λ n. Did true n c.args.byte c.take-2.new.self.open c.take-2.new.self.number c.take-2.result) c.begin.ensures.number c.take-2.ensures.did in
    λ input k. begins input _ _ c.args.byte _ _ _ _ c.take-2.result c.if-self.false (omega arith) (c.take-2.ensures.held [] c.begin.ensures.held) did k
