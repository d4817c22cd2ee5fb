use Rattle.std.proofs.Common.{refl, subst}
use Rattle.lines.specs.Judged.{Judged}
use Rattle.lines.specs.declared.line.Line.TheVariants.{Damaged}
use Rattle.listing.proofs.entry.Entry.of.Goals as goal

pub returns-in-Damaged-clause-text : goal.returns-in-Damaged-clause-text
returns-in-Damaged-clause-text c = λ text n judged.
    let told : Judged text n (Damaged c.in-Damaged.number c.in-Damaged.column c.in-Damaged.part) = subst (Judged text n) c.in-Damaged.is judged in
    (λ note. ((told.2 note).0, refl, (told.2 note).1), told.3)
