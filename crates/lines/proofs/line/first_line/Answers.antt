use Rattle.std.proofs.Common.{◌≡◌, ◌+◌, ◌-◌, length, take, drop, sym, ap, ◌∙◌, subst₂, add-one}
use Rattle.std.proofs.lemmas.List.{take_rest}
use Rattle.lines.specs.Lines.{RunsTo, after_line}
use Rattle.lines.proofs.Ends.{ended, whole, runs}
use Rattle.lines.proofs.line.first_line.Goals as goal

pub returns-in-Some : goal.returns-in-Some
returns-in-Some c =
    let input = c.args.input.now in
    let end = c.in-Some.end in
    let cut = ended input end c.in-Some.ensures in
    let rest : take (length input - (end + 1)) (drop (end + 1) input) ≡ after_line input = take_rest input (end + 1) ∙ ap (λ k. drop k input) (add-one end) ∙ cut.1 in
    record { line = cut.0; rest = rest; rule = subst₂ (RunsTo input) (sym cut.0) (sym rest) (runs input) }

pub returns-in-None : goal.returns-in-None
returns-in-None c =
    let input = c.args.input.now in
    let one = whole input c.in-None.ensures in
    record { line = one.0; rest = one.1; rule = subst₂ (RunsTo input) (sym one.0) (sym one.1) (runs input) }
