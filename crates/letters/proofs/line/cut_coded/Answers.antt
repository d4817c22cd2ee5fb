use Rattle.std.proofs.Common.{length, sym, refl, ap, ◌∙◌, inl, arith}
use Rattle.std.proofs.lemmas.Result.{err_from_is_err_and}
use Rattle.letters.proofs.Law.{unknown}
use Rattle.letters.proofs.line.cut_coded.Goals as goal

pub returns-in_err-try_from : goal.returns-in_err-try_from
returns-in_err-try_from c =
    let p = err_from_is_err_and c.from_residual.result c.from_residual.ensures.1 in
    let line = sym c.from-fields.ensures ∙ c.read.ensures.text in
    rw (p.1, p.2) (c.args.text.sound, inl (unknown _ _ _ line c.read.ensures.fits.0 (omega (arith, c.if-fields-lt2.false, ap length c.from-fields.ensures)) c.in_err-try_from.ensures, refl))
