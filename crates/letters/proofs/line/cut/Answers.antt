use Rattle.std.proofs.Common.{◌≡◌, ◌++◌, length, sym, refl, ap, subst, inr, arith}
use Rattle.hexadecimal.specs.Hex.{digits}
use Rattle.letters.specs.Layout.{code_at, size_of}
use Rattle.letters.specs.Parts.{Took}
use Rattle.letters.proofs.Frames.{size_range}
use Rattle.letters.proofs.Law.{after_code, taken, wrong_length}
use Rattle.letters.proofs.line.cut.Goals as goal

pub returns-then-text-LENGTH : goal.returns-then-text-LENGTH
returns-then-text-LENGTH g c =
    let long = ap length c.text.ensures.value in
    rw c.past_end.ensures (
      c.args.text.sound,
      inr (wrong_length _ _ _ g.K.LetterKind.kind c.requires refl (λ e. omega (arith, c.if-text-LENGTH.true, long, e, c.LENGTH.ensures, g.met.K.LetterKind.sized.0)), refl),
    )

pub read-requires : goal.read-requires
read-requires g c = omega (arith, after_code _ _ _ c.requires, ap length c.text.ensures.value, c.if-text-LENGTH.false, c.LENGTH.ensures, g.met.K.LetterKind.sized.0, size_range g.K.LetterKind.kind)

pub read-requires-2 : goal.read-requires-2
read-requires-2 g c = omega (arith, c.read.ensures.left, after_code _ _ _ c.requires, ap length c.text.ensures.value, c.if-text-LENGTH.false, c.LENGTH.ensures, g.met.K.LetterKind.sized.0, size_range g.K.LetterKind.kind)

pub read-requires-3 : goal.read-requires-3
read-requires-3 g c = omega (arith, c.read-2.ensures.left, c.read.ensures.left, after_code _ _ _ c.requires, ap length c.text.ensures.value, c.if-text-LENGTH.false, c.LENGTH.ensures, g.met.K.LetterKind.sized)

pub returns : goal.returns
returns g c =
    let m = g.met.K.LetterKind.means c.read-3.result c.into.result c.into.ensures in
    taken _ _ _ _ _ c.into.result _ _
    (subst (λ k. c.args.text.text.now ≡ digits 2 (code_at k) ++ c.args.fields.rest.now) (sym m.0) c.requires)
    c.read.ensures
    c.read-2.ensures
    (subst (λ ps. Took ps c.read-2.new.fields.rest.now c.read-3.new.fields.rest.now) (sym m.1) c.read-3.ensures)
    (omega (arith, ap length c.text.ensures.value, c.if-text-LENGTH.false, c.LENGTH.ensures, g.met.K.LetterKind.sized.0, ap size_of m.0))
