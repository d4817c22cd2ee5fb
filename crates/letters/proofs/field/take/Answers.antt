use Rattle.std.proofs.Common.{sym, subst}
use Rattle.std.proofs.Math.Logic.{∥∥₁_map}
use Rattle.std.specs.List.{AllByRecursion}
use Rattle.std.proofs.ByRecursion.{All-drop}
use Rattle.hexadecimal.specs.Hex.{Hex}
use Rattle.letters.proofs.field.take.Goals as goal

pub invariant_of-fields : goal.invariant_of-fields
invariant_of-fields g c = record {
  hex = ∥∥₁_map c.args.fields.now.hex (λ h. subst (AllByRecursion Hex) (sym c.split_at.ensures.back) (All-drop Hex _ _ h));
}
