-- A tally of entries, and of one more. Assumes nothing.
use Rattle.std.proofs.Common.{◌≡◌, ◌+◌, Bool, cond, List, [], ◌∷◌, ◌++◌, arith}
use Rattle.std.specs.List.{count_by}
use Rattle.std.proofs.lemmas.List.{length_push}
use Rattle.std.proofs.lemmas.List.Sums.{sum_by_push}
use Rattle.letters.specs.declared.kind.Kind.TheVariants as kind
use Rattle.listing.specs.Tallies.{Adds, Tallies, in_frame, in_text, is_damaged, is_letter, is_note}
use Rattle.listing.specs.declared.entry.Entry.{Entry}
use Rattle.listing.specs.declared.tally.Tally.{Tally}

one_more : (p : Entry → Bool) (es : List Entry) (e : Entry) → count_by p (es ++ e ∷ []) ≡ count_by p es + cond (p e) 1 0
one_more p es e = sum_by_push (λ x. cond (p x) 1 0) es e

pub tallies_more : (es : List Entry) (e : Entry) (t t' : Tally) → Tallies es t → Adds e t t' → Tallies (es ++ e ∷ []) t'
tallies_more es e t t' h a = record {
  send = omega (arith, h.send, a.send, one_more (is_letter kind.Send) es e);
  ack = omega (arith, h.ack, a.ack, one_more (is_letter kind.Ack) es e);
  done = omega (arith, h.done, a.done, one_more (is_letter kind.Done) es e);
  skip_share = omega (arith, h.skip_share, a.skip_share, one_more (is_letter kind.SkipShare) es e);
  skip = omega (arith, h.skip, a.skip, one_more (is_letter kind.Skip) es e);
  view_change = omega (arith, h.view_change, a.view_change, one_more (is_letter kind.ViewChange) es e);
  notes = omega (arith, h.notes, a.notes, one_more is_note es e);
  text = omega (arith, h.text, a.text, one_more (is_damaged in_text) es e);
  frame = omega (arith, h.frame, a.frame, one_more (is_damaged in_frame) es e);
  all = omega (arith, h.all, a.all, length_push es e);
}
