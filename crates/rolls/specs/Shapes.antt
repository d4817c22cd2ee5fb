-- Which letters have shape in a council of n posts.
-- A reader must believe: `LetterShape`, with `SendShape`, `AckShape` and `Paired`. `letter_shaped` is
-- the same as a test, for tables of refusals.
use Rattle.std.specs.Prelude.{◌≡◌, ℕ, ◌<◌, ◌≤◌, Bool, true, cond, not, ◌&&◌, ◌||◌, ◌==◌, nat_le, nat_lt}
use Rattle.council.specs.Statements.{last_step, last_view}
use Rattle.letters.specs.declared.letter.Ack.{Ack as AckBody}
use Rattle.letters.specs.declared.letter.Body.{Body}
use Rattle.letters.specs.declared.letter.Body.TheVariants.{Send, Ack, Done, SkipShare, Skip, ViewChange}
use Rattle.letters.specs.declared.letter.Holding.{Holding}
use Rattle.letters.specs.declared.letter.Letter.{Letter}
use Rattle.letters.specs.declared.letter.Send.{Send as SendBody}
use Rattle.letters.specs.declared.letter.ViewChange.{ViewChange as ChangeBody}

-- edition and mask are both absent, or both there
pub record Paired (h : Holding) : Type 0 where
  pub absent : h.edition ≡ 0 → h.mask ≡ 0
  pub there : h.mask ≡ 0 → h.edition ≡ 0

-- a step of 1 to 4 and an edition; the key view is 0 after step 1, and a key of view 0 has mask 0
pub record SendShape (a : SendBody) : Type 0 where
  pub step : (1 ≤ a.step) × (a.step ≤ last_step)
  pub edition : a.edition ≡ 0 → ⊥
  pub key : a.key_view ≤ last_view
  pub later : 1 < a.step → a.key_view ≡ 0
  pub unproven : a.step ≡ 1 → a.key_view ≡ 0 → a.mask ≡ 0

-- a post of the council, a step of 1 to 4 and an edition
pub record AckShape (n : ℕ) (a : AckBody) : Type 0 where
  pub lead : a.lead < n
  pub step : (1 ≤ a.step) × (a.step ≤ last_step)
  pub edition : a.edition ≡ 0 → ⊥

-- each of the three is there or absent
pub record ChangeShape (a : ChangeBody) : Type 0 where
  pub key : Paired a.key
  pub lock : Paired a.lock
  pub commit : Paired a.commit

-- what follows the view has shape
abbrev pub BodyShape : ℕ → Body → Type 0
BodyShape n (Send a) = SendShape a
BodyShape n (Ack a) = AckShape n a
BodyShape n (Done a) = a.edition ≡ 0 → ⊥
BodyShape n (SkipShare a) = Unit {0}
BodyShape n (Skip a) = Unit {0}
BodyShape n (ViewChange a) = ChangeShape a

-- the letter has shape: its sender is a post of the council, its view 1 to 1,000
pub record LetterShape (n : ℕ) (l : Letter) : Type 0 where
  pub sender : l.sender < n
  pub view : (1 ≤ l.view) × (l.view ≤ last_view)
  pub body : BodyShape n l.body

-- ---- the same, as tests

abbrev pub paired : Holding → Bool
paired h = cond (h.edition == 0) (h.mask == 0) (not (h.mask == 0))

abbrev pub send_shaped : SendBody → Bool
send_shaped a =
    (nat_le 1 a.step && (nat_le a.step last_step && not (a.edition == 0)))
    && cond (a.step == 1) (nat_le a.key_view last_view && (not (a.key_view == 0) || a.mask == 0)) (a.key_view == 0)

abbrev pub ack_shaped : ℕ → AckBody → Bool
ack_shaped n a = nat_lt a.lead n && (nat_le 1 a.step && (nat_le a.step last_step && not (a.edition == 0)))

abbrev pub change_shaped : ChangeBody → Bool
change_shaped a = paired a.key && (paired a.lock && paired a.commit)

abbrev pub body_shaped : ℕ → Body → Bool
body_shaped n (Send a) = send_shaped a
body_shaped n (Ack a) = ack_shaped n a
body_shaped n (Done a) = not (a.edition == 0)
body_shaped n (SkipShare a) = true
body_shaped n (Skip a) = true
body_shaped n (ViewChange a) = change_shaped a

abbrev pub letter_shaped : ℕ → Letter → Bool
letter_shaped n l = nat_lt l.sender n && (nat_le 1 l.view && (nat_le l.view last_view && body_shaped n l.body))
