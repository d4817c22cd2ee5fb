-- Why a post sends a letter back: for each kind a table of tests, each with the refusal that it
-- brings, in ascending order; the first that holds counts.
-- A reader must believe: the tables, beside docs/PROTOCOL.md. P is the post as it was, `me` its number,
-- `from` the letter's sender, `held` the signatures held, `lead` the lead drawn for each view.
use Rattle.std.specs.Prelude.{ℕ, ◌-◌, Bool, true, false, cond, not, ◌&&◌, ◌||◌, [], ◌∷◌, ◌==◌, nat_le, nat_lt}
use Rattle.refusals.specs.Tables.{Tests}
use Rattle.refusals.specs.declared.Refusal.TheVariants.{PostNotReady, Malformed, OtherView, KindNotTaken, NotOwnBroadcast, Repeated, EditionNotAdmitted, KeyViewOutOfRange, NotCertified}
use Rattle.masks.specs.Masks.{named}
use Rattle.council.specs.declared.council.Council.{Council}
use Rattle.council.specs.declared.statement.Signature.{Signature}
use Rattle.council.specs.declared.statement.Statement.{Statement}
use Rattle.council.specs.Certificates.{good}
use Rattle.council.specs.Signatures.{by}
use Rattle.council.specs.Statements.{last_step, skipping}
use Rattle.letters.specs.declared.letter.Ack.{Ack as AckBody}
use Rattle.letters.specs.declared.letter.Body.{Body}
use Rattle.letters.specs.declared.letter.Body.TheVariants.{Send, Ack, Done, SkipShare, Skip, ViewChange}
use Rattle.letters.specs.declared.letter.Done.{Done as DoneBody}
use Rattle.letters.specs.declared.letter.Letter.{Letter}
use Rattle.letters.specs.declared.letter.Send.{Send as SendBody}
use Rattle.letters.specs.declared.letter.Skip.{Skip as SkipBody}
use Rattle.rolls.specs.Shapes.{letter_shaped}
use Rattle.posts.specs.declared.post.Phase.{Phase}
use Rattle.posts.specs.declared.post.Phase.TheVariants.{Idle, Broadcasting, Exchanging, Ended}
use Rattle.posts.specs.declared.post.Post.{Post}
use Rattle.posts.specs.Posts.{signed_for}

-- what a post looks at besides itself and the letter: its council, the signatures held, the editions
-- admitted, the lead drawn for each view
pub record Sight : Type 0 where
  pub council : Council
  pub held : Signature → Bool
  pub admits : ℕ → Bool
  pub lead : ℕ → ℕ

-- at this step of the lead's broadcast in the view stands this edition
abbrev pub saying : ℕ → ℕ → ℕ → ℕ → Statement
saying view lead step edition = record { view = view; lead = lead; step = step; edition = edition }

-- ---- SEND

-- the key view is below the view, and not below the lock
abbrev pub key_in_range : Post → SendBody → Bool
key_in_range P a = nat_le P.standing.lock a.key_view && nat_lt a.key_view P.view

-- the key is a start's, of view 0, or its certificate is good for step 1 of that view's drawn lead
abbrev pub key_proven : Council → (Signature → Bool) → (ℕ → ℕ) → SendBody → Bool
key_proven c held lead a =
    (a.key_view == 0) || good c held a.mask (saying a.key_view (lead a.key_view) 1 a.edition)

-- the step before is certified
abbrev pub step_proven : Council → (Signature → Bool) → Post → ℕ → SendBody → Bool
step_proven c held P from a = good c held a.mask (saying P.view from (a.step - 1) a.edition)

-- at step 1: what the edition and its key are refused for
abbrev pub first_tests : Council → (Signature → Bool) → (ℕ → Bool) → (ℕ → ℕ) → Post → SendBody → Tests
first_tests c held admits lead P a =
    (not (admits a.edition), EditionNotAdmitted)
    ∷ (not (key_in_range P a), KeyViewOutOfRange)
    ∷ (not (key_proven c held lead a), NotCertified)
    ∷ []

-- at later steps
abbrev pub later_tests : Council → (Signature → Bool) → Post → ℕ → SendBody → Tests
later_tests c held P from a = (not (step_proven c held P from a), NotCertified) ∷ []

abbrev pub send_tests : Council → (Signature → Bool) → (ℕ → Bool) → (ℕ → ℕ) → Post → ℕ → SendBody → Tests
send_tests c held admits lead P from a =
    (signed_for P.tables a.step from, Repeated)
    ∷ cond (a.step == 1) (first_tests c held admits lead P a) (later_tests c held P from a)

-- ---- the other kinds

-- the ACK is for the post's own broadcast: its step, its edition
abbrev pub own : ℕ → Post → AckBody → Bool
own me P a = a.lead == me && (a.step == P.broadcast.step && a.edition == P.standing.key.edition)

abbrev pub ack_tests : (Signature → Bool) → ℕ → Post → ℕ → AckBody → Tests
ack_tests held me P from a =
    (not (own me P a), NotOwnBroadcast)
    ∷ (named P.broadcast.acks from, Repeated)
    ∷ (not (held (by from (saying P.view me a.step a.edition))), NotCertified)
    ∷ []

abbrev pub done_tests : Council → (Signature → Bool) → Post → ℕ → DoneBody → Tests
done_tests c held P from a =
    (named P.skips.done from, Repeated)
    ∷ (not (good c held a.mask (saying P.view from last_step a.edition)), NotCertified)
    ∷ []

abbrev pub share_tests : (Signature → Bool) → Post → ℕ → Tests
share_tests held P from =
    (named P.skips.shares from, Repeated)
    ∷ (not (held (by from (skipping P.view))), NotCertified)
    ∷ []

abbrev pub skip_tests : Council → (Signature → Bool) → Post → SkipBody → Tests
skip_tests c held P a = (not (good c held a.mask (skipping P.view)), NotCertified) ∷ []

abbrev pub change_tests : Post → ℕ → Tests
change_tests P from = (named P.changes from, Repeated) ∷ []

-- ---- every letter

-- a post that takes letters at all
abbrev pub awake : Phase → Bool
awake Idle = false
awake Broadcasting = true
awake Exchanging = true
awake Ended = false

-- a broadcasting post takes every kind but VIEW-CHANGE, an exchanging post that alone
abbrev pub takes : Phase → Body → Bool
takes Idle b = false
takes Broadcasting (Send a) = true
takes Broadcasting (Ack a) = true
takes Broadcasting (Done a) = true
takes Broadcasting (SkipShare a) = true
takes Broadcasting (Skip a) = true
takes Broadcasting (ViewChange a) = false
takes Exchanging (Send a) = false
takes Exchanging (Ack a) = false
takes Exchanging (Done a) = false
takes Exchanging (SkipShare a) = false
takes Exchanging (Skip a) = false
takes Exchanging (ViewChange a) = true
takes Ended b = false

abbrev pub kind_tests : Sight → ℕ → Post → ℕ → Body → Tests
kind_tests w me P from (Send a) = send_tests w.council w.held w.admits w.lead P from a
kind_tests w me P from (Ack a) = ack_tests w.held me P from a
kind_tests w me P from (Done a) = done_tests w.council w.held P from a
kind_tests w me P from (SkipShare a) = share_tests w.held P from
kind_tests w me P from (Skip a) = skip_tests w.council w.held P a
kind_tests w me P from (ViewChange a) = change_tests P from

abbrev pub take_tests : Sight → ℕ → Post → Letter → Tests
take_tests w me P l =
    (not (awake P.phase), PostNotReady)
    ∷ (not (letter_shaped w.council.n l), Malformed)
    ∷ (not (l.view == P.view), OtherView)
    ∷ (not (takes P.phase l.body), KindNotTaken)
    ∷ kind_tests w me P l.sender l.body

-- ---- starting

abbrev pub idle : Phase → Bool
idle Idle = true
idle Broadcasting = false
idle Exchanging = false
idle Ended = false

abbrev pub start_tests : (ℕ → Bool) → Post → ℕ → Tests
start_tests admits P edition =
    (not (idle P.phase), PostNotReady)
    ∷ ((edition == 0), Malformed)
    ∷ (not (admits edition), EditionNotAdmitted)
    ∷ []
