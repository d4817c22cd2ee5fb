-- What a post does when it takes a letter: what it becomes, the statement that it signs, and the
-- letters that it writes, in their order.
-- A reader must believe: one effect for each kind, beside docs/PROTOCOL.md. P is the post as it was,
-- `me` its number, `from` the letter's sender.
use Rattle.std.specs.Prelude.{ℕ, ◌+◌, Bool, true, false, cond, ◌&&◌, List, [], ◌∷◌, Some, None, Option, ◌==◌, nat_lt}
use Rattle.masks.specs.Masks.{naming, tally}
use Rattle.council.specs.declared.council.Council.{Council}
use Rattle.council.specs.declared.statement.Signature.{Signature}
use Rattle.council.specs.declared.statement.Statement.{Statement}
use Rattle.council.specs.Certificates.{good}
use Rattle.council.specs.Statements.{last_step, last_view, skipping}
use Rattle.letters.specs.declared.letter.Body.{Body}
use Rattle.letters.specs.declared.letter.Body.TheVariants.{Send, Ack, Done, SkipShare, Skip, ViewChange}
use Rattle.letters.specs.declared.letter.Holding.{Holding}
use Rattle.letters.specs.declared.letter.Letter.{Letter}
use Rattle.letters.specs.declared.letter.Send.{Send as SendBody}
use Rattle.letters.specs.declared.letter.Skip.{Skip as SkipBody}
use Rattle.letters.specs.declared.letter.ViewChange.{ViewChange as ChangeBody}
use Rattle.posts.specs.declared.post.Certified.{Certified}
use Rattle.posts.specs.declared.post.Phase.TheVariants.{Broadcasting, Exchanging, Ended}
use Rattle.posts.specs.declared.post.Post.{Post}
use Rattle.posts.specs.declared.post.Standing.{Standing}
use Rattle.posts.specs.Judging.{Sight, saying}
use Rattle.posts.specs.Posts.{empty_tables, first_step, holdings_of, no_skips, signing}

pub record Effect : Type 0 where
  pub becomes : Post
  pub signs : Option Statement
  pub writes : List Letter

-- a letter of post `me`
abbrev pub letter : ℕ → ℕ → Body → Letter
letter me view body = record { sender = me; view = view; body = body }

-- the senders counted are a quorum, and were not before the last
abbrev pub completes : Council → ℕ → Bool
completes c mask = tally mask == c.quorum

-- ---- entering a view

-- broadcasting in the view with this standing; counts, marks and holdings empty
abbrev pub entering : Standing → ℕ → Post
entering S view = record {
  phase = Broadcasting;
  view = view;
  standing = S;
  broadcast = first_step;
  skips = no_skips;
  tables = empty_tables;
  changes = 0;
}

-- SEND of step 1, with the key's edition, view and mask
abbrev pub opening : ℕ → Certified → ℕ → Letter
opening me key view = letter me view (Send (record { step = 1; edition = key.edition; key_view = key.view; mask = key.mask }))

abbrev pub enter : ℕ → Standing → ℕ → Effect
enter me S view = record { becomes = entering S view; signs = None; writes = opening me S.key view ∷ [] }

-- a start: the edition is the key, of view 0 and without a certificate, and view 1 is entered
abbrev pub on_start : ℕ → Post → ℕ → Effect
on_start me P edition = enter me (record P.standing { key = record { view = 0; edition = edition; mask = 0 } }) 1

-- ---- one effect for each kind of letter

-- SEND: the post signs for the lead's edition at the step, keeps the certificate that came, and says so
abbrev pub on_send : ℕ → Post → ℕ → SendBody → Effect
on_send me P from a = record {
  becomes = record P { tables = signing P.tables a.step from (record { edition = a.edition; mask = a.mask }) };
  signs = Some (saying P.view from a.step a.edition);
  writes = letter me P.view (Ack (record { lead = from; step = a.step; edition = a.edition })) ∷ [];
}

-- the next SEND of the own broadcast, or DONE after the last step, with the certificate of the step done
abbrev pub next_letter : ℕ → Post → ℕ → Letter
next_letter me P mask =
    cond (nat_lt P.broadcast.step last_step)
    (letter me P.view (Send (record { step = P.broadcast.step + 1; edition = P.standing.key.edition; key_view = 0; mask = mask })))
    (letter me P.view (Done (record { edition = P.standing.key.edition; mask = mask })))

-- an effect that signs nothing and writes nothing
abbrev pub quiet : Post → Effect
quiet P = record { becomes = P; signs = None; writes = [] }

-- a quorum acknowledged the own step: it rises, its count empties, and the next letter brings the
-- counted posts as the certificate
abbrev pub rises : ℕ → Post → ℕ → Effect
rises me P acks = record {
  becomes = record P { broadcast = record { step = P.broadcast.step + 1; acks = 0 } };
  signs = None;
  writes = next_letter me P acks ∷ [];
}

-- ACK: the sender is counted; the own broadcast rises at a quorum
abbrev pub on_ack : Council → ℕ → Post → ℕ → Effect
on_ack c me P from =
    let acks = naming P.broadcast.acks from in
    cond (completes c acks) (rises me P acks) (quiet (record P { broadcast = record P.broadcast { acks = acks } }))

-- a quorum of broadcasts is complete: the post signs to skip, and says so
abbrev pub agrees_to_skip : ℕ → Post → Effect
agrees_to_skip me P = record {
  becomes = P;
  signs = Some (skipping P.view);
  writes = letter me P.view (SkipShare (record {})) ∷ [];
}

-- DONE: the sender is counted; at a quorum the post agrees to skip
abbrev pub on_done : Council → ℕ → Post → ℕ → Effect
on_done c me P from =
    let done = naming P.skips.done from in
    let counted = record P { skips = record P.skips { done = done } } in
    cond (completes c done) (agrees_to_skip me counted) (quiet counted)

-- a quorum agreed to skip: the post writes SKIP with the counted posts
abbrev pub writes_skip : ℕ → Post → ℕ → Effect
writes_skip me P shares = record {
  becomes = record P { skips = record P.skips { shares = shares; wrote = true } };
  signs = None;
  writes = letter me P.view (Skip (record { mask = shares })) ∷ [];
}

-- SKIP-SHARE: the sender is counted; at a quorum the post writes SKIP
abbrev pub on_share : Council → ℕ → Post → ℕ → Effect
on_share c me P from =
    let shares = naming P.skips.shares from in
    cond (completes c shares) (writes_skip me P shares) (quiet (record P { skips = record P.skips { shares = shares } }))

-- SKIP: the post passes it on unless it wrote SKIP before, starts exchanging, and tells what it holds
-- of the broadcast of the view's drawn lead l
abbrev pub on_skip : ℕ → ℕ → Post → SkipBody → Effect
on_skip l me P a =
    let told = letter me P.view (ViewChange (holdings_of P.tables l)) in
    record {
      becomes = record P { phase = Exchanging; skips = record P.skips { wrote = true } };
      signs = None;
      writes = cond P.skips.wrote (told ∷ []) (letter me P.view (Skip a) ∷ told ∷ []);
    }

-- ---- VIEW-CHANGE

abbrev pub undecided : Option Certified → Bool
undecided None = true
undecided (Some d) = false

-- the holding, good for a step of the broadcast of the view's drawn lead
abbrev pub certified : ℕ → Holding → Certified
certified view h = record { view = view; edition = h.edition; mask = h.mask }

-- what holds in the view of the drawn lead l: a commit good for step 3 becomes the decision if there
-- is none, a lock good for step 2 raises the lock to the view, and a key good for step 1 becomes the
-- key if the view exceeds the key's
abbrev pub hearing : Council → (Signature → Bool) → ℕ → ℕ → Standing → ChangeBody → Standing
hearing c held l view S h = record {
  lock = cond (good c held h.lock.mask (saying view l 2 h.lock.edition)) view S.lock;
  key = cond (good c held h.key.mask (saying view l 1 h.key.edition) && nat_lt S.key.view view) (certified view h.key) S.key;
  decision = cond (undecided S.decision && good c held h.commit.mask (saying view l 3 h.commit.edition))
      (Some (certified view h.commit))
      S.decision;
}

-- VIEW-CHANGE: what is good in it is taken over and the sender counted; at a quorum the post enters
-- the next view, or has ended at the last
abbrev pub on_change : Council → (Signature → Bool) → ℕ → ℕ → Post → ℕ → ChangeBody → Effect
on_change c held l me P from h =
    let S = hearing c held l P.view P.standing h in
    let changes = naming P.changes from in
    let heard = record P { standing = S; changes = changes } in
    cond (completes c changes) (cond (nat_lt P.view last_view) (enter me S (P.view + 1)) (quiet (record heard { phase = Ended }))) (quiet heard)

-- ---- every letter

abbrev pub effect_of : Sight → ℕ → Post → ℕ → Body → Effect
effect_of w me P from (Send a) = on_send me P from a
effect_of w me P from (Ack a) = on_ack w.council me P from
effect_of w me P from (Done a) = on_done w.council me P from
effect_of w me P from (SkipShare a) = on_share w.council me P from
effect_of w me P from (Skip a) = on_skip (w.lead P.view) me P a
effect_of w me P from (ViewChange a) = on_change w.council w.held (w.lead P.view) me P from a
