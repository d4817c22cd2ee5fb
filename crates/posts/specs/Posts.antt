-- What a post keeps: an idle post, and how the tables are read and changed.
-- A reader must believe: `signed_for` and `holdings_of`, how the tables are read; `storing`, which
-- holding the SEND of a step brings.
use Rattle.std.specs.Prelude.{ℕ, ◌-◌, Bool, false, cond, replicate, None, ◌==◌, slice_index, slice_index_or, slice_set}
use Rattle.masks.specs.Masks.{named, naming}
use Rattle.letters.specs.declared.letter.Holding.{Holding}
use Rattle.posts.specs.declared.post.Broadcast.{Broadcast}
use Rattle.letters.specs.declared.letter.ViewChange.{ViewChange}
use Rattle.posts.specs.declared.post.Phase.TheVariants.{Idle}
use Rattle.posts.specs.declared.post.Post.{Post}
use Rattle.posts.specs.declared.post.Skips.{Skips}
use Rattle.posts.specs.declared.post.Standing.{Standing}
use Rattle.posts.specs.declared.tables.Tables.{Tables}

-- ---- nothing yet

abbrev pub no_holding : Holding
no_holding = record { edition = 0; mask = 0 }

abbrev pub no_holdings : ViewChange
no_holdings = record { key = no_holding; lock = no_holding; commit = no_holding }

unfoldable pub empty_tables : Tables
empty_tables = record { signed = replicate 4 0; holdings = replicate 64 no_holdings }

-- the first step of a broadcast, no ACK counted
abbrev pub first_step : Broadcast
first_step = record { step = 1; acks = 0 }

abbrev pub no_skips : Skips
no_skips = record { done = 0; shares = 0; wrote = false }

abbrev pub no_standing : Standing
no_standing = record { lock = 0; key = record { view = 0; edition = 0; mask = 0 }; decision = None }

-- a post before it is started
abbrev pub idle_post : Post
idle_post = record {
  phase = Idle;
  view = 0;
  standing = no_standing;
  broadcast = first_step;
  skips = no_skips;
  tables = empty_tables;
  changes = 0;
}

-- ---- the tables

-- the post signed for the lead at the step
abbrev pub signed_for : Tables → ℕ → ℕ → Bool
signed_for t step lead = named (slice_index t.signed (step - 1)) lead

-- what is held of the lead's broadcast
abbrev pub holdings_of : Tables → ℕ → ViewChange
holdings_of t lead = slice_index_or t.holdings lead no_holdings

-- the certificate that a SEND of step 2, 3 or 4 brings is that of the lead's key, lock or commit
abbrev pub storing : ViewChange → ℕ → Holding → ViewChange
storing h step a = record {
  key = cond (step == 2) a h.key;
  lock = cond (step == 3) a h.lock;
  commit = cond (step == 4) a h.commit;
}

-- the tables once a SEND of the lead at the step is signed
abbrev pub signing : Tables → ℕ → ℕ → Holding → Tables
signing t step lead a = record {
  signed = slice_set t.signed (step - 1) (naming (slice_index t.signed (step - 1)) lead);
  holdings = slice_set t.holdings lead (storing (holdings_of t lead) step a);
}
