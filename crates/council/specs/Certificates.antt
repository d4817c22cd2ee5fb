-- When a mask is a good certificate of a statement, and what may be relied on of one.
-- A reader must believe: `Certifies`, the rule. `good` is the same as a test, kept shut: work above
-- this crate uses the laws, never its text, so that the rule can be narrowed in one place.
use Rattle.std.specs.Prelude.{◌≡◌, ℕ, zero, suc, ◌^◌, ◌<◌, ◌≤◌, Bool, true, not, ◌&&◌, ◌||◌, nat_le, nat_lt}
use Rattle.masks.specs.Masks.{Inside, count, named, tally}
use Rattle.council.specs.declared.council.Council.{Council}
use Rattle.council.specs.declared.statement.Statement.{Statement}
use Rattle.council.specs.declared.statement.Signature.{Signature}
use Rattle.council.specs.Signatures.{Grows, Quorum, by, signers}

-- each post that the mask names signed the statement
abbrev pub AllSigned : (Signature → Bool) → ℕ → Statement → Type 0
AllSigned held mask s = (p : ℕ) → named mask p ≡ true → held (by p s) ≡ true

-- each post below n that the mask names did
abbrev pub AllSignedBelow : ℕ → (Signature → Bool) → ℕ → Statement → Type 0
AllSignedBelow n held mask s = (p : ℕ) → p < n → named mask p ≡ true → held (by p s) ≡ true

-- the rule: the mask names posts of the council alone, at least a quorum, and each of them signed
pub record Certifies (c : Council) (held : Signature → Bool) (mask : ℕ) (s : Statement) : Type 0 where
  pub inside : Inside mask c.n
  pub enough : c.quorum ≤ tally mask
  pub signed : AllSigned held mask s

-- ---- the same, as a test

-- the test holds of each number below n
unfoldable pub every : ℕ → (ℕ → Bool) → Bool
every zero A = true
every (suc n) A = A n && every n A

-- the post signed, if the mask names it
abbrev pub covers : (Signature → Bool) → ℕ → Statement → ℕ → Bool
covers held mask s p = not (named mask p) || signers held s p

-- the mask is good for the statement
unfoldable pub good : Council → (Signature → Bool) → ℕ → Statement → Bool
good c held mask s = nat_lt mask (2 ^ c.n) && (nat_le c.quorum (tally mask) && every c.n (covers held mask s))

-- what may be relied on of a good certificate
pub record CertificateLaws (c : Council) (held : Signature → Bool) (mask : ℕ) (s : Statement) : Type 0 where
  -- it names posts below n
  pub inside : good c held mask s ≡ true → Inside mask c.n
  -- it names at least a quorum
  pub enough : good c held mask s ≡ true → c.quorum ≤ count c.n (named mask)
  -- each post that it names signed
  pub signed : good c held mask s ≡ true → AllSigned held mask s
  -- so a quorum of the council's posts signed
  pub quorum : good c held mask s ≡ true → Quorum c held s
  -- it stays good as the record grows
  pub grows : (more : Signature → Bool) → Grows held more → good c held mask s ≡ true → good c more mask s ≡ true
  -- a mask of 64 bits that names exactly a quorum of the council's posts, all of whom signed, is good
  pub exact : mask < 2 ^ 64 → Inside mask c.n → tally mask ≡ c.quorum → AllSigned held mask s → good c held mask s ≡ true
