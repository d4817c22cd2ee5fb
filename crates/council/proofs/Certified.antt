-- The test of certificates decides the rule, and the laws of certificates. Assumes nothing.
use Rattle.std.proofs.Common.{◌≡◌, ℕ, ◌^◌, ◌<◌, ◌≤◌, Bool, true, not, ◌&&◌, ltb, leb, Decides, refl, ap, inl, inr, arith, pow_mono}
use Rattle.std.proofs.lemmas.Bool.{and_parts, and_from, or_cases, or_left, or_right, not-true, leb-true, le-leb, ltb-true, lt-ltb, both_ways, cases_Bool}
use Rattle.std.proofs.lemmas.Bool.Decides.{Decides-below_and, same_from_decides}
use Rattle.masks.specs.Masks.{Inside, count, named, tally}
use Rattle.masks.proofs.Counting.{count_grows}
use Rattle.masks.proofs.Naming.{below_inside, inside_below}
use Rattle.masks.proofs.Tallies.{tally_inside}
use Rattle.council.specs.declared.council.Council.{Council}
use Rattle.council.specs.declared.statement.Statement.{Statement}
use Rattle.council.specs.declared.statement.Signature.{Signature}
use Rattle.council.specs.Signatures.{Grows, Quorum, by, signers}
use Rattle.council.specs.Certificates.{AllSigned, Certifies, CertificateLaws, covers, every, good}
use Rattle.council.proofs.Quorums.{masked}

every_means : (n : ℕ) (A : ℕ → Bool) → Decides (every n A) ((p : ℕ) → p < n → A p ≡ true)
unfolding every
every_means n A = Decides-below_and A (λ p. A p ≡ true) (λ k. every k A) (λ p. (λ e. e, λ e. e)) refl (λ _. refl) n

module _ (c : Council) (held : Signature → Bool) (mask : ℕ) (s : Statement) where
  covered : (p : ℕ) → (named mask p ≡ true → held (by p s) ≡ true) → covers held mask s p ≡ true
  covered p h = elim (cases_Bool (named mask p)) [ inl t ↦ or_right (not (named mask p)) (held (by p s)) (h t) | inr t ↦ or_left (not (named mask p)) (held (by p s)) (ap not t) ]

  uncovered : (p : ℕ) → covers held mask s p ≡ true → named mask p ≡ true → held (by p s) ≡ true
  uncovered p h t = elim (or_cases (not (named mask p)) (held (by p s)) h) [ inl z ↦ absurd (both_ways (named mask p) (not-true (named mask p) z) t) | inr z ↦ z ]

  abbrev low : Bool
  low = ltb mask (2 ^ c.n)

  abbrev many : Bool
  many = leb c.quorum (tally mask)

  abbrev full : Bool
  full = every c.n (covers held mask s)

  -- a good mask meets the rule
  pub good_certifies : good c held mask s ≡ true → Certifies c held mask s
  unfolding good
  good_certifies h =
      let a = and_parts low (many && full) h in
      let b = and_parts many full a.1 in
      let inside : Inside mask c.n = below_inside mask c.n (ltb-true mask (2 ^ c.n) a.0) in
      record {
        inside = inside;
        enough = leb-true c.quorum (tally mask) b.0;
        signed = λ p t. uncovered p ((every_means c.n (covers held mask s)).0 b.1 p (inside p t)) t;
      }

  -- a mask of 64 bits that meets the rule is good
  pub certifies_good : mask < 2 ^ 64 → Certifies c held mask s → good c held mask s ≡ true
  unfolding good
  certifies_good fits h =
      and_from low (many && full) (lt-ltb mask (2 ^ c.n) (inside_below mask c.n fits h.inside))
      (and_from many full (le-leb c.quorum (tally mask) h.enough) ((every_means c.n (covers held mask s)).1 (λ p _. covered p (h.signed p))))

  -- so what decides the rule for such a mask is `good`
  pub good_is : (r : Bool) → mask < 2 ^ 64 → Decides r (Certifies c held mask s) → r ≡ good c held mask s
  good_is r fits d = same_from_decides r (good c held mask s) d (good_certifies, certifies_good fits)

  -- what is named is counted below n
  pub good_enough : good c held mask s ≡ true → c.quorum ≤ count c.n (named mask)
  good_enough h =
      let r = good_certifies h in
      omega (arith, r.enough, tally_inside c.n mask (masked c) r.inside)

  pub good_quorum : good c held mask s ≡ true → Quorum c held s
  good_quorum h =
      let signed = (good_certifies h).signed in
      omega (arith, good_enough h, count_grows c.n (named mask) (signers held s) (λ p _ t. signed p t))

  pub good_fits : good c held mask s ≡ true → mask < 2 ^ 64
  unfolding good
  good_fits h =
      let low : mask < 2 ^ c.n = ltb-true mask (2 ^ c.n) (and_parts low (many && full) h).0 in
      let wide : 2 ^ c.n ≤ 2 ^ 64 = pow_mono (masked c) in
      omega arith

pub good_grows : (c : Council) (held more : Signature → Bool) (mask : ℕ) (s : Statement) → Grows held more → good c held mask s ≡ true → good c more mask s ≡ true
good_grows c held more mask s g h =
    let r = good_certifies c held mask s h in
    certifies_good c more mask s (good_fits c held mask s h) (record { inside = r.inside; enough = r.enough; signed = λ p t. g (by p s) (r.signed p t) })

pub good_exact : (c : Council) (held : Signature → Bool) (mask : ℕ) (s : Statement) → mask < 2 ^ 64 → Inside mask c.n → tally mask ≡ c.quorum → AllSigned held mask s → good c held mask s ≡ true
good_exact c held mask s fits inside exact signed = certifies_good c held mask s fits (record { inside = inside; enough = omega arith; signed = signed })

pub certificate_laws : (c : Council) (held : Signature → Bool) (mask : ℕ) (s : Statement) → CertificateLaws c held mask s
certificate_laws c held mask s = record {
  inside = λ h. (good_certifies c held mask s h).inside;
  enough = good_enough c held mask s;
  signed = λ h. (good_certifies c held mask s h).signed;
  quorum = good_quorum c held mask s;
  grows = λ more. good_grows c held more mask s;
  exact = good_exact c held mask s;
}
