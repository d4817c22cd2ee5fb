-- Which seats a council has.
-- A reader must believe: `Seated`, when a seat is refused.
use Rattle.std.specs.Prelude.{◌≡◌, ℕ, ◌≤◌, Ok, Err, Result}
use Rattle.refusals.specs.declared.Refusal.{Refusal}
use Rattle.refusals.specs.declared.Refusal.TheVariants.{NoSuchPost}
use Rattle.council.specs.declared.council.Council.{Council}
use Rattle.posts.specs.declared.seat.Seat.{Seat}

-- the seat of post p, or a refusal where the council has no such post
abbrev pub Seated : Council → ℕ → Result Seat Refusal → Type 0
Seated c p (Ok s) = (s.council ≡ c) × (s.me ≡ p)
Seated c p (Err e) = (e ≡ NoSuchPost) × (c.n ≤ p)
