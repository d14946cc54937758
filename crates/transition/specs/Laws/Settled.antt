-- It settles or stops in one way, and the loop over the rounds. Assumes nothing.
use Rattle.std.specs.Prelude.{ℕ, suc, ◌≡◌, refl}
use Rattle.std.proofs.Common.{sym, ◌∙◌, true≢false}
use Rattle.pack.specs.State.{State}
use Rattle.pack.specs.Syntax.{Theory}
use Rattle.chart.specs.States.{AtMost}
use Rattle.transition.specs.Happening.{Quiet, Settles, round, Plays, Stops, Refuses}

module _ {p : Theory} where
  pub settles_one : {k : ℕ} {s t u : State} → Settles p k s t → Settles p k s u → t ≡ u
  settles_one (Settles.still w q) (Settles.still w' q') = refl
  settles_one (Settles.still w q) (Settles.again w' q' r) = absurd (q' q)
  settles_one (Settles.again w q r) (Settles.still w' q') = absurd (q q')
  settles_one (Settles.again w q r) (Settles.again w' q' r') = settles_one r r'

  pub settles_stops : {k n : ℕ} {s t : State} → Settles p k s t → Stops p k s n → ⊥
  settles_stops (Settles.still w q) (Stops.many x) = x w
  settles_stops (Settles.still w q) (Stops.loud x y) = y q
  settles_stops (Settles.still w q) (Stops.later x y z) = y q
  settles_stops (Settles.again w q r) (Stops.many x) = x w
  settles_stops (Settles.again w q r) (Stops.later x y z) = settles_stops r z

  pub stops_one : {k n m : ℕ} {s : State} → Stops p k s n → Stops p k s m → n ≡ m
  stops_one (Stops.many x) (Stops.many y) = refl
  stops_one (Stops.many x) (Stops.loud y z) = absurd (x y)
  stops_one (Stops.many x) (Stops.later y z r) = absurd (x y)
  stops_one (Stops.loud x y) (Stops.many z) = absurd (z x)
  stops_one (Stops.loud x y) (Stops.loud z w) = refl
  stops_one (Stops.later x y r) (Stops.many z) = absurd (z x)
  stops_one (Stops.later x y r) (Stops.later z w r') = stops_one r r'

  pub plays_one : {s t u : State} {a : ℕ} → Plays p s a t → Plays p s a u → t ≡ u
  plays_one x y = settles_one x.settles y.settles

module _ {p : Theory} {s : State} {a : ℕ} where
  pub plays_refuses : {t : State} {n : ℕ} → Plays p s a t → Refuses p s a n → ⊥
  plays_refuses x (Refuses.forbidden f) = true≢false (sym x.may ∙ f)
  plays_refuses x (Refuses.stopped m r) = settles_stops x.settles r

  pub refuses_one : {n m : ℕ} → Refuses p s a n → Refuses p s a m → n ≡ m
  refuses_one (Refuses.forbidden f) (Refuses.forbidden g) = refl
  refuses_one (Refuses.forbidden f) (Refuses.stopped m r) = absurd (true≢false (sym m ∙ f))
  refuses_one (Refuses.stopped m r) (Refuses.forbidden f) = absurd (true≢false (sym m ∙ f))
  refuses_one (Refuses.stopped m r) (Refuses.stopped m' r') = stops_one r r'

-- the loop over the rounds: from s, with `left` rounds left, it has come to t
pub record Going (p : Theory) (s : State) (left : ℕ) (t : State) : Type 0 where
  pub settles : (u : State) → Settles p left t u → Settles p 16 s u
  pub stops : (n : ℕ) → Stops p left t n → Stops p 16 s n

pub going_start : (p : Theory) (s : State) → Going p s 16 s
going_start p s = record { settles = λ u x. x; stops = λ n x. x }

pub going_on : {p : Theory} {s t : State} {left : ℕ} → Going p s (suc left) t → AtMost 32 p.characters t
    → ¬ Quiet p t → Going p s left (round p.triggers t)
going_on g w q =
    record { settles = λ u x. g.settles u (Settles.again w q x); stops = λ n x. g.stops n (Stops.later w q x) }

-- what it settles in has at most 32 states
pub settles_few : (p : Theory) (k : ℕ) (s t : State) → Settles p k s t → AtMost 32 p.characters t
settles_few p k s t (Settles.still w q) = w
settles_few p k s t (Settles.again {k = j} w q r) = settles_few p j _ t r
