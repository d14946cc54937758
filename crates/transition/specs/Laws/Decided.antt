-- What a table decides: whether all is quiet, where it settles or stops, what an action leaves. Assumes nothing.
use Rattle.std.specs.Prelude.{ℕ, zero, suc, ◌<◌, ◌≡◌, refl, Bool, true, false, ◌⊎◌, ◌↔◌, length}
use Rattle.std.proofs.Common.{sym, subst, inl, inr, ⊎_elim}
use Rattle.std.proofs.Math.Logic.{by_cases}
use Rattle.std.proofs.Math.Option.{Option}
use Rattle.std.proofs.Math.Decide.{dec_lt, map_dec}
use Rattle.pack.specs.Condition.{holds}
use Rattle.pack.specs.State.{State, meaning}
use Rattle.pack.specs.Syntax.{Theory, Trigger}
use Rattle.chart.specs.States.{AtMost}
use Rattle.chart.specs.Laws.Charted.{Charting, chart, few?}
use Rattle.chart.specs.Laws.Count.{every}
use Rattle.chart.specs.Laws.Tabled.{Tabled}
use Rattle.chart.specs.Laws.Unique.{ordered_reached, some}
use Rattle.transition.specs.Happening.{Quiet, Settles, Plays, round, firing, action_of, Stops, Refuses}
use Rattle.transition.specs.Laws.Quiet.{quiet}
use Rattle.transition.specs.Laws.Settled.{plays_refuses}
use Rattle.transition.specs.Laws.Tabled.{tabled-act, tabled-round}

IsNone : Option Trigger → Type 0
IsNone Option.none = Unit {0}
IsNone (Option.some t) = ⊥

none? : (o : Option Trigger) → Dec (o ≡ Option.none)
unfolding IsNone
none? Option.none = yes refl
none? (Option.some t) = no (λ e. subst IsNone (sym e) tt)

module _ (p : Theory) {s : State} (x : Charting p.characters s) where
  pub quiet_rows : Quiet p s
      ↔ ((i : ℕ) → i < length x.rows → firing p.triggers (meaning p.characters x.rows i) ≡ Option.none)
  quiet_rows =
      let w = x.written.ordered in
      subst (λ (s : State). Quiet p s
      ↔ ((i : ℕ) → i < length x.rows → firing p.triggers (meaning p.characters x.rows i) ≡ Option.none))
      x.means
      (quiet p x.rows (ordered_reached p.characters x.rows w) w.closed (some x.rows w.whole))

pub quiet? : (p : Theory) {s : State} → Tabled p.characters s → Dec (Quiet p s)
quiet? p x =
    let c = chart x in let e = quiet_rows p c in
    map_dec e.1 e.0
    (every (λ i. none? (firing p.triggers (meaning p.characters c.rows i))) (length c.rows))

-- it settles or it stops
abbrev pub Settled : Theory → ℕ → State → Type 0
Settled p k s = ((t : State) × Tabled p.characters t × Settles p k s t) ⊎ ((n : ℕ) × Stops p k s n)

-- an action leaves a state or is refused
abbrev pub Stepped : Theory → State → ℕ → Type 0
Stepped p s a = ((t : State) × Tabled p.characters t × Plays p s a t) ⊎ ((n : ℕ) × Refuses p s a n)

module _ {p : Theory} where
  ends : {k : ℕ} {s : State} → Tabled p.characters s
      → ((w : AtMost 32 p.characters s) → ¬ Quiet p s → Settled p k s) → Settled p k s
  ends {k} {s} x more = go (few? x 32) (quiet? p x)
    where
      go : Dec (AtMost 32 p.characters s) → Dec (Quiet p s) → Settled p k s
      go (no w) q = inr (12, Stops.many w)
      go (yes w) (yes q) = inl (s, x, Settles.still w q)
      go (yes w) (no q) = more w q

  pub settle : {s : State} → Tabled p.characters s → (k : ℕ) → Settled p k s
  settle {s} x zero = ends x (λ w q. inr (11, Stops.loud w q))
  settle {s} x (suc k) =
      ends x (λ w q.
      ⊎_elim (λ r. inl (r.0, r.1, Settles.again w q r.2)) (λ r. inr (r.0, Stops.later w q r.1))
      (settle {s = round p.triggers s} (tabled-round x p.triggers) k))

  pub step : {s : State} → Tabled p.characters s → (a : ℕ) → a < length p.actions → Stepped p s a
  step {s} x a h = go (holds s (action_of p a).condition) refl
    where
      go : (b : Bool) → holds s (action_of p a).condition ≡ b → Stepped p s a
      go false e = inr (10, Refuses.forbidden e)
      go true e =
          ⊎_elim (λ r. inl (r.0, r.1, record { there = h; may = e; settles = r.2 }))
          (λ r. inr (r.0, Refuses.stopped e r.1)) (settle (tabled-act x (action_of p a)) 16)

  -- playable, or not
  pub play? : {s : State} → Tabled p.characters s → (a : ℕ)
      → ((t : State) × Tabled p.characters t × Plays p s a t) ⊎ ((t : State) → ¬ Plays p s a t)
  play? x a =
      by_cases (dec_lt a (length p.actions))
      (λ h. ⊎_elim (λ r. inl r) (λ r. inr (λ t y. plays_refuses y r.1)) (step x a h))
      (λ h. inr (λ t y. h y.there))
