-- What holds of the values wherever chains lead is kept by actions, rounds and settling, where writing the effects
-- keeps it. Assumes nothing.
use Rattle.std.specs.Prelude.{ℕ, suc, Bool, cond, set, eqb}
use Rattle.std.proofs.Math.Bool.{true, false}
use Rattle.std.proofs.Math.Option.{some}
use mathlib.Core.List.{List, [], ◌∷◌}
use Rattle.pack.specs.Syntax.{Theory, Effect, Trigger, Pack}
use Rattle.pack.specs.State.{State, belief, Valid}
use Rattle.pack.specs.Condition.{holds, write}
use Rattle.pack.specs.Layout.{Each, Valued, EffectFits, ActionFits, TriggerFits, PackFits}
use Rattle.pack.specs.Laws.Fits.{each_at, each_weak, valued_set}
use Rattle.chart.specs.States.{Everywhere}
use Rattle.transition.specs.Happening.{at_root, change, observes, act, firing, effects_of}
use Rattle.transition.specs.Happening.{fires, round, Settles, nothing, action_of, Plays}

-- writing these effects keeps P, for whomever they are meant
abbrev pub Keeps : (List ℕ → Type 0) → List Effect → Type 0
Keeps P es = (whom : ℕ) (values : List ℕ) → P values → P (write whom es values)

module _ (P : List ℕ → Type 0) where
  root_keeps : (es : List Effect) → Keeps P es → (whom : ℕ) (chain values : List ℕ) → P values
      → P (at_root (write whom es) chain values)
  unfolding at_root
  root_keeps es k whom [] values h = k whom values h
  root_keeps es k whom (c ∷ chain) values h = h

  change_keeps : (effects : State → List Effect) (takes : State → ℕ → Bool) → ((s : State) → Keeps P (effects s))
      → (C : ℕ) (chain : List ℕ) (s : State) → Valid C chain → Everywhere C P s → P (change effects takes s chain)
  unfolding change Valid
  change_keeps effects takes k C [] s v h = k s 0 (s []) (h [] tt)
  change_keeps effects takes k C (c ∷ chain) s v h =
      root_keeps (effects s) (k s) (suc c) chain
      (cond (takes s c) (change effects takes (belief s c) chain) (s (c ∷ chain)))
      (go (takes s c) (change_keeps effects takes k C chain (belief s c) v.1 (λ rest w. h (c ∷ rest) (v.0, w))))
    where
      go : (b : Bool) → P (change effects takes (belief s c) chain)
          → P (cond b (change effects takes (belief s c) chain) (s (c ∷ chain)))
      go true x = x
      go false x = h (c ∷ chain) v

  module _ (p : Theory) (act-keeps : (a : ℕ) → Keeps P (action_of p a).effects)
      (round_keeps : (s : State) → Keeps P (fires p.triggers s)) where
    kept_settles : (k : ℕ) (s t : State) → Settles p k s t → Everywhere p.characters P s
        → Everywhere p.characters P t
    unfolding round
    kept_settles k s t (Settles.still w q) h = h
    kept_settles k s t (Settles.again {k = j} w q r) h =
        kept_settles j (round p.triggers s) t r
        (λ chain v. change_keeps (fires p.triggers) (λ s c. true) round_keeps p.characters chain s v h)

    -- so what an action leaves has it where what was before it had
    pub kept_plays : (s : State) (a : ℕ) (t : State) → Plays p s a t → Everywhere p.characters P s
        → Everywhere p.characters P t
    unfolding act
    kept_plays s a t x h =
        kept_settles 16 (act (action_of p a) s) t x.settles
        (λ chain v. change_keeps (λ s. (action_of p a).effects) (observes (action_of p a)) (λ s. act-keeps a)
        p.characters chain s v h)

-- A value of its fluent's domain stays one: what an accepted pack's actions leave has values within their domains
valued_keeps : (C : ℕ) (D : List ℕ) (es : List Effect) → Each (EffectFits C D) es → Keeps (Valued D) es
unfolding Each write
valued_keeps C D [] h whom values v = v
valued_keeps C D (e ∷ es) h whom values v =
    valued_keeps C D es h.1 whom (cond (eqb e.whom whom) (set values e.fluent e.value) values)
    (go (eqb e.whom whom))
  where
    go : (b : Bool) → Valued D (cond b (set values e.fluent e.value) values)
    go true = valued_set D values e.fluent e.value h.0.1 v
    go false = v

-- the effects of whatever trigger fires
fires_each : (Q : List Effect → Type 0) → Q [] → (ts : List Trigger) → Each (λ t. Q t.effects) ts → (s : State)
    → Q (fires ts s)
unfolding Each firing
fires_each Q empty [] h s = empty
fires_each Q empty (t ∷ ts) h s = go (holds s t.condition) (fires_each Q empty ts h.1 s)
  where
    go : (b : Bool) → Q (fires ts s) → Q (effects_of (cond b (some t) (firing ts s)))
    go true x = h.0
    go false x = x

pub valued_plays : (p : Pack) → PackFits p → (s : State) (a : ℕ) (t : State) → Plays p.theory s a t
    → Everywhere p.theory.characters (Valued p.theory.domains) s
    → Everywhere p.theory.characters (Valued p.theory.domains) t
unfolding Each
valued_plays p fit s a t =
    let C = p.theory.characters in
    let D = p.theory.domains in
    kept_plays (Valued D) p.theory
    (λ a. each_at (λ a. Keeps (Valued D) a.effects) nothing (valued_keeps C D [] tt) p.theory.actions
    (each_weak (ActionFits C D) (λ a. Keeps (Valued D) a.effects)
    (λ a f. valued_keeps C D a.effects f.effects.2) p.theory.actions fit.actions.2) a)
    (λ s. fires_each (Keeps (Valued D)) (valued_keeps C D [] tt) p.theory.triggers
    (each_weak (TriggerFits C D) (λ t. Keeps (Valued D) t.effects) (λ t f. valued_keeps C D t.effects f.1.2)
    p.theory.triggers fit.triggers.2) s)
    s a t
