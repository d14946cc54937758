-- The pack P of document 01 as syntax, and what holds of it over chains. Assumes nothing.
use Rattle.std.specs.Prelude.{ℕ, zero, suc, ◌<◌, ◌≤◌, true, ◌≡◌, refl, ◌≢◌, get_or, length}
use Rattle.std.proofs.Common.{sym, ◌∙◌, ap, subst, ⊎_elim, arith}
use Rattle.std.proofs.Math.Path.{fun_ext}
use mathlib.Core.List.Memᴰ
use mathlib.Core.List.{List, [], ◌∷◌, Memᴰ}
use Rattle.pack.specs.Condition.{holds, all_pass, passes, compares, utility, write}
use Rattle.pack.specs.State.{State, belief, Valid, node, meaning, target}
use Rattle.pack.specs.Syntax.{is, Condition, Action, Theory, Node}
use Rattle.pack.specs.Laws.Table.{means, belief_out}
use Rattle.chart.specs.Chart.{Written, met, meets, Fresh}
use Rattle.chart.specs.Compare.{Differ}
use Rattle.chart.specs.Earliest.{Before}
use Rattle.chart.specs.Laws.Counted.{at_most}
use Rattle.chart.specs.Laws.Unique.{ordered_reached}
use Rattle.transition.specs.Happening.{Quiet, Settles, Plays, act, at_root, firing, action_of, change, observes}
use Rattle.transition.specs.Laws.Changed.{Member, changed, all_told}
use Rattle.planner.specs.Ending.{Explained, Ending, Leads}
use Rattle.planner.specs.Search.{Sought}

-- fluent 0 of the state itself is v
abbrev valued : ℕ → Condition
valued v = (record { chain = []; kind = is; fluent = 0; value = v } ∷ []) ∷ []

abbrev pub act0 : Action
act0 = record {
  condition = valued 0;
  effects = record { whom = 0; fluent = 0; value = 1 } ∷ [];
  consenters = 0 ∷ [];
  observed = ([] ∷ []) ∷ [] ∷ [];
}

abbrev pub P : Theory
P = record {
  characters = 2;
  domains = 3 ∷ [];
  actions = act0 ∷ [];
  triggers = [];
  utilities =
      (record { condition = valued 1; utility = 5 } ∷ []) ∷ (record { condition = valued 1; utility = 5 } ∷ []) ∷ []
      ∷ [];
}

abbrev row : ℕ → ℕ → ℕ → Node
row v b c = record { values = v ∷ []; beliefs = b ∷ c ∷ [] }

-- 01 00 01 01
abbrev pub first : List Node
first = row 0 0 0 ∷ []

-- 02 01 01 02 00 02 02
abbrev pub second : List Node
second = row 1 0 1 ∷ row 0 1 1 ∷ []

-- 01 01 01 01
abbrev pub ones : List Node
ones = row 1 0 0 ∷ []

-- 02 00 02 02 00 01 01
abbrev pub twice : List Node
twice = row 0 1 1 ∷ row 0 0 0 ∷ []

abbrev pub state : List Node → State
state t = meaning 2 t 0

-- below 2 there are 0 and 1
two : (Q : ℕ → Type 0) → Q 0 → Q 1 → (n : ℕ) → n < 2 → Q n
two Q x y zero h = x
two Q x y (suc zero) h = y
two Q x y (suc (suc n)) h = absurd (omega arith)

one : (Q : ℕ → Type 0) → Q 0 → (n : ℕ) → n < 1 → Q n
one Q x zero h = x
one Q x (suc n) h = absurd (omega arith)

pub written_first : Written 2 first
unfolding met meets Fresh
written_first = record {
  ordered = record {
    closed = λ n c h g.
        one (λ n. target first n c < 1) (two (λ c. target first 0 c < 1) (omega arith) (omega arith) c g) n h;
    wide = one (λ n. length (node first n).beliefs ≡ 2) refl;
    known = one (λ n. n < met first n) (omega arith);
    fresh = one (λ n. Fresh (met first n) (node first n).beliefs) (omega arith, (omega arith, tt));
    whole = refl;
  };
  apart = λ i j l h e. absurd (omega arith);
}

pub written_second : Written 2 second
unfolding met meets Fresh meaning
written_second = record {
  ordered = record {
    closed = λ n c h g.
        two (λ n. target second n c < 2) (two (λ c. target second 0 c < 2) (omega arith) (omega arith) c g)
        (two (λ c. target second 1 c < 2) (omega arith) (omega arith) c g) n h;
    wide = two (λ n. length (node second n).beliefs ≡ 2) refl refl;
    known = two (λ n. n < met second n) (omega arith) (omega arith);
    fresh = two (λ n. Fresh (met second n) (node second n).beliefs) (omega arith, (omega arith, tt))
        (omega arith, (omega arith, tt));
    whole = refl;
  };
  apart = λ i j l h e.
      let x : i ≡ 0 = omega arith in
      let y : j ≡ 1 = omega arith in
      let z : meaning 2 second 0 ≡ meaning 2 second 1 = ap (meaning 2 second) (sym x) ∙ e ∙ ap (meaning 2 second) y in
      let w : ◌≡◌ {A = ℕ} 1 0 = ap (λ (s : State). get_or (s []) 0 0) z in
      omega arith;
}

-- action 0 makes of the first state the second
acts : act act0 (state first) ≡ state second
unfolding act change write at_root meaning holds all_pass
acts = sym (means 2 second sem (record {
  values = two (λ n. (node second n).values ≡ sem n []) refl refl;
  inside = λ n c h g. written_second.ordered.closed n c h g;
  beliefs = λ n c h g.
      two (λ n. sem (target second n c) ≡ belief (sem n) c)
      (two (λ c. sem (target second 0 c) ≡ belief (sem 0) c) (fun_ext observed) (fun_ext unseen) c g)
      (two (λ c. sem (target second 1 c) ≡ belief (sem 1) c) refl refl c g) n h;
  outside = λ n c h g chain.
      ap (λ (s : State). s chain) (two (λ n. belief (sem n) c ≡ (λ chain. []))
      ((changed (λ s. act0.effects) (observes act0) 2 first (λ m d. true)
      (all_told (λ s. act0.effects) (observes act0) 2 first)).outside (Member.acted 0) tt c g)
      (belief_out 2 first 0 c g) n h);
}) 0 (omega arith))
  where
    sem : ℕ → State
    sem zero = act act0 (state first)
    sem (suc n) = state first

    observed : (chain : List ℕ) → act act0 (state first) chain ≡ act act0 (state first) (0 ∷ chain)
    observed [] = refl
    observed (c ∷ chain) = refl

    unseen : (chain : List ℕ) → state first chain ≡ act act0 (state first) (1 ∷ chain)
    unseen [] = refl
    unseen (c ∷ chain) = refl

pub plays : Plays P (state first) 0 (state second)
unfolding Quiet firing holds all_pass passes compares meaning
plays = record {
  there = omega arith;
  may = refl;
  settles = rw acts (Settles.still (at_most 2 second (ordered_reached 2 second written_second.ordered)
      written_second.ordered.closed (omega arith) 32 (omega arith)) (λ chain v. refl));
}

pub parts : Differ 2 (state second) (state ones) (1 ∷ []) 0
unfolding meaning Valid Before
parts = record {
  first = record {
    good = ((omega arith, tt), λ e. here (ap (λ (v : List ℕ). get_or v 0 0) e));
    shortest = shortest;
    earliest = earliest;
  };
  here = here;
  lowest = λ f l. absurd (omega arith);
}
  where
    here : ◌≢◌ {A = ℕ} 0 1
    here e = omega arith

    shortest : (other : List ℕ) → Valid 2 other × (state second other ≢ state ones other) → 1 ≤ length other
    shortest [] g = absurd (g.1 refl)
    shortest (c ∷ other) g = omega arith

    earliest : (other : List ℕ) → Valid 2 other × (state second other ≢ state ones other) → length other ≡ 1
        → ¬ Before other (1 ∷ [])
    earliest [] g l b = b
    earliest (c ∷ []) g l b =
        ⊎_elim (λ (h : c < 1). g.1 (one (λ c. state second (c ∷ []) ≡ state ones (c ∷ [])) refl c h)) (λ r. r.1) b
    earliest (c ∷ d ∷ other) g l b = omega arith

pub agree : state first ≡ state twice
unfolding meaning
agree = sym (means 2 twice (λ n. state first) (record {
  values = two (λ n. (node twice n).values ≡ 0 ∷ []) refl refl;
  inside = λ n c h g.
      two (λ n. target twice n c < 2) (two (λ c. target twice 0 c < 2) (omega arith) (omega arith) c g)
      (two (λ c. target twice 1 c < 2) (omega arith) (omega arith) c g) n h;
  beliefs = λ n c h g. two (λ c. state first ≡ belief (state first) c) refl refl c g;
  outside = λ n c h g chain. ap (λ (s : State). s chain) (belief_out 2 first 0 c g);
}) 0 (omega arith))

pub explained : Explained P 1 1 0 0 (state first)
unfolding Explained Leads utility holds all_pass passes compares meaning
explained = ([], state second, state second, omega arith, plays, refl, omega arith)

ending : Ending P 1 1 1 (state first) (0 ∷ [])
unfolding Leads utility holds all_pass passes compares meaning
ending = record {
  some = omega arith;
  within = omega arith;
  end = state second;
  leads = (
    state second,
    plays,
    λ c m _. subst (λ (c : ℕ). Explained P 1 1 c 0 (state first)) (sym (Memᴰ.eq_of_singleton m)) explained,
    refl,
  );
  better = omega arith;
}

pub misses_all : (k t : ℕ) (list : List ℕ) → ¬ Ending P k t 0 (state first) list
unfolding Leads Explained
misses_all k t [] x = omega (arith, x.some)
misses_all k t (a ∷ list) x =
    x.leads.2 0 (one (λ a. Memᴰ 0 (action_of P a).consenters) (Memᴰ.head refl) a x.leads.1.there) tt

not_before : (list : List ℕ) → ¬ Before list (0 ∷ [])
unfolding Before
not_before [] b = b
not_before (c ∷ list) b = ⊎_elim (λ (h : c < 0). omega arith) (λ r. r.1) b

pub sought : Sought P 1 1 1 (state first) (0 ∷ []) 0 5
unfolding holds all_pass passes compares meaning utility ending
sought = record {
  first = record { good = ending; shortest = λ other x. x.some; earliest = λ other x l b. not_before other b };
  at_start = refl;
  at_end = refl;
}
