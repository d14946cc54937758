-- Part 1 as a stage: everyone's effects are the action's, and those take part whose observation condition holds. Assumes nothing.
use Prim.Native.Nat.{ℕ, suc, ◌+◌, ◌*◌, ◌<◌, ◌≤◌}
use mathlib.Core.Path.{◌≡◌, refl, sym, ap, ◌∙◌, subst}
use mathlib.Core.Bool.{Bool, true, false, cond}
use mathlib.Core.List.{List, []}
use native.Mathlib.Omega.{arith}
use lib.ListN.{length, get_or, replicate, length-replicate, get_or-replicate}
use Rattle.pack.specs.Syntax.{Action, Effect, Node, Theory}
use Rattle.pack.specs.State.{meaning}
use Rattle.pack.specs.Duties.Answer.{dims}
use Rattle.pack.specs.Duties.Contents.{ActionStands}
use Rattle.pack.specs.declared.table.Table.{Table}
use Rattle.pack.specs.declared.refusal.Stop.{Stop}
use Rattle.std.specs.Prelude.{Result, Option, Some, None}
use Rattle.std.specs.Option.{unwrap_or}
use Rattle.transition.specs.declared.change.Change.{Change}
use Rattle.transition.specs.Happening.{nothing, action_of, observes, act}
use Rattle.transition.specs.Duties.Cause.{told, EffectsAt, Telling}
use Rattle.transition.specs.Inner.Change.{Scene, Stands, Kinds}
use Rattle.transition.specs.Duties.Stage.{Staged}
use Rattle.transition.specs.Duties.Play.{Untold, Setting, Acted}
use Rattle.transition.proofs.FiringTriggers.{effects_inside}
use Rattle.transition.specs.Laws.ChangedRows.{small}

-- true is not false
pub clash : {B : Type 0} {b : Bool} → b ≡ true → b ≡ false → B
clash e f = let z : ◌≡◌ {A = ℕ} 0 1 = ap (λ (b : Bool). cond b 0 1) (sym e ∙ f) in absurd (omega arith)

module _ {p : Theory} {T : List Node} {pack places : List ℕ} {actions triggers : ℕ} {work : List ℕ} {t : Table} {slot : ℕ} (x : Setting p T pack places actions triggers work t slot) {a : ℕ} (l : a < actions) where
  abbrev A : Action
  A = action_of p a

  abbrev C : ℕ
  C = t.characters

  found : ActionStands (dims p.characters p.domains) pack places (9 * a) A
  found = x.theorized.found.action a l nothing

  -- the action's places are marked
  pub act_places : (9 * a + 3 + C ≤ 288) × (288 ≤ length places) × (C ≤ 6)
  act_places = (omega (arith, x.theorized.found.most_actions, small x.tabled), omega (arith, x.theorized.marked), omega (arith, small x.tabled))

  act_effects : EffectsAt (dims p.characters p.domains) pack (get_or places (9 * a + 1) 0) A.effects
  act_effects =
      let g = found.effects in
      let inside = effects_inside (dims p.characters p.domains) pack (get_or places (9 * a + 1) 0) A.effects g.end g.reads in
      record { none = λ h. absurd (omega (arith, inside)); some = λ h. g }

  pub act_telling : Telling pack (get_or places (9 * a + 1) 0)
  act_telling = record { dimensions = dims p.characters p.domains; small = x.theorized.small; effects = A.effects; stand = act_effects }

  abbrev pub scene : Scene
  scene = record { dimensions = dims p.characters p.domains; table = T; causes = λ s. A.effects; takes = observes A }

  module _ (root : ℕ) (inside : root < t.nodes) where
    abbrev pub part : ℕ → Change
    part k = record { table = t; acted = k; old = 6; observed = 9 * a + 3; root = root }

    kinds : (u : Option ℕ) → Untold A.effects C u → Kinds scene t.nodes C (part (unwrap_or u 7))
    kinds (Some c) y =
        let (here, quiet) = y.one c refl in
        record {
          edges = λ m d hm hd e. (omega (arith, small x.tabled), λ q. clash e (ap (λ (k : ℕ). told A.effects (suc k)) q ∙ quiet));
          acts = λ m d hm hd e f. omega (arith, here, small x.tabled);
          apart = λ l. omega (arith, here, small x.tabled);
          keeps = λ m d hm hd e. omega arith;
        }
    kinds None y = record {
      edges = λ m d hm hd e. (omega (arith, small x.tabled), omega (arith, hd, small x.tabled));
      acts = λ m d hm hd e f. clash (y.none refl d hd) e;
      apart = λ l. omega arith;
      keeps = λ m d hm hd e. omega arith;
    }

    pub act_stands : (u : Option ℕ) (k : ℕ) → k ≡ unwrap_or u 7 → ((d : Rattle.pack.specs.Grammar.Dimensions) → Rattle.pack.specs.Duties.Judge.Small d → (es : List Effect) → EffectsAt d pack (get_or places (9 * a + 1) 0) es → Untold es C u)
        → Stands scene pack places (replicate 32 (get_or places (9 * a + 1) 0)) (part k) work t
    act_stands u k e y = record {
      tabled = x.tabled;
      effects_stand = λ m hm. subst (λ (k : ℕ). EffectsAt (dims p.characters p.domains) pack k A.effects) (sym (get_or-replicate {A = ℕ} 32 m (get_or places (9 * a + 1) 0) 0 (omega (arith, x.tabled.few)))) act_effects;
      long = omega (arith, length-replicate {A = ℕ} 32 (get_or places (9 * a + 1) 0), x.tabled.few);
      observes = record {
        everyone = λ e. absurd (omega (arith, act_places));
        few = omega (arith, act_places);
        inside = λ h. omega (arith, act_places);
        condition = λ h c lc. get_or A.observed c [];
        stands = λ h c lc. found.observed c (omega (arith, x.tabled.over.characters));
        judged = λ h c lc z. refl;
      };
      kinds = subst (λ (k : ℕ). Kinds scene t.nodes C (part k)) (sym e) (kinds u (y (dims p.characters p.domains) x.theorized.small A.effects act_effects));
      root = inside;
    }

    pub acted_in : {now : List ℕ} {r : Result ℕ Stop} → Staged scene root t work now slot r → Acted (act A (meaning C T root)) t work now slot r
    unfolding act
    acted_in s = record { holds = s.holds; only = s.only }
