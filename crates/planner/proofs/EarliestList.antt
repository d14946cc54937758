-- The author's list search: the earliest list of n actions, by the first action and what follows it. Assumes nothing.
use Prim.Native.Nat.{ℕ, zero, suc, ◌+◌, ◌*◌, ◌-◌, ◌<◌, ◌≤◌}
use mathlib.Core.Path.{◌≡◌, refl, sym, ap, ◌∙◌, subst}
use mathlib.Core.Logic.{◌≢◌, ⊎_elim, by_cases}
use mathlib.Core.List.{List, [], ◌∷◌}
use native.Mathlib.Decide.{dec_le, ℕ_discrete}
use native.Mathlib.Nat.{mul-le-mul_right}
use native.Mathlib.Omega.{arith}
use lib.ListN.{length, get_or}
use Rattle.pack.specs.Syntax.{Node, Theory, Rule}
use Rattle.pack.specs.State.{State, meaning}
use Rattle.pack.specs.Reading.{done}
use Rattle.pack.specs.Duties.Answer.{dims}
use Rattle.pack.specs.Grammar.{Dimensions, rules_at}
use Rattle.pack.specs.Condition as condition
use Rattle.pack.specs.Duties.Judge.{Over, Judged}
use Rattle.pack.specs.Duties.Table.{table_of, state_of, Below, Above}
use Rattle.pack.specs.declared.table.Table.{Table}
use Rattle.chart.specs.Call.{work_room}
use Rattle.chart.specs.Chart.{Written}
use Rattle.chart.specs.Earliest.{Before}
use Rattle.chart.specs.Laws.Lists.{place}
use Rattle.transition.specs.Happening.{nothing, Plays, action_of}
use Rattle.transition.specs.Laws.Settled.{plays_one}
use Rattle.planner.specs.declared.limits.Context.{Context}
use Rattle.planner.specs.Ending.{Leads, Explained, author_utility}
use Rattle.std.specs.Prelude.{Option, Some, None, MatchOption, is_some}
use mathlib.Core.Bool.{true, false}
use Rattle.planner.specs.Inner.Lists.{slot_table, Agreed, All, Ends, EndsBy}
use Rattle.planner.specs.Inner.Memory.{Fact, Memory}
use Rattle.planner.specs.Inner.Explain.{Stage, Free}
use Rattle.planner.specs.Inner.Search.{Dry, Trail, Repeated, Put, Chosen, Best}
use Rattle.planner.specs.Laws.Explaining.{Agreeing}
use Rattle.planner.proofs.Chains.{table_moved}
use Rattle.planner.proofs.TrueMemory.{unset, state_moved}
use Rattle.planner.proofs.Explanations.{consenter_below, slot_same, stage_extent, stage_state}

-- none is no value, and a value is one
pub no_some : {A B : Type 0} {v : A} → None ≡ Some v → B
no_some {A} {B} e = absurd (subst (λ (o : Option A). MatchOption o (Unit {0}) (λ w. ⊥)) e tt)

pub some_is : {A : Type 0} {v w : A} → Some v ≡ Some w → v ≡ w
some_is {A} {v} e = subst (λ (o : Option A). MatchOption o ⊥ (λ w. v ≡ w)) e refl

-- by a test
pub is_none : {A : Type 0} {o : Option A} → is_some o ≡ false → o ≡ None
is_none {o = None} e = refl
is_none {o = Some v} e = absurd (unset (sym e))

pub not_none : {A : Type 0} {o : Option A} → is_some o ≡ true → (v : A) × (o ≡ Some v)
not_none {o = None} e = absurd (unset e)
not_none {o = Some v} e = (v, refl)

-- none found
pub best_none : {M : List ℕ → Type 0} {Good : List ℕ → ℕ → Type 0} {n : ℕ} (was : List ℕ) {done slot : ℕ} {work work' : List ℕ} → Below work work' slot → Above work work' work_room → M work' → ((list : List ℕ) (v : ℕ) → length list ≡ n → ¬ Good list v) → Best M Good n was was done slot work work' None
best_none was low high m f = record { memory = m; none = λ e. (refl, f); some = λ v e. no_some e; low = low; high = high }

-- after something that changes no slot in use
pub best_from : {M : List ℕ → Type 0} {Good : List ℕ → ℕ → Type 0} {n : ℕ} {was now : List ℕ} {at slot : ℕ} {work mid work' : List ℕ} {r : Option ℕ} → Below work mid slot → Above work mid work_room → Best M Good n was now at slot mid work' r → Best M Good n was now at slot work work' r
best_from low high b = record { none = b.none; some = b.some; low = λ q l. b.low q l ∙ low q l; high = λ q l. b.high q l ∙ high q l; memory = b.memory }

-- more is put into the memory
pub best_noted : {M : List ℕ → Type 0} {Good : List ℕ → ℕ → Type 0} {n : ℕ} {was now : List ℕ} {at slot : ℕ} {work mid work' : List ℕ} {r : Option ℕ} {far : ℕ} → Best M Good n was now at slot work mid r → slot ≤ far → Below mid work' far → Above mid work' work_room → M work' → Best M Good n was now at slot work work' r
best_noted b le low high m = record { none = b.none; some = b.some; low = λ q l. low q (omega arith) ∙ b.low q l; high = λ q l. high q l ∙ b.high q l; memory = m }

-- the same answer, under another name
pub best_is : {M : List ℕ → Type 0} {Good : List ℕ → ℕ → Type 0} {n : ℕ} {was now : List ℕ} {at slot : ℕ} {work work' : List ℕ} {r r' : Option ℕ} → r ≡ r' → Best M Good n was now at slot work work' r' → Best M Good n was now at slot work work' r
best_is {M} {Good} {n} {was} {now} {at} {slot} {work} {work'} e b = subst (λ (r : Option ℕ). Best M Good n was now at slot work work' r) (sym e) b

-- one action more than the rest
pub best_same : {M : List ℕ → Type 0} {Good : List ℕ → ℕ → Type 0} {n n' : ℕ} {was now : List ℕ} {at slot : ℕ} {work work' : List ℕ} {r : Option ℕ} → n ≡ n' → Best M Good n was now at slot work work' r → Best M Good n' was now at slot work work' r
best_same {M} {Good} {n} {n'} {was} {now} {at} {slot} {work} {work'} {r} e b = subst (λ (n : ℕ). Best M Good n was now at slot work work' r) e b

-- that there is none is a fact
pub fact_of_none : (th : Theory) (K e base : ℕ) (s : ℕ → State) {left who : ℕ} → ((list : List ℕ) (v : ℕ) → length list ≡ left → ¬ Ends th K e base (s 0) list v) → Fact th K 3 (record { who = who; nesting = e; number = left; base = base }) s
fact_of_none th K e base s f = record { no = λ z. absurd (omega (arith, z)); yes = λ z. absurd (omega (arith, z)); none = λ z. f; unexplained = λ z. absurd (omega (arith, z)); explained = λ z. absurd (omega (arith, z)) }

-- a slot lies no further than one of a number at least as great, and a number no further than its slot
pub slots_upto : (h : Context) {i n : ℕ} → i ≤ n → i * h.stride ≤ n * h.stride
slots_upto h l = mul-le-mul_right h.stride l

module _ (th : Theory) (K e base : ℕ) (s : State) where
  -- the author's path, one state longer
  module _ {h : Context} {was : List ℕ} {n left : ℕ} (trail : Trail th K e base h was n (suc left) s) where
    trail_next : {now : List ℕ} {slot x : ℕ} {t : State} → slot ≡ n * h.stride → Below was now (slot + h.stride) → 1 + get_or now slot 0 * (h.fluents + h.characters) ≤ h.stride → state_of (slot_table h now slot) now 0 ≡ s
        → Written h.characters (table_of (slot_table h now (slot + h.stride)) now) → 1 + get_or now (slot + h.stride) 0 * (h.fluents + h.characters) ≤ h.stride
        → Plays th s x t → Agreeing th All (Explained th K e) s x (action_of th x).consenters → Trail th K e base h now (n + 1) left t
    unfolding Leads
    trail_next {now} {slot} {x} {t} at low few here next fits plays agreed = record {
      before = λ i l. by_cases (ℕ_discrete i n)
          (λ z. let same : state_of (slot_table h now (i * h.stride)) now 0 ≡ s = ap (λ (q : ℕ). state_of (slot_table h now q) now 0) (ap (λ (i : ℕ). i * h.stride) z ∙ sym at) ∙ here in
          let up : left + (n + 1 - i) ≡ suc left = omega (arith, z) in
          subst (Dry (Ends th K e base (state_of (slot_table h now (i * h.stride)) now 0))) (sym up) (subst (λ (s : State). Dry (Ends th K e base s) (suc left)) (sym same) trail.here))
          (λ z. let less : i < n = omega (arith, l, z) in
          let up : left + (n + 1 - i) ≡ suc left + (n - i) = omega (arith, less) in
          let same : state_of (slot_table h now (i * h.stride)) now 0 ≡ state_of (slot_table h was (i * h.stride)) was 0 = state_moved h was now (i * h.stride) (i * h.stride) (λ q g. low (i * h.stride + q) (omega (arith, g, trail.small i (omega (arith, less)), at, slots_upto h {i = i} {n = n} (omega (arith, less))))) in
          subst (Dry (Ends th K e base (state_of (slot_table h now (i * h.stride)) now 0))) (sym up) (subst (λ (s : State). Dry (Ends th K e base s) (suc left + (n - i))) (sym same) (trail.before i less)));
      here = λ l v g q. trail.here (x ∷ l) v (omega (arith, g)) (q.0, (t, plays, agreed, q.1), q.2);
      written = λ i l. by_cases (dec_le i n)
          (λ z. subst (Written h.characters) (sym (stays i z)) (trail.written i z))
          (λ z. subst (λ (q : ℕ). Written h.characters (table_of (slot_table h now q) now)) (last i (omega (arith, l, z))) next);
      small = λ i l. by_cases (dec_le i n)
          (λ z. subst (λ (c : ℕ). 1 + c * (h.fluents + h.characters) ≤ h.stride) (sym (low (i * h.stride) (omega (arith, at, slots_upto h z, trail.small i z)))) (trail.small i z))
          (λ z. subst (λ (q : ℕ). 1 + get_or now q 0 * (h.fluents + h.characters) ≤ h.stride) (last i (omega (arith, l, z))) fits);
    }
      where
        -- a slot of the path so far
        stays : (i : ℕ) → i ≤ n → table_of (slot_table h now (i * h.stride)) now ≡ table_of (slot_table h was (i * h.stride)) was
        stays i z = table_moved h was now (i * h.stride) (i * h.stride) (λ q g. low (i * h.stride + q) (omega (arith, g, trail.small i z, at, slots_upto h z)))

        -- the new one
        last : (i : ℕ) → i ≡ n + 1 → slot + h.stride ≡ i * h.stride
        last i z = omega (arith, at, ap (λ (i : ℕ). i * h.stride) z)

  -- the path where its bytes stay
  pub trail_same : {h : Context} {was now : List ℕ} {n left : ℕ} → Below was now (n * h.stride + h.stride) → Trail th K e base h was n left s → Trail th K e base h now n left s
  trail_same {h} {was} {now} {n} {left} low trail = record {
    before = λ i l. subst (λ (s : State). Dry (Ends th K e base s) (left + (n - i))) (sym (state_moved h was now (i * h.stride) (i * h.stride) (λ q g. low (i * h.stride + q) (omega (arith, g, trail.small i (omega (arith, l)), slots_upto h {i = i} {n = n} (omega (arith, l))))))) (trail.before i l);
    here = trail.here;
    written = λ i l. subst (Written h.characters) (sym (table_moved h was now (i * h.stride) (i * h.stride) (λ q g. low (i * h.stride + q) (omega (arith, g, trail.small i l, slots_upto h l))))) (trail.written i l);
    small = λ i l. subst (λ (c : ℕ). 1 + c * (h.fluents + h.characters) ≤ h.stride) (sym (low (i * h.stride) (omega (arith, slots_upto h l, trail.small i l)))) (trail.small i l);
  }

  -- no path yet
  trail_none : {h : Context} (work : List ℕ) {n : ℕ} → Written h.characters (table_of (slot_table h work 0) work) → 1 + get_or work 0 0 * (h.fluents + h.characters) ≤ h.stride → author_utility th s ≤ base → ((l : List ℕ) (v : ℕ) → 0 < length l → length l < n → ¬ Ends th K e base s l v) → Trail th K e base h work 0 n s
  unfolding Leads
  trail_none {h} work {n} first fits le f = record {
    before = λ i l. absurd (omega arith);
    here = none;
    written = λ i l. subst (λ (q : ℕ). Written h.characters (table_of (slot_table h work q) work)) (at_none i l) first;
    small = λ i l. subst (λ (q : ℕ). 1 + get_or work q 0 * (h.fluents + h.characters) ≤ h.stride) (at_none i l) fits;
  }
    where
      at_none : (i : ℕ) → i ≤ 0 → 0 ≡ i * h.stride
      at_none i l = let z : i ≡ 0 = omega (arith, l) in omega (arith, ap (λ (i : ℕ). i * h.stride) z)

      none : Dry (Ends th K e base s) n
      none [] v l (s', q, (is, above)) = let same : author_utility th s ≡ author_utility th s' = ap (author_utility th) q in omega (arith, same, is, above, le)
      none (x ∷ l) v g q = f (x ∷ l) v (omega arith) g q

  -- a state that is on the path already
  pub trail_repeats : {h : Context} {work : List ℕ} (slot : ℕ) {n left : ℕ} → Trail th K e base h work n left s → state_of (slot_table h work slot) work 0 ≡ s → Repeated h work slot n → (list : List ℕ) (v : ℕ) → length list ≡ left → ¬ Ends th K e base s list v
  trail_repeats slot trail here (i, less, same) list v l q = trail.before i less list v (omega (arith, l, less)) (subst (λ (s : State). Ends th K e base s list v) (sym (same ∙ here)) q)

  abbrev U : ℕ
  U = author_utility th s

  -- no action is left
  pub best_end : {M : List ℕ → Type 0} (was : List ℕ) {at slot : ℕ} (work : List ℕ) {r : Option ℕ} → M work → (base < U → r ≡ Some U) → (U ≤ base → r ≡ None) → Best M (Ends th K e base s) 0 was was at slot work work r
  unfolding Leads Before
  best_end was {at} {slot} work {r} m f g = record {
    memory = m;
    none = λ z. (refl, λ list v l q. not_one z list v l q);
    some = λ v e.
        let above : base < U = by_cases' e in
        let is : U ≡ v = some_is (sym (f above) ∙ e) in
        ([], record { long = refl; good = (s, refl, (is, omega (arith, is, above))); earliest = λ other v l q b. short other l b }, record { put = λ i l. absurd (omega arith); low = λ q l. refl; high = λ q l. refl });
    low = λ q l. refl;
    high = λ q l. refl;
  }
    where
      not_one : r ≡ None → (list : List ℕ) (v : ℕ) → length list ≡ 0 → Ends th K e base s list v → ⊥
      not_one z [] v l (s', q, (w, b)) = let is : author_utility th s ≡ author_utility th s' = ap (author_utility th) q in let above : base < U = omega (arith, is, w, b) in no_some (sym z ∙ f above)
      not_one z (x ∷ list) v l q = absurd (omega (arith, l))

      by_cases' : {v : ℕ} → r ≡ Some v → base < U
      by_cases' e = by_cases (dec_le U base) (λ h. no_some (sym (g h) ∙ e)) (λ h. omega (arith, h))

      short : (other : List ℕ) → length other ≡ 0 → Before other [] → ⊥
      short other l b = b

  -- action x, of none before which a list can begin
  pub best_first : {M : List ℕ → Type 0} {n x : ℕ} {was now : List ℕ} {at slot : ℕ} {work mid work' : List ℕ} {r : Option ℕ} {v : ℕ} → Below work mid slot → Above work mid work_room → ((y : ℕ) → y < x → (list : List ℕ) (v : ℕ) → length list ≡ suc n → ¬ EndsBy th K e base y s list v)
      → r ≡ Some v → Best M (EndsBy th K e base x s) (suc n) was now at slot mid work' r → Best M (Ends th K e base s) (suc n) was now at slot work work' r
  unfolding Leads Before
  best_first {M} {n} {x} {was} {now} {at} {slot} {work} {mid} {work'} {r} low high f is b = record {
    memory = b.memory;
    none = λ z. no_some (sym z ∙ is);
    some = λ w e. let (list, c, put) = b.some w e in (list, record { long = c.long; good = whole c.good; earliest = λ other v l q. earlier list c other v l q }, put);
    low = λ q l. b.low q l ∙ low q l;
    high = λ q l. b.high q l ∙ high q l;
  }
    where
      whole : {list : List ℕ} {v : ℕ} → EndsBy th K e base x s list v → Ends th K e base s list v
      whole {list} {v} (rest, q, (t, plays, agreed, (s', leads, w))) = subst (λ (list : List ℕ). Ends th K e base s list v) (sym q) (s', (t, plays, agreed, leads), w)

      earlier : (list : List ℕ) {r : ℕ} → Chosen (EndsBy th K e base x s) (suc n) list r → (other : List ℕ) (v : ℕ) → length other ≡ suc n → Ends th K e base s other v → Before other list → ⊥
      earlier list c [] v l q b = absurd (omega (arith, l))
      earlier list c (y ∷ other) v l (s', (t, plays, agreed, leads), w) b =
          let (rest, is, more) = c.good in
          ⊎_elim (λ (h : y < x). f y h (y ∷ other) v l (other, refl, (t, plays, agreed, (s', leads, w))))
          (λ (h : (y ≡ x) × Before other rest). c.earliest (y ∷ other) v l (subst (λ (x : ℕ). EndsBy th K e base x s (y ∷ other) v) h.0 (other, refl, (t, plays, agreed, (s', leads, w)))) b)
          (subst (Before (y ∷ other)) is b)

  -- and none at all
  pub best_no : {n : ℕ} → ((y : ℕ) → y < length th.actions → (list : List ℕ) (v : ℕ) → length list ≡ suc n → ¬ EndsBy th K e base y s list v) → (list : List ℕ) (v : ℕ) → length list ≡ suc n → ¬ Ends th K e base s list v
  unfolding Leads
  best_no f [] v l q = absurd (omega (arith, l))
  best_no f (y ∷ list) v l (s', (t, plays, agreed, leads), w) = f y plays.there (y ∷ list) v l (list, refl, (t, plays, agreed, (s', leads, w)))

  -- none by an action that is the last one and leaves no more than base
  pub best_hopeless : {left : ℕ} (x : ℕ) → ((u : State) → Plays th s x u → (left ≡ 0) × (author_utility th u ≤ base)) → (list : List ℕ) (v : ℕ) → length list ≡ suc left → ¬ EndsBy th K e base x s list v
  unfolding Leads
  best_hopeless x f list v l ([], is, (u, plays, agreed, (s', q, (w, b)))) = let same : author_utility th u ≡ author_utility th s' = ap (author_utility th) q in omega (arith, same, w, b, (f u plays).1)
  best_hopeless x f list v l (y ∷ rest, is, (u, plays, agreed, r)) = omega (arith, l, ap length is, (f u plays).0)

  -- an action that is played
  module _ (x : ℕ) {t : State} (plays : Plays th s x t) where
    same : {list : List ℕ} {v : ℕ} → EndsBy th K e base x s list v → (rest : List ℕ) × (list ≡ x ∷ rest) × Ends th K e base t rest v
    same {list} {v} (rest, q, (u, p, z, m)) = (rest, q, subst (λ (u : State). Ends th K e base u rest v) (plays_one p plays) m)

    module _ (agreed : Agreeing th All (Explained th K e) s x (action_of th x).consenters) {M M' : List ℕ → Type 0} {n : ℕ} {was now : List ℕ} {at slot slot' : ℕ} {work mid work' : List ℕ} {r : Option ℕ} (le : slot ≤ slot') (fewer : M' work' → M work') (low : Below work mid slot) (high : Above work mid work_room) (b : Best M' (Ends th K e base t) n was now (at + 1) slot' mid work' r) where
      pub best_by_none : r ≡ None → Best M (EndsBy th K e base x s) (suc n) was now at slot work work' None
      best_by_none e = record {
        memory = fewer b.memory;
        none = λ _. ((b.none e).0, λ list v l q. let (rest, is, m) = same q in (b.none e).1 rest v (omega (arith, l, ap length is)) m);
        some = λ v z. no_some z;
        low = λ q l. b.low q (omega arith) ∙ low q l;
        high = λ q l. b.high q l ∙ high q l;
      }

      pub best_by : {v : ℕ} → r ≡ Some v → {then : List ℕ} → get_or then at 0 ≡ x → ((q : ℕ) → q ≢ at → get_or then q 0 ≡ get_or now q 0) → Best M (EndsBy th K e base x s) (suc n) was then at slot work work' (Some v)
      unfolding Before
      best_by {v} is {then} here else = record {
        memory = fewer b.memory;
        none = λ q. no_some (sym q);
        some = λ w q. subst (λ (w : ℕ). (list : List ℕ) × Chosen (EndsBy th K e base x s) (suc n) list w × Put was then at list) (some_is q) (
            let (list, c, p) = b.some v is in (
              x ∷ list,
              record { long = omega (arith, c.long); good = (list, refl, (t, plays, agreed, c.good)); earliest = λ other v l q. earlier list c other v l q },
              record {
                put = stand list p;
                low = λ q l. else q (λ z. omega arith) ∙ p.low q (omega arith);
                high = λ q l. else q (λ z. omega arith) ∙ p.high q (omega arith);
              },
            ));
        low = λ q l. b.low q (omega arith) ∙ low q l;
        high = λ q l. b.high q l ∙ high q l;
      }
        where
          stand : (list : List ℕ) → Put was now (at + 1) list → (i : ℕ) → i < length (x ∷ list) → get_or then (at + i) 0 ≡ get_or (x ∷ list) i 0
          stand list p zero l = let z : at + 0 ≡ at = omega arith in ap (λ (q : ℕ). get_or then q 0) z ∙ here
          stand list p (suc i) l = let z : at + suc i ≡ at + 1 + i = omega arith in ap (λ (q : ℕ). get_or then q 0) z ∙ else (at + 1 + i) (λ w. omega arith) ∙ p.put i (omega arith)

          earlier : (list : List ℕ) {r : ℕ} → Chosen (Ends th K e base t) n list r → (other : List ℕ) (v : ℕ) → length other ≡ suc n → EndsBy th K e base x s other v → Before other (x ∷ list) → ⊥
          earlier list c other v l q b =
              let (rest, is, m) = same q in
              ⊎_elim (λ (h : x < x). omega (arith, h)) (λ (h : (x ≡ x) × Before rest list). c.earliest rest v (omega (arith, l, ap length is)) m h.1) (subst (λ (other : List ℕ). Before other (x ∷ list)) is b)

module _ {th : Theory} {T : List Node} {pack places : List ℕ} {h : Context} {was : List ℕ} {t : Table} {slot : ℕ} (x : Stage th T pack places h was t slot) where
  -- where the author's rules are found
  pub author_rules : (root : ℕ) → root < t.nodes → (Judged rules_at pack (get_or places 320 0) t was root) × (320 < length places)
  author_rules root i =
      let g = x.theorized.found.rules 0 (omega arith) in (
        record { table = x.tabled.fits; there = i; dimensions = dims th.characters th.domains; over = x.tabled.over; value = get_or th.utilities 0 []; end = g.end; reads = g.reads },
        omega (arith, x.theorized.marked),
      )

  pub author-utility : {r : ℕ} (root : ℕ) → ((d : Dimensions) → Over d t → (rules : List Rule) (n : ℕ) → rules_at d pack (get_or places 320 0) ≡ done rules n → r ≡ condition.utility (state_of t was root) rules) → r ≡ author_utility th (meaning t.characters T root)
  author-utility root f =
      let g = x.theorized.found.rules 0 (omega arith) in
      f (dims th.characters th.domains) x.tabled.over (get_or th.utilities 0 []) g.end g.reads ∙ ap (λ (U : List Node). condition.utility (meaning t.characters U root) (get_or th.utilities 0 [])) x.tabled.same

  -- no consenter has the number of characters for its own: all are asked
  module _ (K e a : ℕ) (l : a < h.actions) (s : State) where
    pub agreed_from : Agreed th K e h.characters a s → Agreeing th All (Explained th K e) s a (action_of th a).consenters
    agreed_from f d m q =
        let (i, li, g) = place (action_of th a).consenters 0 d m in
        let z = (x.theorized.found.action a l nothing).consenters in
        let low = consenter_below (dims th.characters th.domains) pack (get_or places (9 * a + 2) 0) (action_of th a).consenters z.end z.reads i li in
        f d m (λ w. omega (arith, low, g, w, x.tabled.over.characters, x.same_characters))

    pub agreed_to : Agreeing th All (Explained th K e) s a (action_of th a).consenters → Agreed th K e h.characters a s
    agreed_to f d m q = f d m tt

-- the path, and a step from the state in its last slot
pub trail_step : {th : Theory} {T : List Node} {pack places : List ℕ} {h : Context} {was : List ℕ} (slot : ℕ) (x : Stage th T pack places h was (slot_table h was slot) (slot + h.stride)) (K e base : ℕ) {n left : ℕ} → Trail th K e base h was n (suc left) (meaning h.characters T 0) → slot ≡ n * h.stride
    → (now : List ℕ) → Below was now (slot + h.stride) → length now ≡ length was → Written h.characters (table_of (slot_table h now (slot + h.stride)) now) → 1 + get_or now (slot + h.stride) 0 * (h.fluents + h.characters) ≤ h.stride → {a : ℕ} {t : State} → Plays th (meaning h.characters T 0) a t → Agreeing th All (Explained th K e) (meaning h.characters T 0) a (action_of th a).consenters → Trail th K e base h now (n + 1) left t
trail_step {th} {T} {h = h} slot x K e base trail at now low long next fits plays agreed =
    let y = slot_same slot x low long in
    trail_next th K e base (meaning h.characters T 0) trail at low (stage_extent slot y) (stage_state y 0) next fits plays agreed

-- no action is played yet
pub trail_outset : {th : Theory} {T : List Node} {pack places : List ℕ} {h : Context} {was now : List ℕ} (K e base : ℕ) {n : ℕ} → Stage th T pack places h was (slot_table h was 0) (0 + h.stride)
    → Below was now (0 + h.stride) → length now ≡ length was → Written h.characters T → author_utility th (meaning h.characters T 0) ≤ base
    → ((l : List ℕ) (v : ℕ) → 0 < length l → length l < n → ¬ Ends th K e base (meaning h.characters T 0) l v) → Trail th K e base h now 0 n (meaning h.characters T 0)
trail_outset {th} {T} {h = h} {now = now} K e base x low long first le f =
    let y = slot_same 0 x low long in
    trail_none th K e base (meaning h.characters T 0) {h = h} now (subst (Written h.characters) (sym y.tabled.same) first) (stage_extent 0 y) le f

-- the slot behind the last of the path is the path's next
pub on_path : {th : Theory} {T : List Node} {pack places : List ℕ} {h : Context} {work : List ℕ} {K : ℕ} (n : ℕ) → Stage th T pack places h work (slot_table h work (n * h.stride + h.stride)) (n * h.stride + h.stride + h.stride) → Memory th K h (n * h.stride + h.stride + h.stride) work
    → Stage th T pack places h work (slot_table h work ((n + 1) * h.stride)) ((n + 1) * h.stride + h.stride) × Memory th K h ((n + 1) * h.stride + h.stride) work
on_path {th} {T} {pack} {places} {h} {work} {K} n x m =
    let e : n * h.stride + h.stride ≡ (n + 1) * h.stride = omega arith in
    (subst (λ (s : ℕ). Stage th T pack places h work (slot_table h work s) (s + h.stride)) e x, subst (λ (s : ℕ). Memory th K h (s + h.stride) work) e m)

-- the first slot is the path's first
outset : (h : Context) → 0 * h.stride ≡ 0
outset h = omega arith

module _ {th : Theory} {h : Context} {K : ℕ} where
  pub at_outset : {T : List Node} {pack places work : List ℕ} → Stage th T pack places h work (slot_table h work 0) (0 + h.stride) → Memory th K h (0 + h.stride) work
      → Stage th T pack places h work (slot_table h work (0 * h.stride)) (0 * h.stride + h.stride) × Memory th K h (0 * h.stride + h.stride) work
  at_outset {T} {pack} {places} {work} x m = (subst (λ (s : ℕ). Stage th T pack places h work (slot_table h work s) (s + h.stride)) (sym (outset h)) x, subst (λ (s : ℕ). Memory th K h (s + h.stride) work) (sym (outset h)) m)

  pub best_outset : {Good : List ℕ → ℕ → Type 0} {n : ℕ} {was now work work' : List ℕ} {r : Option ℕ} → Best (Memory th K h (0 * h.stride + h.stride)) Good n was now 0 (0 * h.stride + h.stride) work work' r → Best (Memory th K h (0 + h.stride)) Good n was now 0 (0 + h.stride) work work' r
  best_outset {Good} {n} {was} {now} {work} {work'} {r} b = subst (λ (s : ℕ). Best (Memory th K h (s + h.stride)) Good n was now 0 (s + h.stride) work work' r) (outset h) b

pub free_outset : (h : Context) (n : ℕ) → Free h 0 n → Free h (0 * h.stride) n
free_outset h n f = omega (arith, f)
