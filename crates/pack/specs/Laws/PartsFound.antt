-- What the marks say of an accepted pack: each part of it is read at its place. Assumes nothing.
use Rattle.std.specs.Prelude.{ℕ, zero, suc, ◌+◌, ◌*◌, ◌<◌, ◌≤◌, ◌≡◌, refl, eqb, Bool, true, false, Ok}
use Rattle.std.proofs.Common.{sym, ◌∙◌, arith, length-take-le, lt-ltb, le-ltb, eq-eqb, ne_eqb}
use Rattle.std.proofs.Math.Path.{ap, subst}
use mathlib.Core.List.{List, [], ◌∷◌}
use Rattle.std.proofs.Math.ListN.{length, get_or}
use Rattle.pack.specs.Syntax.{Action, Trigger, Theory, Pack}
use Rattle.pack.specs.Reading.{Reading, done, refused, Reader, pick, bind}
use Rattle.pack.specs.Reading.{mapped, runs, many, gives, refuses, told, ended}
use Rattle.pack.specs.Number.{between, counted}
use Rattle.pack.specs.Grammar.{Dimensions, head_at, node_at, nodes_at, condition_at, effects_at, consenters_at}
use Rattle.pack.specs.Grammar.{action_at, trigger_at, rules_at, theory_at, pack_at, pack_of, in_chart}
use Rattle.pack.specs.Duties.Said.{forget}
use Rattle.pack.specs.Duties.Answer.{dims, sizes_of}
use Rattle.pack.specs.Duties.Places.{Ends, Marked, KeptBelow, ActionParts, Actions, ActionsRead}
use Rattle.pack.specs.Duties.Places.{TriggerParts, Triggers, TriggersRead, UtilitiesRead}
use Rattle.pack.specs.Duties.Contents.{Gives, ActionStands, TriggerStands, TheoryFound}
use Rattle.pack.specs.Duties.Contents.{PackFound, body_at}
use Rattle.pack.specs.declared.contents.Counts.{Counts}
use Rattle.pack.specs.declared.dimensions.Domains.{Domains}
use Rattle.pack.specs.Laws.Reading.{mapped-mapped, mapped-bind, bind-mapped, bind-bind, never}
use Rattle.pack.specs.Laws.Reading.{never_gives, ended_gives, same_value, same_place, both, unmapped}
use Rattle.pack.specs.Laws.Number.{between_within}
use Rattle.pack.specs.Laws.Runs.{runs-length}
use Rattle.pack.specs.Laws.Marks.{many_suc, action_stays, trigger_stays}

-- what is read ends where it was found to end
pub ends_at : {A : Type 0} (p : Reader A) (s : List ℕ) (at : ℕ) (a : A) (n m : ℕ) → p s at ≡ done a n → Ends p s at m
    → n ≡ m
ends_at p s at a n m e f = same_place (ap (mapped forget) (sym e) ∙ f)

-- the i-th of k things stands where the first i end
pub nth : {A : Type 0} (p : Reader A) (s : List ℕ) (k i first m : ℕ) (xs : List A) (n : ℕ) (x : A)
    → many p k s first ≡ done xs n → i < k → Ends (many p i) s first m → Gives p s m (get_or xs i x)
unfolding runs
nth {A = A} p s zero i first m xs n x e h f = absurd (omega arith)
nth {A = A} p s (suc k) zero first m xs n x e h f =
    let b = both (p s first) (λ a n. mapped (λ rest. a ∷ rest) (many p k s n)) xs n e in
    let u = unmapped (λ rest. b.value ∷ rest) (many p k s b.place) xs n b.right in
    let same : first ≡ m = same_place f in
    record {
      end = b.place;
      reads = ap (p s) (sym same) ∙ b.left
          ∙ ap (λ (a : A). done a b.place) (ap (λ (l : List A). get_or l 0 x) u.right);
    }
nth {A = A} p s (suc k) (suc i) first m xs n x e h f =
    let b = both (p s first) (λ a n. mapped (λ rest. a ∷ rest) (many p k s n)) xs n e in
    let u = unmapped (λ rest. b.value ∷ rest) (many p k s b.place) xs n b.right in
    let next : Ends (many p i) s b.place m = ap
    (λ (r : Reading A). bind (mapped forget r) (λ w n. mapped forget (many p i s n))) (sym b.left)
    ∙ sym (many_suc p i s first) ∙ f in
    subst (Gives p s m) (ap (λ (l : List A). get_or l (suc i) x) u.right)
    (nth p s k i b.place m u.value n x u.left (omega arith) next)

-- how many of a counted run there are, and where the first begins
pub record Counted {A : Type 0} (low limit : ℕ) (p : Reader A) (s : List ℕ) (at : ℕ) (k first n : ℕ) (xs : List A)
    (m : ℕ) : Type 0 where
  pub long : length xs ≡ k
  pub reads : many p k s first ≡ done xs m
  pub ends : m ≡ n

pub counted_found : {A : Type 0} (low limit : ℕ) (p : Reader A) (s : List ℕ) (at k first n : ℕ) (xs : List A) (m : ℕ)
    → between low limit 3 s at ≡ done k first → mapped length (counted low limit p s at) ≡ done k n
    → counted low limit p s at ≡ done xs m → Counted low limit p s at k first n xs m
counted_found {A = A} low limit p s at k first n xs m b l e =
    let q : done (length xs) m ≡ done k n = ap (mapped length) (sym e) ∙ l in
    record {
      long = same_value q;
      reads = ap (λ (r : Reading ℕ). bind r (λ k n. many p k s n)) (sym b) ∙ e;
      ends = same_place q;
    }

module _ (d : Dimensions) (s places : List ℕ) where
  pub action_found : (base : ℕ) (a : Action) (n : ℕ) → ActionParts d s places base
      → action_at d s (get_or places base 0) ≡ done a n → ActionStands d s places base a
  unfolding action_at
  action_found base a n parts e =
      let b0 = both (condition_at d s (get_or places base 0)) _ a n e in
      let e0 = ends_at (condition_at d) s (get_or places base 0) b0.value b0.place (get_or places (base + 1) 0)
      b0.left parts.effects in
      let b1 = both (effects_at d s b0.place) _ a n b0.right in
      let r1 : effects_at d s (get_or places (base + 1) 0) ≡ done b1.value b1.place = ap (effects_at d s) (sym e0)
      ∙ b1.left in
      let e1 = ends_at (effects_at d) s (get_or places (base + 1) 0) b1.value b1.place (get_or places (base + 2) 0) r1
      parts.consenters in
      let b2 = both (consenters_at d s b1.place) _ a n b1.right in
      let r2 : consenters_at d s (get_or places (base + 2) 0)
      ≡ done b2.value b2.place = ap (consenters_at d s) (sym e1)
      ∙ b2.left in
      let e2 = ends_at (consenters_at d) s (get_or places (base + 2) 0) b2.value b2.place parts.first r2
      parts.ended in
      let u = unmapped (λ observed.
      record { condition = b0.value; effects = b1.value; consenters = b2.value; observed = observed })
      (many (condition_at d) d.characters s b2.place) a n b2.right in
      let r3 : many (condition_at d) d.characters s parts.first
      ≡ done u.value n = ap (many (condition_at d) d.characters s) (sym e2)
      ∙ u.left in
      record {
        condition =
            record {
              end = b0.place;
              reads = b0.left ∙ ap (λ (x : Action). done x.condition b0.place) u.right;
            };
        effects =
            record { end = b1.place; reads = r1 ∙ ap (λ (x : Action). done x.effects b1.place) u.right };
        consenters =
            record { end = b2.place; reads = r2 ∙ ap (λ (x : Action). done x.consenters b2.place) u.right };
        observed = λ c l.
            subst (Gives (condition_at d) s (get_or places ((base + 3) + c) 0))
            (ap (λ (x : Action). get_or x.observed c []) u.right)
            (nth (condition_at d) s d.characters c parts.first (get_or places ((base + 3) + c) 0) u.value n
            [] r3 l (parts.observed c l));
      }

  pub trigger_found : (base : ℕ) (t : Trigger) (n : ℕ) → TriggerParts d s places base
      → trigger_at d s (get_or places base 0) ≡ done t n → TriggerStands d s places base t
  unfolding trigger_at
  trigger_found base t n parts e =
      let b0 = both (condition_at d s (get_or places base 0)) _ t n e in
      let e0 = ends_at (condition_at d) s (get_or places base 0) b0.value b0.place (get_or places (base + 1) 0)
      b0.left parts in
      let u = unmapped (λ effects. record { condition = b0.value; effects = effects }) (effects_at d s b0.place) t n
      b0.right in
      record {
        condition =
            record {
              end = b0.place;
              reads = b0.left ∙ ap (λ (x : Trigger). done x.condition b0.place) u.right;
            };
        effects = record {
          end = n;
          reads = ap (effects_at d s) (sym e0) ∙ u.left ∙ ap (λ (x : Trigger). done x.effects n) u.right;
        };
      }

  pub theory_found : (at ka fa na kt ft nt : ℕ) → between 0 33 3 s at ≡ done ka fa
      → mapped length (counted 0 33 (action_at d) s at) ≡ done ka na → Actions d s places fa ka
      → between 0 17 3 s na ≡ done kt ft → mapped length (counted 0 17 (trigger_at d) s na) ≡ done kt nt
      → Triggers d s places ft kt
      → Marked (rules_at d) s nt places (λ k. 320 + k) (d.characters + 1)
      → (t : Theory) (n : ℕ) → theory_at d s at ≡ done t n → TheoryFound d s places t ka kt
  unfolding theory_at
  theory_found at ka fa na kt ft nt ba la acts bt lt trigs us t n e =
      let b0 = both (counted 0 33 (action_at d) s at) _ t n e in
      let c0 = counted_found 0 33 (action_at d) s at ka fa na b0.value b0.place ba la b0.left in
      let b1 = both (counted 0 17 (trigger_at d) s b0.place) _ t n b0.right in
      let r1 : counted 0 17 (trigger_at d) s na
      ≡ done b1.value b1.place = ap (counted 0 17 (trigger_at d) s) (sym c0.ends)
      ∙ b1.left in
      let c1 = counted_found 0 17 (trigger_at d) s na kt ft nt b1.value b1.place bt lt r1 in
      let u = unmapped (λ utilities.
      record {
        characters = d.characters;
        domains = d.domains;
        actions = b0.value;
        triggers = b1.value;
        utilities = utilities;
      }) (many (rules_at d) (suc d.characters) s b1.place) t n b1.right in
      let r2 : many (rules_at d) (suc d.characters) s nt
      ≡ done u.value n = ap (many (rules_at d) (suc d.characters) s) (sym c1.ends)
      ∙ u.left in
      record {
        actions = ap (λ (x : Theory). length x.actions) (sym u.right) ∙ c0.long;
        triggers = ap (λ (x : Theory). length x.triggers) (sym u.right) ∙ c1.long;
        most_actions = let w = between_within 0 33 3 s at ka fa ba in let h = w.1 in omega arith;
        most_triggers = let w = between_within 0 17 3 s na kt ft bt in let h = w.1 in omega arith;
        action = λ i l x.
            let g = nth (action_at d) s ka i fa (get_or places (9 * i) 0) b0.value b0.place x c0.reads l
            (acts.starts i l) in
            subst (ActionStands d s places (9 * i)) (ap (λ (y : Theory). get_or y.actions i x) u.right)
            (action_found (9 * i) (get_or b0.value i x) g.end (acts.parts i l) g.reads);
        trigger = λ i l x.
            let g = nth (trigger_at d) s kt i ft (get_or places (288 + 2 * i) 0) b1.value b1.place x c1.reads l
            (trigs.starts i l) in
            subst (TriggerStands d s places (288 + 2 * i)) (ap (λ (y : Theory). get_or y.triggers i x) u.right)
            (trigger_found (288 + 2 * i) (get_or b1.value i x) g.end (trigs.parts i l) g.reads);
        rules = λ k l.
            subst (Gives (rules_at d) s (get_or places (320 + k) 0))
            (ap (λ (y : Theory). get_or y.utilities k []) u.right)
            (nth (rules_at d) s (suc d.characters) k nt (get_or places (320 + k) 0) u.value n [] r2
            (omega (arith, l)) (us k l));
      }

-- a reading that is refused gives no value
pub no_value : {A B : Type 0} (x : Reading A) (k p : ℕ) (a : A) (n : ℕ) → mapped forget x ≡ refused k p → x ≡ done a n
    → B
no_value x k p a n e f = never (sym e ∙ ap (mapped forget) f)

-- what was marked stays marked where the places below a slot are kept
module _ (d : Dimensions) (s was now : List ℕ) (first k : ℕ) where
  pub actions_stay : d.characters ≤ 6 → k < 33 → KeptBelow 288 was now → Actions d s was first k
      → Actions d s now first k
  actions_stay few h kept a = record {
    starts = λ j l.
        subst (λ (x : ℕ). Ends (many (action_at d) j) s first x) (sym (kept (9 * j) (omega arith))) (a.starts j l);
    parts = λ j l. action_stays d s was now (9 * j) 288 few (omega arith) kept (a.parts j l);
  }

  pub triggers_stay : k < 17 → KeptBelow 320 was now → Triggers d s was first k → Triggers d s now first k
  triggers_stay h kept a = record {
    starts = λ j l.
        subst (λ (x : ℕ). Ends (many (trigger_at d) j) s first x) (sym (kept (288 + 2 * j) (omega arith)))
        (a.starts j l);
    parts = λ j l. trigger_stays d s was now (288 + 2 * j) 320 (omega arith) kept (a.parts j l);
  }

-- the three walks of a theory, one after the other
pub theory_marked : (d : Dimensions) (s : List ℕ) (at : ℕ) (p1 p2 p3 : List ℕ) (ka na kt nt m : ℕ)
    → d.characters ≤ 6
    → ActionsRead d s at p1 (Ok (ka, na)) → TriggersRead d s na p1 p2 (Ok (kt, nt))
    → UtilitiesRead d s nt p2 p3 (Ok m)
    → (t : Theory) (n : ℕ) → theory_at d s at ≡ done t n → TheoryFound d s p3 t ka kt
theory_marked d s at p1 p2 p3 ka na kt nt m few a b c t n e =
    let (fa, ba, ma) = a.found in
    let (ft, bt, mt) = b.found in
    let ha = between_within 0 33 3 s at ka fa ba in
    let ht = between_within 0 17 3 s na kt ft bt in
    let all : KeptBelow 288 p1 p3 = λ k l. c.kept k (omega arith) ∙ b.kept k l in
    theory_found d s p3 at ka fa na kt ft nt ba a.answer
    (actions_stay d s p1 p3 fa ka few ha.1 all ma) bt b.answer
    (triggers_stay d s p2 p3 ft kt ht.1 c.kept mt) c.marked t n e

-- what comes after a head, where its nodes and its theory were checked
pub body_forget : (d : Dimensions) (s : List ℕ) (at : ℕ)
    → mapped forget (body_at d s at) ≡ bind (between 1 33 3 s at)
    (λ k n. bind (mapped forget (many (node_at d k) k s n)) (λ u n. mapped forget (theory_at d s n)))
unfolding body_at nodes_at
body_forget d s at = simp (mapped-bind, bind-mapped, mapped-mapped) (bind-bind (between 1 33 3 s at) _ _)

pub theory_dims : (d : Dimensions) (s : List ℕ) (at : ℕ) (t : Theory) (n : ℕ) → theory_at d s at ≡ done t n
    → dims t.characters t.domains ≡ d
unfolding theory_at
theory_dims d s at t n e =
    let b0 = both (counted 0 33 (action_at d) s at) _ t n e in
    let b1 = both (counted 0 17 (trigger_at d) s b0.place) _ t n b0.right in
    let u = unmapped (λ utilities.
    record {
      characters = d.characters;
      domains = d.domains;
      actions = b0.value;
      triggers = b1.value;
      utilities = utilities;
    }) (many (rules_at d) (suc d.characters) s b1.place) t n b1.right in
    ap (λ (x : Theory). dims x.characters x.domains) (sym u.right)

pub many-length : {A : Type 0} (p : Reader A) (k : ℕ) (s : List ℕ) (at : ℕ) (xs : List A) (n : ℕ)
    → many p k s at ≡ done xs n → length xs ≡ k
many-length p k s at xs n e =
    same_value (ap (mapped length) (sym e) ∙ runs-length _ _ _ k s at
    ∙ ap (λ (r : Reading _). mapped (λ (u : Unit {0}). k) (mapped forget r)) e)

pub body_found : (characters : ℕ) (domains : Domains) (s : List ℕ) (at : ℕ) (places : List ℕ) (k first m : ℕ)
    (c : Counts)
    → between 1 33 3 s at ≡ done k first
    → Ends (many (node_at (dims characters (sizes_of domains)) k) k) s first m
    → ((t : Theory) (n : ℕ) → theory_at (dims characters (sizes_of domains)) s m ≡ done t n
    → TheoryFound (dims characters (sizes_of domains)) s places t c.actions c.triggers)
    → (p : Pack) (n : ℕ) → body_at (dims characters (sizes_of domains)) s at ≡ done p n
    → PackFound s places p (record {
      characters = characters;
      domains = domains;
      nodes = k;
      first = first;
      actions = c.actions;
      triggers = c.triggers;
    })
unfolding body_at nodes_at
body_found characters domains s at places k first m c b rows theory p n e =
    let d = dims characters (sizes_of domains) in
    let b0 = both (nodes_at d s at)
    (λ nodes n. mapped (λ theory. record { theory = theory; nodes = nodes }) (theory_at d s n)) p n e in
    let r0 : many (node_at d k) k s first ≡ done b0.value b0.place = ap
    (λ (r : Reading ℕ). bind r (λ k n. many (node_at d k) k s n)) (sym b)
    ∙ b0.left in
    let e0 : b0.place ≡ m = ends_at (many (node_at d k) k) s first b0.value b0.place m r0 rows in
    let u = unmapped (λ theory. record { theory = theory; nodes = b0.value }) (theory_at d s b0.place) p n
    b0.right in
    let t0 : theory_at d s m ≡ done u.value n = ap (theory_at d s) (sym e0) ∙ u.left in
    let f = theory u.value n t0 in
    let same : d ≡ dims p.theory.characters p.theory.domains = sym (theory_dims d s m u.value n t0)
    ∙ ap (λ (x : Pack). dims x.theory.characters x.theory.domains) u.right in
    record {
      characters = ap (λ (x : Dimensions). x.characters) (sym same);
      domains = ap (λ (x : Dimensions). x.domains) (sym same);
      fluents = ap (λ (x : Dimensions). length x.domains) (sym same)
          ∙ length-take-le domains.fluents domains.sizes (omega (arith, domains.few, domains.long));
      nodes = ap (λ (x : Pack). length x.nodes) (sym u.right)
          ∙ many-length (node_at d k) k s first b0.value b0.place r0;
      some_nodes = (between_within 1 33 3 s at k first b).0;
      most_nodes = let w = between_within 1 33 3 s at k first b in let h = w.1 in omega arith;
      rows = subst (λ (x : Dimensions). Gives (many (node_at x k) k) s first p.nodes) same
          (record { end = b0.place; reads = r0 ∙ ap (λ (x : Pack). done x.nodes b0.place) u.right });
      theory = subst (λ (x : Dimensions). TheoryFound x s places p.theory c.actions c.triggers) same
          (subst (λ (x : Pack). TheoryFound d s places x.theory c.actions c.triggers) u.right f);
    }

-- a head, and what comes after it
pub parts_forget : (s : List ℕ) (at : ℕ)
    → mapped forget (pack_at s at) ≡ bind (head_at s at) (λ d n. mapped forget (body_at d s n))
unfolding pack_at body_at
parts_forget s at = simp mapped-bind

pub parts_body : (s : List ℕ) (at : ℕ) → pack_at s at ≡ bind (head_at s at) (λ d n. body_at d s n)
unfolding pack_at body_at
parts_body s at = refl

-- the whole of the bytes
pub whole-forget : {A : Type 0} (end : ℕ) (x : Reading A) → told forget (ended end x) ≡ ended end (mapped forget x)
whole-forget end (done a n) = go (eqb n end)
  where
    go : (t : Bool) → told forget (pick t (gives a) (refuses 7 n)) ≡ pick t (gives (forget a)) (refuses 7 n)
    go true = refl
    go false = refl
whole-forget end (refused k p) = refl

-- "a pack above 8,192 bytes (place 0, tested first)"
pub pack-long : (s : List ℕ) → 8192 < length s → pack_of s ≡ refuses 3 0
unfolding pack_of
pack-long s h = rw lt-ltb

pack-short : (s : List ℕ) → length s ≤ 8192 → pack_of s ≡ ended (length s) (pack_at s 0)
unfolding pack_of
pack-short s h = rw le-ltb

-- a pack within the limit is told as its parts are, up to the bytes behind them
pub pack-told : (s : List ℕ) (x : Reading (Unit {0})) → length s ≤ 8192 → mapped forget (pack_at s 0) ≡ x
    → told forget (pack_of s) ≡ ended (length s) x
pack-told s x h e = ap (told forget) (pack-short s h) ∙ whole-forget (length s) (pack_at s 0) ∙ ap (ended (length s)) e

pub pack_all : (s : List ℕ) → length s ≤ 8192 → (p : Pack) → pack_of s ≡ gives p → pack_at s 0 ≡ done p (length s)
pack_all s h p e = ended_gives (length s) (pack_at s 0) p (sym (pack-short s h) ∙ e)

pub ended_passed : {A : Type 0} (end n : ℕ) (a : A) → n ≡ end → ended end (done a n) ≡ gives a
ended_passed end n a f = rw (eq-eqb n end f)

pub ended_early : {A : Type 0} (end n : ℕ) (a : A) → (n ≡ end → ⊥) → ended end (done a n) ≡ refuses 7 n
ended_early end n a f = rw (ne_eqb n end f)

-- a pack that is refused is none
pub no_pack : {B : Type 0} (s : List ℕ) (k n : ℕ) (p : Pack) → told forget (pack_of s) ≡ refuses k n
    → pack_of s ≡ gives p
    → B
no_pack s k n p e f = never_gives (sym e ∙ ap (told forget) f)

-- a chart, from the reading of its nodes
pub chart_refused : {A B : Type 0} (g : A → B) (end : ℕ) (x : Reading A) (k p : ℕ) → mapped g x ≡ refused k p
    → told g (in_chart (ended end x)) ≡ refuses (k + 20) p
chart_refused g end (done a n) k p e = never (sym e)
chart_refused g end (refused j q) k p e = let h : j ≡ k = cc in let i : q ≡ p = cc in rw (h, i)

chart_ended : {A B : Type 0} (g : A → B) (a : A) (t : Bool) (n : ℕ)
    → told g (in_chart (pick t (gives a) (refuses 7 n))) ≡ pick t (gives (g a)) (refuses 27 n)
chart_ended g a true n = refl
chart_ended g a false n = refl

pub chart_read : {A B : Type 0} (g : A → B) (end : ℕ) (x : Reading A) (b : B) (n : ℕ) → mapped g x ≡ done b n
    → told g (in_chart (ended end x)) ≡ pick (eqb n end) (gives b) (refuses 27 n)
chart_read g end (done a m) b n e =
    let h = same_value e in let i = same_place e in chart_ended g a (eqb m end) m ∙ rw (h, i)
chart_read g end (refused j q) b n e = never e
