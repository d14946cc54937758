-- Marking where the things of a run begin, while they are checked. Assumes nothing.
use Rattle.std.specs.Prelude.{ℕ, zero, suc, ◌+◌, ◌*◌, ◌-◌, ◌<◌, ◌≤◌, ◌≡◌, refl, List, length, get_or, set}
use Rattle.std.specs.Prelude.{Result, Ok, Err, IfOk}
use Rattle.std.proofs.Common.{sym, ap, ◌∙◌, subst, add-one, arith, length-set, get_or-set_same, get_or-set_other}
use Rattle.std.proofs.Math.Logic.{by_cases}
use Rattle.std.proofs.Math.Decide.{dec_lt}
use Rattle.pack.specs.Reading.{Reading, done, refused, Reader, bind, mapped, runs, many}
use Rattle.pack.specs.Grammar.{Dimensions, condition_at, effects_at, consenters_at}
use Rattle.pack.specs.Duties.Said.{forget}
use Rattle.pack.specs.Duties.Places.{Within, Ends, Marked, KeptBelow, ActionParts, TriggerParts}
use Rattle.pack.specs.Laws.Reading.{mapped-mapped, mapped-bind, bind-mapped, both, same_place}
use Rattle.pack.specs.Laws.Runs.{many_start, many_step, many_end}
use Rattle.pack.specs.Laws.Bounded.{Bounds, many_bounded, ends_within}

pub many_suc : {A : Type 0} (p : Reader A) (k : ℕ) (s : List ℕ) (at : ℕ)
    → mapped forget (many p (suc k) s at) ≡ bind (mapped forget (p s at)) (λ u n. mapped forget (many p k s n))
unfolding runs
many_suc p k s at = simp (mapped-bind, bind-mapped, mapped-mapped)

pub many_zero : {A : Type 0} (p : Reader A) (s : List ℕ) (at : ℕ) → mapped forget (many p zero s at) ≡ done tt at
unfolding runs
many_zero p s at = refl

-- where i of them end and one more begins
ends_suc : {A : Type 0} (p : Reader A) (i : ℕ) (s : List ℕ) (at n m : ℕ) → Ends (many p i) s at n → Ends p s n m
    → Ends (many p (suc i)) s at m
ends_suc p zero s at n m e f =
    let same : at ≡ n = same_place (sym (many_zero p s at) ∙ e) in
    many_suc p zero s at
    ∙ ap (λ (x : Reading (Unit {0})). bind x (λ u n. mapped forget (many p zero s n)))
    (ap (λ (k : ℕ). mapped forget (p s k)) same ∙ f)
    ∙ many_zero p s m
ends_suc p (suc i) s at n m e f =
    let b = both (mapped forget (p s at)) (λ u n. mapped forget (many p i s n)) tt n (sym (many_suc p i s at) ∙ e) in
    many_suc p (suc i) s at
    ∙ ap (λ (x : Reading (Unit {0})). bind x (λ u n. mapped forget (many p (suc i) s n))) b.left
    ∙ ends_suc p i s b.place n m b.right f

pub ends_more : {A : Type 0} (p : Reader A) (i : ℕ) (s : List ℕ) (at n m : ℕ) → Ends (many p i) s at n → Ends p s n m
    → Ends (many p (i + 1)) s at m
ends_more p i s at n m e f = subst (λ (k : ℕ). Ends (many p k) s at m) (sym (add-one i)) (ends_suc p i s at n m e f)

-- i of k things are read and marked, and the others are left, from n on
pub record Marking {A : Type 0} (p : Reader A) (s : List ℕ) (first : ℕ) (slot : ℕ → ℕ) (low : ℕ) (was now : List ℕ)
    (k i n : ℕ) : Type 0 where
  pub whole : mapped forget (many p k s first) ≡ mapped forget (many p (k - i) s n)
  pub read : Ends (many p i) s first n
  pub marked : Marked p s first now slot i
  pub kept : KeptBelow low was now

module _ {A : Type 0} (p : Reader A) (s : List ℕ) (first : ℕ) (slot : ℕ → ℕ) (low : ℕ) where
  pub marking_start : (was : List ℕ) (k : ℕ) → Marking p s first slot low was was k 0 first
  marking_start was k =
      record {
        whole = many_start p k s first;
        read = many_zero p s first;
        marked = λ j h. absurd (omega arith);
        kept = λ j h. refl;
      }

  -- the next begins at n, and is marked there
  pub marking_more : (was now : List ℕ) (k i n : ℕ) → Marking p s first slot low was now k i n → i < k
      → (then : List ℕ) → get_or then (slot i) 0 ≡ n
      → ((j : ℕ) → j < i → get_or then (slot j) 0 ≡ get_or now (slot j) 0)
      → KeptBelow low now then
      → (m : ℕ) → Ends p s n m → Marking p s first slot low was then k (i + 1) m
  marking_more was now k i n g h then here before below m e = record {
    whole = g.whole ∙ many_step p k i s n h
        ∙ ap (λ (x : Reading (Unit {0})). bind x (λ u n. mapped forget (many p (k - (i + 1)) s n))) e;
    read = ends_more p i s first n m g.read e;
    marked = λ j l. by_cases (dec_lt j i)
        (λ lt. subst (λ (x : ℕ). Ends (many p j) s first x) (sym (before j lt)) (g.marked j lt))
        (λ ge. let same : i ≡ j = omega arith in
        subst (λ (j : ℕ). Ends (many p j) s first (get_or then (slot j) 0)) same
        (subst (λ (x : ℕ). Ends (many p i) s first x) (sym here) g.read));
    kept = λ j l. below j l ∙ g.kept j l;
  }

  -- the mark is a store
  pub marking_set : (was now : List ℕ) (k i n : ℕ) → Marking p s first slot low was now k i n → i < k
      → slot i < length now → ((j : ℕ) → j < i → slot j < slot i) → low ≤ slot i
      → (m : ℕ) → Ends p s n m → Marking p s first slot low was (set now (slot i) n) k (i + 1) m
  marking_set was now k i n g h inside rises from m e =
      marking_more was now k i n g h (set now (slot i) n) (get_or-set_same now (slot i) n 0 inside)
      (λ j l. get_or-set_other now (slot i) (slot j) n 0 (omega (arith, rises j l)))
      (λ j l. get_or-set_other now (slot i) j n 0 (omega arith)) m e

  -- the next begins within the bytes
  pub marking_within : Bounds p → (was now : List ℕ) (k i n : ℕ) → Marking p s first slot low was now k i n
      → Within s first → Within s n
  marking_within h was now k i n g w = ends_within s first w n (many p i) (many_bounded p h i) g.read

  pub marking_refused : (was now : List ℕ) (k i n : ℕ) → Marking p s first slot low was now k i n → i < k
      → (number place : ℕ) → mapped forget (p s n) ≡ refused number place
      → mapped forget (many p k s first) ≡ refused number place
  marking_refused was now k i n g h number place e =
      g.whole ∙ many_step p k i s n h
      ∙ ap (λ (x : Reading (Unit {0})). bind x (λ u n. mapped forget (many p (k - (i + 1)) s n))) e

  pub marking_whole : (was now : List ℕ) (k i n : ℕ) → Marking p s first slot low was now k i n → k ≤ i
      → mapped forget (many p k s first) ≡ done tt n
  marking_whole was now k i n g h = g.whole ∙ many_end p k i s n h

  pub marking_all : (was now : List ℕ) (k i n : ℕ) → Marking p s first slot low was now k i n → k ≤ i
      → Marked p s first now slot k
  marking_all was now k i n g h = λ j l. g.marked j (omega arith)

-- a store at a place leaves those below it
pub set_below : (l : List ℕ) (i v low : ℕ) → low ≤ i → KeptBelow low l (set l i v)
set_below l i v low h k g = get_or-set_other l i k v 0 (omega arith)

-- an action's first three places, stored one after the other
module _ (was : List ℕ) (b at e q : ℕ) (inside : b + 1 < length was) where
  abbrev one : List ℕ
  one = set was b at

  abbrev two : List ℕ
  two = set one (b + 1) e

  abbrev three : List ℕ
  three = set two (b + 2) q

  pub first_one : get_or one b 0 ≡ at
  first_one = get_or-set_same was b at 0 (omega arith)

  pub first_two : get_or two b 0 ≡ at
  first_two = get_or-set_other one (b + 1) b e 0 (omega arith) ∙ first_one

  pub first_three : get_or three b 0 ≡ at
  first_three = get_or-set_other two (b + 2) b q 0 (omega arith) ∙ first_two

  second_two : get_or two (b + 1) 0 ≡ e
  second_two = get_or-set_same one (b + 1) e 0 (simp length-set (omega arith))

  second_three : get_or three (b + 1) 0 ≡ e
  second_three = get_or-set_other two (b + 2) (b + 1) q 0 (omega arith) ∙ second_two

  third_three : b + 2 < length was → get_or three (b + 2) 0 ≡ q
  third_three h = get_or-set_same two (b + 2) q 0 (simp length-set (omega arith))

  pub kept_one : KeptBelow b was one
  kept_one k l = get_or-set_other was b k at 0 (omega arith)

  pub kept_two : KeptBelow b was two
  kept_two k l = get_or-set_other one (b + 1) k e 0 (omega arith) ∙ kept_one k l

  pub kept_three : KeptBelow b was three
  kept_three k l = get_or-set_other two (b + 2) k q 0 (omega arith) ∙ kept_two k l

  -- a trigger has the first two
  pub trigger_parts : (d : Dimensions) (s : List ℕ) → Ends (condition_at d) s at e → TriggerParts d s two b
  trigger_parts d s f =
      subst (λ (x : ℕ). Ends (condition_at d) s x (get_or two (b + 1) 0)) (sym first_two)
      (subst (λ (x : ℕ). Ends (condition_at d) s at x) (sym second_two) f)

  module _ (now : List ℕ) (kept : KeptBelow (b + 3) three now) where
    pub action_first : get_or now b 0 ≡ at
    action_first = kept b (omega arith) ∙ first_three

    pub action_kept : KeptBelow b was now
    action_kept k l = kept k (omega arith) ∙ kept_three k l

    pub action_parts : b + 2 < length was → (d : Dimensions) (s : List ℕ) (n : ℕ) → Ends (condition_at d) s at e
        → Ends (effects_at d) s e q → Ends (consenters_at d) s q n
        → Marked (condition_at d) s n now (λ c. (b + 3) + c) d.characters → ActionParts d s now b
    action_parts more d s n f g h m =
        let first = action_first in
        let second : get_or now (b + 1) 0 ≡ e = kept (b + 1) (omega arith) ∙ second_three in
        let third : get_or now (b + 2) 0 ≡ q = kept (b + 2) (omega arith) ∙ third_three more in
        record {
          effects = subst (λ (x : ℕ). Ends (condition_at d) s x (get_or now (b + 1) 0)) (sym first)
              (subst (λ (x : ℕ). Ends (condition_at d) s at x) (sym second) f);
          consenters = subst (λ (x : ℕ). Ends (effects_at d) s x (get_or now (b + 2) 0)) (sym second)
              (subst (λ (x : ℕ). Ends (effects_at d) s e x) (sym third) g);
          first = n;
          ended = subst (λ (x : ℕ). Ends (consenters_at d) s x n) (sym third) h;
          observed = m;
        }

-- what holds of a value gives what follows from it, and what holds of every value holds of that one
module _ {T E : Type 0} where
  pub if_ok_map : (r : Result T E) (P Q : T → Type 0) → ((x : T) → P x → Q x) → IfOk r P → IfOk r Q
  if_ok_map (Ok x) P Q f h = f x h
  if_ok_map (Err e) P Q f h = tt

  pub if_ok_all : (r : Result T E) (Q : T → Type 0) → ((x : T) → Q x) → IfOk r Q
  if_ok_all (Ok x) Q f = f x
  if_ok_all (Err e) Q f = tt

  -- what holds of a value, where it is that one
  pub if_ok_at : (r : Result T E) (x : T) (P : T → Type 0) → r ≡ Ok x → IfOk r P → P x
  if_ok_at r x P e h = subst (λ (r : Result T E). IfOk r P) e h

-- the parts that were marked stay where the places below a slot are kept
pub action_stays : (d : Dimensions) (s was now : List ℕ) (b low : ℕ) → d.characters ≤ 6 → b + 9 ≤ low
    → KeptBelow low was now → ActionParts d s was b → ActionParts d s now b
action_stays d s was now b low few h kept a =
    let e0 = kept b (omega arith) in
    let e1 = kept (b + 1) (omega arith) in
    let e2 = kept (b + 2) (omega arith) in
    record {
      effects = subst (λ (x : ℕ). Ends (condition_at d) s x (get_or now (b + 1) 0)) (sym e0)
          (subst (λ (x : ℕ). Ends (condition_at d) s (get_or was b 0) x) (sym e1) a.effects);
      consenters = subst (λ (x : ℕ). Ends (effects_at d) s x (get_or now (b + 2) 0)) (sym e1)
          (subst (λ (x : ℕ). Ends (effects_at d) s (get_or was (b + 1) 0) x) (sym e2) a.consenters);
      first = a.first;
      ended = subst (λ (x : ℕ). Ends (consenters_at d) s x a.first) (sym e2) a.ended;
      observed = λ c l.
          subst (λ (x : ℕ). Ends (many (condition_at d) c) s a.first x) (sym (kept ((b + 3) + c) (omega arith)))
          (a.observed c l);
    }

pub actions_more : (d : Dimensions) (s was now : List ℕ) (i : ℕ) → d.characters ≤ 6 → KeptBelow (9 * i) was now
    → ((j : ℕ) → j < i → ActionParts d s was (9 * j)) → ActionParts d s now (9 * i)
    → (j : ℕ) → j < i + 1 → ActionParts d s now (9 * j)
actions_more d s was now i few kept before here j l = by_cases (dec_lt j i)
    (λ lt. action_stays d s was now (9 * j) (9 * i) few (omega arith) kept (before j lt))
    (λ ge. let same : i ≡ j = omega arith in subst (λ (j : ℕ). ActionParts d s now (9 * j)) same here)

pub trigger_stays : (d : Dimensions) (s was now : List ℕ) (b low : ℕ) → b + 2 ≤ low → KeptBelow low was now
    → TriggerParts d s was b → TriggerParts d s now b
trigger_stays d s was now b low h kept a =
    subst (λ (x : ℕ). Ends (condition_at d) s x (get_or now (b + 1) 0)) (sym (kept b (omega arith)))
    (subst (λ (x : ℕ). Ends (condition_at d) s (get_or was b 0) x) (sym (kept (b + 1) (omega arith))) a)

pub triggers_more : (d : Dimensions) (s was now : List ℕ) (i : ℕ) → KeptBelow (288 + 2 * i) was now
    → ((j : ℕ) → j < i → TriggerParts d s was (288 + 2 * j)) → TriggerParts d s now (288 + 2 * i)
    → (j : ℕ) → j < i + 1 → TriggerParts d s now (288 + 2 * j)
triggers_more d s was now i kept before here j l = by_cases (dec_lt j i)
    (λ lt. trigger_stays d s was now (288 + 2 * j) (288 + 2 * i) (omega arith) kept (before j lt))
    (λ ge. let same : i ≡ j = omega arith in subst (λ (j : ℕ). TriggerParts d s now (288 + 2 * j)) same here)
