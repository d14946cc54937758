-- Search is decided on a state that a table means: the shortest ending, then the earliest, or none; and it gives one
-- answer. Assumes nothing.
use Rattle.std.specs.Prelude.{ℕ, ◌<◌, ◌≤◌, ◌≡◌, refl, List, length}
use Rattle.std.proofs.Common.{⊎_elim}
use Rattle.std.proofs.Math.Decide.{dec_le, dec_lt}
use Rattle.pack.specs.State.{State}
use Rattle.pack.specs.Syntax.{Theory}
use Rattle.chart.specs.Earliest.{Earliest}
use Rattle.chart.specs.Laws.Seek.{seek}
use Rattle.chart.specs.Laws.Tabled.{Tabled}
use Rattle.planner.specs.Ending.{Explained, Ending, author_utility}
use Rattle.planner.specs.Search.{Answer, ending, none, Searched}
use Rattle.planner.specs.Laws.Explaining.{Led, along?, explained?}
use Rattle.planner.specs.Laws.Leads.{sought_one, leads_low}

module _ (p : Theory) (T K E : ℕ) where
  -- a given list
  pub ending? : (list : List ℕ) (s : State) → Tabled p.characters s → Dec (Ending p T K E s list)
  ending? list s x =
      go (dec_lt 0 (length list)) (dec_le (length list) T)
      (along? p (λ d. Unit {0}) (λ d. yes tt) (Explained p K E) (explained? p K E) Better
      (λ s'. dec_lt (author_utility p s) (author_utility p s')) list s x)
    where
      Better : State → Type 0
      Better s' = author_utility p s < author_utility p s'

      go : Dec (0 < length list) → Dec (length list ≤ T) → Dec (Led p (λ d. Unit {0}) (Explained p K E) Better list s)
          → Dec (Ending p T K E s list)
      go (yes a) (yes b) (yes (s', l, w)) = yes (record { some = a; within = b; end = s'; leads = l; better = w })
      go (no a) b c = no (λ r. a r.some)
      go (yes a) (no b) c = no (λ r. b r.within)
      go (yes a) (yes b) (no c) = no (λ r. c (r.end, r.leads, r.better))

  search : {s : State} → Tabled p.characters s → (r : Answer) × Searched p T K E s r
  search {s} x =
      ⊎_elim (λ (f : (l : List ℕ) → length l ≤ T → ¬ Ending p T K E s l). (none, λ l z. f l z.within z))
      (λ (r : (l : List ℕ) × (length l ≤ T) × Earliest (Ending p T K E s) l). (
        ending r.0 (author_utility p s) (author_utility p r.2.good.end),
        record { first = r.2; at_start = refl; at_end = refl },
      ))
      (seek (length p.actions) (Ending p T K E s) (λ l. ending? l s x)
      (λ l r. leads_low p (λ d. Unit {0}) (Explained p K E) l s r.end r.leads) T)

  pub search_of : {s : State} → Tabled p.characters s → Answer
  search_of x = (search x).0

  pub searched : {s : State} (x : Tabled p.characters s) → Searched p T K E s (search_of x)
  unfolding search_of
  searched x = (search x).1

  pub searched_one : (s : State) (r r' : Answer) → Searched p T K E s r → Searched p T K E s r' → r ≡ r'
  searched_one s (ending l w v) (ending l' w' v') x y = let (a, b, c) = sought_one x y in λ i. ending (a i) (b i) (c i)
  searched_one s (ending l w v) none x y = absurd (y l x.first.good)
  searched_one s none (ending l w v) x y = absurd (x l y.first.good)
  searched_one s none none x y = refl
