-- Where the parts of a pack stand: what the places that the reader marks say.
use Rattle.std.specs.Prelude.{ℕ, ◌+◌, ◌*◌, ◌<◌, ◌≤◌, ◌≡◌, List, length, get_or, Result, IfOk}
use Rattle.pack.specs.Reading.{done, Reader, mapped, many}
use Rattle.pack.specs.Number.{between, counted}
use Rattle.pack.specs.Grammar.{longest_pack, Dimensions, condition_at, effects_at, consenters_at}
use Rattle.pack.specs.Grammar.{action_at, trigger_at, rules_at}
use Rattle.pack.specs.Duties.Said.{said, shown, forget}
use Rattle.pack.specs.declared.refusal.Flaw.{Flaw}

-- room for the places of a pack's parts, of the largest
abbrev pub places_room : ℕ
places_room = 327

-- a place in bytes that are few enough for a pack, so that the place fits 16 bits
abbrev pub Within : List ℕ → ℕ → Type 0
Within s at = (at ≤ length s) × (length s ≤ longest_pack)

-- what p reads from a place on ends at n
abbrev pub Ends : {A : Type 0} → Reader A → List ℕ → ℕ → ℕ → Type 0
Ends p s at n = mapped forget (p s at) ≡ done tt n

-- of k things one after the other, the j-th begins at the place marked in slot j
abbrev pub Marked : {A : Type 0} → Reader A → List ℕ → ℕ → (places : List ℕ) (slot : ℕ → ℕ) → ℕ → Type 0
Marked p s first places slot k = (j : ℕ) → j < k → Ends (many p j) s first (get_or places (slot j) 0)

-- the places below a slot are as they were
abbrev pub KeptBelow : ℕ → List ℕ → List ℕ → Type 0
KeptBelow low was now = (k : ℕ) → k < low → get_or now k 0 ≡ get_or was k 0

pub record ObservedRead (d : Dimensions) (s : List ℕ) (at base : ℕ) (was now : List ℕ)
    (r : Result ℕ Flaw) : Type 0 where
  pub answer : mapped forget (many (condition_at d) d.characters s at) ≡ shown r
  pub marked : IfOk r (λ n. Marked (condition_at d) s at now (λ c. base + c) d.characters)
  pub kept : KeptBelow base was now

-- An action's parts: its condition stands at the first place, its effects at the second, its consenters at the third,
-- and each character's observation condition from the fourth on.
pub record ActionParts (d : Dimensions) (s places : List ℕ) (base : ℕ) : Type 0 where
  pub effects : Ends (condition_at d) s (get_or places base 0) (get_or places (base + 1) 0)
  pub consenters : Ends (effects_at d) s (get_or places (base + 1) 0) (get_or places (base + 2) 0)
  pub first : ℕ
  pub ended : Ends (consenters_at d) s (get_or places (base + 2) 0) first
  pub observed : Marked (condition_at d) s first places (λ c. (base + 3) + c) d.characters

pub record ActionRead (d : Dimensions) (s : List ℕ) (at base : ℕ) (was now : List ℕ) (r : Result ℕ Flaw) : Type 0 where
  pub answer : mapped forget (action_at d s at) ≡ shown r
  pub starts : get_or now base 0 ≡ at
  pub parts : IfOk r (λ n. ActionParts d s now base)
  pub kept : KeptBelow base was now

-- Each action stands where the ones before it end, with its parts.
pub record Actions (d : Dimensions) (s places : List ℕ) (first k : ℕ) : Type 0 where
  pub starts : Marked (action_at d) s first places (λ i. 9 * i) k
  pub parts : (i : ℕ) → i < k → ActionParts d s places (9 * i)

pub record ActionsRead (d : Dimensions) (s : List ℕ) (at : ℕ) (places : List ℕ) (r : Result (ℕ × ℕ) Flaw) : Type 0 where
  pub answer : mapped length (counted 0 33 (action_at d) s at) ≡ said r
  pub found : IfOk r (λ (k, n). (first : ℕ) × (between 0 33 3 s at ≡ done k first) × Actions d s places first k)

-- A trigger's parts: its condition stands at the first place, its effects at the second.
abbrev pub TriggerParts : Dimensions → (s places : List ℕ) → ℕ → Type 0
TriggerParts d s places base = Ends (condition_at d) s (get_or places base 0) (get_or places (base + 1) 0)

pub record TriggerRead (d : Dimensions) (s : List ℕ) (at base : ℕ) (was now : List ℕ) (r : Result ℕ Flaw) : Type 0 where
  pub answer : mapped forget (trigger_at d s at) ≡ shown r
  pub starts : get_or now base 0 ≡ at
  pub parts : IfOk r (λ n. TriggerParts d s now base)
  pub kept : KeptBelow base was now

pub record Triggers (d : Dimensions) (s places : List ℕ) (first k : ℕ) : Type 0 where
  pub starts : Marked (trigger_at d) s first places (λ i. 288 + 2 * i) k
  pub parts : (i : ℕ) → i < k → TriggerParts d s places (288 + 2 * i)

pub record TriggersRead (d : Dimensions) (s : List ℕ) (at : ℕ) (was now : List ℕ)
    (r : Result (ℕ × ℕ) Flaw) : Type 0 where
  pub answer : mapped length (counted 0 17 (trigger_at d) s at) ≡ said r
  pub found : IfOk r (λ (k, n). (first : ℕ) × (between 0 17 3 s at ≡ done k first) × Triggers d s now first k)
  pub kept : KeptBelow 288 was now

pub record UtilitiesRead (d : Dimensions) (s : List ℕ) (at : ℕ) (was now : List ℕ) (r : Result ℕ Flaw) : Type 0 where
  pub answer : mapped forget (many (rules_at d) (d.characters + 1) s at) ≡ shown r
  pub marked : IfOk r (λ n. Marked (rules_at d) s at now (λ k. 320 + k) (d.characters + 1))
  pub kept : KeptBelow 320 was now
