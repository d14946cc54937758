-- What the layers above learn of an accepted pack: its dimensions and counts, and that each part of it is read at the
-- place marked for it. Action i has its places from slot 9 * i on, trigger i from 288 + 2 * i on, the rules of the
-- author and of each character from 320 on.
use Rattle.std.specs.Prelude.{ℕ, ◌+◌, ◌*◌, ◌<◌, ◌≤◌, ◌≡◌, List, [], length, get_or, Result, IfOk}
use Rattle.pack.specs.Syntax.{Action, Trigger, Theory, Pack}
use Rattle.pack.specs.Reading.{done, Reader, bind, mapped, many, gives, told}
use Rattle.pack.specs.Grammar.{Dimensions, node_at, nodes_at, pack_at, condition_at}
use Rattle.pack.specs.Grammar.{effects_at, consenters_at, rules_at, theory_at, pack_of}
use Rattle.pack.specs.Refusals.{replied}
use Rattle.pack.specs.Duties.Said.{said, forget}
use Rattle.pack.specs.Duties.Answer.{dims, sizes_of}
use Rattle.pack.specs.declared.refusal.Flaw.{Flaw}
use Rattle.pack.specs.declared.refusal.Refusal.{Refusal}
use Rattle.pack.specs.declared.contents.Counts.{Counts}
use Rattle.pack.specs.declared.contents.Contents.{Contents}

-- at a place p reads a
pub record Gives {A : Type 0} (p : Reader A) (s : List ℕ) (at : ℕ) (a : A) : Type 0 where
  pub end : ℕ
  pub reads : p s at ≡ done a end

-- the parts of an action stand at nine places from base on
pub record ActionStands (d : Dimensions) (s places : List ℕ) (base : ℕ) (a : Action) : Type 0 where
  pub condition : Gives (condition_at d) s (get_or places base 0) a.condition
  pub effects : Gives (effects_at d) s (get_or places (base + 1) 0) a.effects
  pub consenters : Gives (consenters_at d) s (get_or places (base + 2) 0) a.consenters
  pub observed : (c : ℕ) → c < d.characters
      → Gives (condition_at d) s (get_or places ((base + 3) + c) 0) (get_or a.observed c [])

pub record TriggerStands (d : Dimensions) (s places : List ℕ) (base : ℕ) (t : Trigger) : Type 0 where
  pub condition : Gives (condition_at d) s (get_or places base 0) t.condition
  pub effects : Gives (effects_at d) s (get_or places (base + 1) 0) t.effects

-- all of a pack but its head and nodes, with k actions and l triggers; x is what stands for an action or a trigger that
-- isn't there
pub record TheoryFound (d : Dimensions) (s places : List ℕ) (t : Theory) (k l : ℕ) : Type 0 where
  pub actions : length t.actions ≡ k
  pub triggers : length t.triggers ≡ l
  pub most_actions : k ≤ 32
  pub most_triggers : l ≤ 16
  pub action : (i : ℕ) → i < k → (x : Action) → ActionStands d s places (9 * i) (get_or t.actions i x)
  pub trigger : (i : ℕ) → i < l → (x : Trigger) → TriggerStands d s places (288 + 2 * i) (get_or t.triggers i x)
  pub rules : (c : ℕ) → c < d.characters + 1
      → Gives (rules_at d) s (get_or places (320 + c) 0) (get_or t.utilities c [])

-- the actions, the triggers and the utilities: how many actions and triggers there are, and the place after all
pub record TheoryRead (d : Dimensions) (s : List ℕ) (at : ℕ) (places : List ℕ)
    (r : Result (Counts × ℕ) Flaw) : Type 0 where
  pub answer : mapped forget (theory_at d s at) ≡ mapped forget (said r)
  pub found : (t : Theory) (n : ℕ) → theory_at d s at ≡ done t n
      → IfOk r (λ c. TheoryFound d s places t c.0.actions c.0.triggers)

-- an accepted pack: each of its parts, and where it stands
pub record PackFound (s places : List ℕ) (p : Pack) (r : Contents) : Type 0 where
  pub characters : p.theory.characters ≡ r.characters
  pub domains : p.theory.domains ≡ sizes_of r.domains
  pub fluents : length p.theory.domains ≡ r.domains.fluents
  pub nodes : length p.nodes ≡ r.nodes
  pub some_nodes : 1 ≤ r.nodes
  pub most_nodes : r.nodes ≤ 32
  pub rows : Gives (many (node_at (dims p.theory.characters p.theory.domains) r.nodes) r.nodes) s
      r.first p.nodes
  pub theory : TheoryFound (dims p.theory.characters p.theory.domains) s places p.theory r.actions
      r.triggers

-- what comes after a head
unfoldable pub body_at : Dimensions → Reader Pack
body_at d s at =
    bind (nodes_at d s at) (λ nodes n. mapped (λ theory. record { theory = theory; nodes = nodes }) (theory_at d s n))

-- the parts of a pack, and the place after them
pub record PartsRead (s places : List ℕ) (r : Result (Contents × ℕ) Flaw) : Type 0 where
  pub answer : mapped forget (pack_at s 0) ≡ mapped forget (said r)
  pub found : (p : Pack) (n : ℕ) → pack_at s 0 ≡ done p n → IfOk r (λ c. PackFound s places p c.0)

-- The contract of the pack reader: the bytes are accepted or refused as `pack_of` says, and what is accepted is found
-- where the answer says.
pub record PackRead (s places : List ℕ) (r : Result Contents Refusal) : Type 0 where
  pub answer : told forget (pack_of s) ≡ told forget (replied r)
  pub found : (p : Pack) → pack_of s ≡ gives p → IfOk r (PackFound s places p)

-- what a pack holds is read, and of its parts' places nothing is said
pub record ContentsRead (s : List ℕ) (r : Result Contents Refusal) : Type 0 where
  pub places : List ℕ
  pub read : PackRead s places r
