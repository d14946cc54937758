-- What happens in a table, as the pass makes it: the slots of the states that it meets, and their rows. Assumes
-- nothing.
use Rattle.std.specs.Prelude.{◌≡◌, Bool, true, false, cond, ◌≢◌, List, ℕ, suc, ◌+◌, ◌*◌, ◌/◌, ◌%◌, ◌<◌, ◌≤◌, length}
use Rattle.std.specs.Prelude.{get_or, eqb}
use Rattle.pack.specs.Syntax.{Effect, Node}
use Rattle.pack.specs.State.{State, meaning, target}
use Rattle.pack.specs.Reading.{pick}
use Rattle.pack.specs.Grammar.{Dimensions}
use Rattle.pack.specs.Duties.Table.{cells, rows_at, Below, Above}
use Rattle.pack.specs.declared.table.Table.{Table}
use Rattle.chart.specs.Chart.{Ordered}
use Rattle.chart.specs.Duties.Numbers.{key_at, RowFilled}
use Rattle.transition.specs.declared.change.Change.{Change}
use Rattle.transition.specs.declared.change.Source.{Source}
use Rattle.transition.specs.Happening.{change}
use Rattle.transition.specs.Laws.Changed as changed
use Rattle.transition.specs.Laws.Changed.{Member, acted, edge, old}
use Rattle.transition.specs.Duties.Cause.{told, EffectsAt, Observes, Tabled}

-- a table, and what happens in it
pub record Scene : Type 0 where
  pub dimensions : Dimensions
  pub table : List Node
  pub causes : State → List Effect
  pub takes : State → ℕ → Bool

-- row m, having taken part or as it was
abbrev pub row_after : ℕ → Bool → Member
row_after m b = cond b (acted m) (old m)

module _ (s : Scene) (C : ℕ) where
  -- what row m means
  abbrev pub at : ℕ → State
  at m = meaning C s.table m

  -- whether row m tells d something
  abbrev pub tells : ℕ → ℕ → Bool
  tells m d = told (s.causes (at m)) (suc d)

  abbrev pub believed : ℕ → ℕ → Member
  believed = changed.believed s.causes s.takes C s.table tells

  -- what c believes in row m, having taken part or as it was
  abbrev pub took : ℕ → ℕ → Member
  took m c = row_after (target s.table m c) (s.takes (at m) c)

  abbrev pub next : Member → ℕ → Member
  next = changed.next s.causes s.takes C s.table tells

  abbrev pub values_of : Member → List ℕ
  values_of = changed.values_of s.causes s.takes C s.table tells

-- which of a row's seven slots stand for what: one that a character is told something by is that character's
pub record Kinds (s : Scene) (n C : ℕ) (h : Change) : Type 0 where
  pub edges : (m d : ℕ) → m < n → d < C → tells s C m d ≡ true → (d ≢ h.old) × (d ≢ h.acted)
  pub acts : (m d : ℕ) → m < n → d < C → tells s C m d ≡ false → s.takes (at s C m) d ≡ true → h.acted < 7
  pub apart : h.acted < 7 → h.acted ≢ h.old
  pub keeps : (m d : ℕ) → m < n → d < C → s.takes (at s C m) d ≡ false → h.old < 7

-- what a slot stands for, where there are n rows
unfoldable pub member_of : Change → ℕ → ℕ → Member
member_of h n slot =
    pick (eqb (slot / 7) n) (acted h.root)
    (pick (eqb (slot % 7) h.old) (old (slot / 7))
    (pick (eqb (slot % 7) h.acted) (acted (slot / 7)) (edge (slot / 7) (slot % 7))))

-- the scene is what the pack, the places and the work buffer say
pub record Stands (s : Scene) (pack places effects : List ℕ) (h : Change) (work : List ℕ) (t : Table) : Type 0 where
  pub tabled : Tabled s.dimensions s.table work t
  pub effects_stand : (m : ℕ) → m < t.nodes
      → EffectsAt s.dimensions pack (get_or effects m 0) (s.causes (at s t.characters m))
  pub long : t.nodes ≤ length effects
  pub observes : Observes s.dimensions pack places h.observed t.characters s.takes
  pub kinds : Kinds s t.nodes t.characters h
  pub root : h.root < t.nodes

abbrev pub Scened : (pack places effects : List ℕ) (h : Change) (work : List ℕ) → Type 0
Scened pack places effects h work = (s : Scene) × Stands s pack places effects h work h.table

-- what holds of whatever scene that is
abbrev pub InScene : (pack places effects : List ℕ) (h : Change) (work : List ℕ) (Q : Scene → Type 0) → Type 0
InScene pack places effects h work Q = (s : Scene) → Stands s pack places effects h work h.table → Q s

-- its table alone
abbrev pub Seen : (work : List ℕ) (t : Table) → Type 0
Seen work t = (s : Scene) × Tabled s.dimensions s.table work t

-- what a slot's row is made of: a row, having taken part or as it was, which is what it stands for, or what the
-- character believes that is told something besides
pub record Sourced (s : Scene) (h : Change) (t : Table) (slot : ℕ) (r : Source) : Type 0 where
  pub inside : r.row < t.nodes
  pub keeps : r.took ≡ false → h.old < 7
  pub plain : r.told ≡ false → row_after r.row r.took ≡ member_of h t.nodes slot
  pub told : r.told ≡ true
      → (slot / 7 < t.nodes) × (slot % 7 < t.characters) × (edge (slot / 7) (slot % 7) ≡ member_of h t.nodes slot)
      × (row_after r.row r.took ≡ took s t.characters (slot / 7) (slot % 7))

-- a slot stands for a member
pub record SlotIs (h : Change) (n : ℕ) (k : Member) (slot : ℕ) : Type 0 where
  pub is : member_of h n slot ≡ k
  pub below : slot < n * 7 + 1

-- the slots of what the C characters believe in a member stand from `to` on
pub record SlotsPut (h : Change) (n C : ℕ) (next : ℕ → Member) (was now : List ℕ) (to : ℕ) : Type 0 where
  pub slots : (d : ℕ) → d < C → SlotIs h n (next d) (get_or now (to + d) 0)
  pub low : Below was now to
  pub high : Above was now (to + C)

-- a row lies behind the table, and there is room for it
pub record RowRoom (work : List ℕ) (t : Table) (to : ℕ) : Type 0 where
  pub behind : t.rows + t.nodes * t.width ≤ to
  pub room : to + t.fluents + t.characters ≤ length work

-- the row of a member stands from `to` on, its beliefs by slots
pub record MemberPut (h : Change) (t : Table) (wanted : List ℕ) (next : ℕ → Member) (was now : List ℕ)
    (to : ℕ) : Type 0 where
  pub values : cells now to t.fluents ≡ wanted
  pub slots : (d : ℕ) → d < t.characters → SlotIs h t.nodes (next d) (get_or now (to + t.fluents + d) 0)
  pub low : Below was now to
  pub high : Above was now (to + t.fluents + t.characters)

abbrev pub Puts : (s : Scene) (h : Change) (t : Table) → Member → (was now : List ℕ) (to : ℕ) → Type 0
Puts s h t k was now to = MemberPut h t (values_of s t.characters k) (next s t.characters k) was now to

-- where things lie: the table, the numbers and keys of its slots from b on, and room for a row a slot from u on
pub record Laid (work : List ℕ) (t : Table) (b u : ℕ) : Type 0 where
  pub source : t.rows + t.nodes * t.width ≤ b
  pub scratch : b + (t.nodes * 7 + 1) + (t.nodes * 7 + 1) ≤ u
  pub room : u + (t.nodes * 7 + 1) * t.width ≤ length work

-- row i from u on is that of the member that number i was given to, its beliefs by numbers
pub record RowMade (s : Scene) (h : Change) (t : Table) (was now : List ℕ) (b u i count more : ℕ) : Type 0 where
  pub wanted : ℕ → ℕ
  pub names : (d : ℕ) → d < t.characters
      → member_of h t.nodes (wanted d)
      ≡ next s t.characters (member_of h t.nodes (key_at was b (t.nodes * 7 + 1) i)) d
  pub filled : RowFilled was now b (t.nodes * 7 + 1) count more (u + i * t.width) t.width t.fluents
      t.characters (values_of s t.characters (member_of h t.nodes (key_at was b (t.nodes * 7 + 1) i))) wanted

-- r rows from u on, in the order met breadth first, that mean what happens
pub record ChangeMade (s : Scene) (h : Change) (t : Table) (was now : List ℕ) (b u r : ℕ) : Type 0 where
  pub some : 0 < r
  pub few : r ≤ t.nodes * 7 + 1
  pub ordered : Ordered t.characters (rows_at now t.width t.fluents t.characters u r)
  pub means : meaning t.characters (rows_at now t.width t.fluents t.characters u r) 0
      ≡ change s.causes s.takes (at s t.characters h.root)
  pub low : Below was now b
  pub high : Above was now (u + (t.nodes * 7 + 1) * t.width)
