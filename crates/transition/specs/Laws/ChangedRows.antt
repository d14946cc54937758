-- The slots of what is met in the pass, and the rows of what they stand for. Assumes nothing.
use Rattle.std.specs.Prelude.{ℕ, ◌+◌, ◌*◌, ◌/◌, ◌%◌, ◌<◌, ◌≤◌, ◌≡◌, refl, Bool, true, false, cond, ◌≢◌, List, length}
use Rattle.std.specs.Prelude.{get_or, set}
use Rattle.std.proofs.Common.{sym, ap, ap₂, ◌∙◌, subst, add-one, get_or-set_same, get_or-set_other, below_more}
use native.Mathlib.Omega.{arith}
use borrow.Author.Tests.{eq-eqb, ne_eqb}
use Rattle.pack.specs.Syntax.{Node}
use Rattle.pack.specs.State.{node, target, Closed}
use Rattle.pack.specs.Grammar.{Dimensions}
use Rattle.pack.specs.Condition.{write}
use Rattle.pack.specs.Duties.Table.{cells, table_of, Below}
use Rattle.pack.specs.declared.table.Table.{Table}
use Rattle.pack.specs.Laws.Rows.{belief-at, rows_length}
use Rattle.chart.specs.Laws.Cells.{cells_same, row_in, rows_node, rows_same}
use Rattle.chart.specs.Duties.Put.{PartCopied}
use Rattle.transition.specs.declared.change.Change.{Change}
use Rattle.transition.specs.Laws.Changed.{Member, acted, edge, old, There}
use Rattle.transition.specs.Duties.Cause.{told, EffectsAt, Telling, Tellable}
use Rattle.transition.specs.Duties.Cause.{ToldWritten, Tabled, Watched, Took}
use Rattle.transition.specs.Inner.Change.{Scene, Stands, at, tells, believed, took, row_after, next}
use Rattle.transition.specs.Inner.Change.{values_of, member_of, SlotIs, SlotsPut, RowRoom, Puts}

-- what a slot stands for
module _ (h : Change) (n m : ℕ) (l : m < n) where
  slot_edge : (d : ℕ) → d < 7 → d ≢ h.old → d ≢ h.acted → member_of h n (m * 7 + d) ≡ edge m d
  unfolding member_of
  slot_edge d few a b =
      let q : (m * 7 + d) / 7 ≡ m = omega arith in
      let r : (m * 7 + d) % 7 ≡ d = omega arith in
      rw (q, r, ne_eqb m n (omega arith), ne_eqb d h.old a, ne_eqb d h.acted b)

  pub slot_acted : h.acted < 7 → h.acted ≢ h.old → member_of h n (m * 7 + h.acted) ≡ acted m
  unfolding member_of
  slot_acted few a =
      let q : (m * 7 + h.acted) / 7 ≡ m = omega arith in
      let r : (m * 7 + h.acted) % 7 ≡ h.acted = omega arith in
      rw (q, r, ne_eqb m n (omega arith), ne_eqb h.acted h.old a, eq-eqb h.acted h.acted refl)

  slot_old : h.old < 7 → member_of h n (m * 7 + h.old) ≡ old m
  unfolding member_of
  slot_old few =
      let q : (m * 7 + h.old) / 7 ≡ m = omega arith in
      let r : (m * 7 + h.old) % 7 ≡ h.old = omega arith in
      rw (q, r, ne_eqb m n (omega arith), eq-eqb h.old h.old refl)

-- a table stays where its bytes do
pub tabled_same : {d : Dimensions} {T : List Node} {was now : List ℕ} {t : Table} → Tabled d T was t
    → Below was now (t.rows + t.nodes * t.width) → length now ≡ length was → Tabled d T now t
tabled_same {was = was} {now} {t} x low long =
    let same : table_of t now ≡ table_of t was = rows_same was now t.width t.fluents t.characters t.rows
    t.rows t.nodes (omega (arith, x.fits.wide)) (λ p h. low (t.rows + p) (omega arith)) in
    record {
      over = x.over;
      fits = record {
        wide = x.fits.wide;
        inside = omega (arith, x.fits.inside, long);
        closed = subst (Closed t.characters) (sym same) x.fits.closed;
      };
      same = same ∙ x.same;
      few = x.few;
      some = x.some;
    }

pub stands_same : {s : Scene} {pack places effects was now : List ℕ} {h : Change} {t : Table}
    → Stands s pack places effects h was t → Below was now (t.rows + t.nodes * t.width) → length now ≡ length was
    → Stands s pack places effects h now t
stands_same x low long =
    record {
      tabled = tabled_same x.tabled low long;
      effects_stand = x.effects_stand;
      long = x.long;
      observes = x.observes;
      kinds = x.kinds;
      root = x.root;
    }

-- the beliefs and values of a row
module _ {d : Dimensions} {T : List Node} {work : List ℕ} {t : Table} (x : Tabled d T work t) where
  abbrev w : ℕ
  w = t.width

  pub belief_is : (m c : ℕ) → m < t.nodes → c < t.characters
      → get_or work (t.rows + m * w + t.fluents + c) 0 ≡ target T m c
  belief_is m c h l = sym (belief-at t work m c h l) ∙ ap (λ (T : List Node). target T m c) x.same

  -- what a table says is believed
  pub belief_told : (m c q : ℕ) → q ≡ target (table_of t work) m c → q ≡ target T m c
  belief_told m c q e = e ∙ ap (λ (T : List Node). target T m c) x.same

  pub belief_in : (m c : ℕ) → m < t.nodes → c < t.characters → target T m c < t.nodes
  belief_in m c h l =
      omega (
        arith,
        ap (λ (T : List Node). target T m c) x.same,
        x.fits.closed m c (omega (arith, rows_length work w t.fluents t.characters t.rows t.nodes)) l,
        rows_length work w t.fluents t.characters t.rows t.nodes,
      )

  pub values_are : (m : ℕ) → m < t.nodes → cells work (t.rows + m * w) t.fluents ≡ (node T m).values
  values_are m h =
      sym (ap (λ (n : Node). n.values) (rows_node work w t.fluents t.characters t.rows t.nodes m h))
      ∙ ap (λ (T : List Node). (node T m).values) x.same

  pub row_inside : (m : ℕ) → m < t.nodes → t.rows + m * w + t.fluents + t.characters ≤ t.rows + t.nodes * w
  row_inside m h = omega (arith, row_in t.nodes w m h, x.fits.wide)

  pub small : (t.characters ≤ 6) × (t.fluents ≤ 24)
  small = let s = x.over.small in
      (omega (arith, s.characters, x.over.characters), omega (arith, s.fluents, x.over.fluents))

  -- the beliefs of a row as it was, by slots
  pub old_slot : (h : Change) (m c : ℕ) → m < t.nodes → c < t.characters → h.old < 7 → (q : ℕ) → q ≡ target T m c
      → SlotIs h t.nodes (old (target T m c)) (q * 7 + h.old)
  old_slot h m c hm hc few q e =
      let l = belief_in m c hm hc in
      record { is = slot_old h t.nodes q (omega (arith, e)) few ∙ ap old e; below = omega (arith, e) }

module _ {s : Scene} {pack places effects work : List ℕ} {h : Change} {t : Table}
    (x : Stands s pack places effects h work t) where
  abbrev C : ℕ
  C = t.characters

  abbrev T : List Node
  T = s.table

  pub telling : (m : ℕ) → m < t.nodes → Telling pack (get_or effects m 0)
  telling m l =
      record {
        dimensions = s.dimensions;
        small = x.tabled.over.small;
        effects = s.causes (at s C m);
        stand = x.effects_stand m l;
      }

  pub tellable : (m : ℕ) → m < t.nodes → {buffer : List ℕ} {row : ℕ} → row + t.fluents ≤ length buffer
      → Tellable pack (get_or effects m 0) buffer row t.fluents
  unfolding telling
  tellable m l room = record { telling = telling m l; wide = x.tabled.over.fluents; room = room }

  pub watched : (m c : ℕ) → m < t.nodes → c < C → Watched pack places h.observed work t m c
  watched m c l g =
      record {
        dimensions = s.dimensions;
        table = T;
        stands = x.tabled;
        takes = s.takes;
        observes = x.observes;
        row = l;
        character = g;
      }

  -- whether a row tells a character something, as it is read
  tells_is : {r : Bool} (m d : ℕ) → m < t.nodes
      → ((d' : Dimensions) → Rattle.pack.specs.Duties.Judge.Small d' → (es : List Rattle.pack.specs.Syntax.Effect)
      → EffectsAt d' pack (get_or effects m 0) es → r ≡ told es (d + 1)) → tells s C m d ≡ r
  tells_is m d l f =
      ap (told (s.causes (at s C m))) (sym (add-one d))
      ∙ sym (f s.dimensions x.tabled.over.small (s.causes (at s C m)) (x.effects_stand m l))

  took_is : {r : Bool} (m c : ℕ) → Took pack places h.observed work t m c r → s.takes (at s C m) c ≡ r
  took_is m c f = sym (f s.dimensions T s.takes x.tabled x.observes)

  module _ {m d : ℕ} (hm : m < t.nodes) (hd : d < C) {r : Bool}
      (told-r : (d' : Dimensions) → Rattle.pack.specs.Duties.Judge.Small d'
      → (es : List Rattle.pack.specs.Syntax.Effect) → EffectsAt d' pack (get_or effects m 0) es
      → r ≡ told es (d + 1)) where
    pub slot_told : r ≡ true → SlotIs h t.nodes (believed s C m d) (m * 7 + d)
    slot_told e =
        let yes : tells s C m d ≡ true = tells_is m d hm told-r ∙ e in
        let (a, b) = x.kinds.edges m d hm hd yes in
        record {
          is = slot_edge h t.nodes m hm d (omega (arith, small x.tabled)) a b
              ∙ sym (ap (λ (b : Bool).
              cond b (edge m d) (cond (s.takes (at s C m) d) (acted (target T m d)) (old (target T m d)))) yes);
          below = omega (arith, small x.tabled);
        }

    module _ (e : r ≡ false) {q : ℕ} (eq : q ≡ target T m d) {b : Bool}
        (took : Took pack places h.observed work t m d b) where
      no : tells s C m d ≡ false
      no = tells_is m d hm told-r ∙ e

      quiet : believed s C m d ≡ cond b (acted (target T m d)) (old (target T m d))
      quiet = ap₂ (λ (a b : Bool). cond a (edge m d) (cond b (acted (target T m d)) (old (target T m d)))) no
          (took_is m d took)

      pub slot_took : b ≡ true → SlotIs h t.nodes (believed s C m d) (q * 7 + h.acted)
      slot_took g =
          let few = x.kinds.acts m d hm hd no (took_is m d took ∙ g) in
          let l = belief_in x.tabled m d hm hd in
          record {
            is = slot_acted h t.nodes q (omega (arith, eq)) few (x.kinds.apart few) ∙ ap acted eq
                ∙ sym (quiet ∙ ap (λ (b : Bool). cond b (acted (target T m d)) (old (target T m d))) g);
            below = omega (arith, eq);
          }

      pub slot_kept : b ≡ false → SlotIs h t.nodes (believed s C m d) (q * 7 + h.old)
      slot_kept g =
          let few = x.kinds.keeps m d hm hd (took_is m d took ∙ g) in
          let o = old_slot x.tabled h m d hm hd few q eq in
          record {
            is = o.is ∙ sym (quiet ∙ ap (λ (b : Bool). cond b (acted (target T m d)) (old (target T m d))) g);
            below = o.below;
          }

-- slots put one after the other
pub slots_none : (h : Change) (n : ℕ) (next : ℕ → Member) (was : List ℕ) (to : ℕ) → SlotsPut h n 0 next was was to
slots_none h n next was to = record { slots = λ d l. absurd (omega arith); low = λ p l. refl; high = λ p l. refl }

pub slots_more : {h : Change} {n d : ℕ} {next : ℕ → Member} {was now : List ℕ} {to r : ℕ}
    → SlotsPut h n d next was now to → SlotIs h n (next d) r → to + d < length now
    → SlotsPut h n (d + 1) next was (set now (to + d) r) to
slots_more {h} {n} {d} {next} {was} {now} {to} {r} x i room = record {
  slots = below_more (λ q. SlotIs h n (next q) (get_or (set now (to + d) r) (to + q) 0)) d
      (λ q l. subst (SlotIs h n (next q)) (sym (get_or-set_other now (to + d) (to + q) r 0 (omega arith)))
      (x.slots q l))
      (subst (SlotIs h n (next d)) (sym (get_or-set_same now (to + d) r 0 room)) i);
  low = λ p l. get_or-set_other now (to + d) p r 0 (omega arith) ∙ x.low p l;
  high = λ p l. get_or-set_other now (to + d) p r 0 (omega arith) ∙ x.high p (omega arith);
}

pub slots_all : {h : Change} {n d C : ℕ} {next : ℕ → Member} {was now : List ℕ} {to : ℕ}
    → SlotsPut h n d next was now to → d ≤ C → C ≤ d → SlotsPut h n C next was now to
slots_all {h} {n} {d} {C} {next} {was} {now} {to} x a b =
    let e : d ≡ C = omega arith in subst (λ (d : ℕ). SlotsPut h n d next was now to) e x

-- a row that took part
module _ {s : Scene} {pack places effects was : List ℕ} {h : Change} {t : Table}
    (x : Stands s pack places effects h was t) {m to : ℕ} (l : m < t.nodes) (room : RowRoom was t to) where
  -- the parts of the row are written one after the other, all from `to` on
  pub later : {now : List ℕ} → Below was now to → length now ≡ length was → Stands s pack places effects h now t
  later low long = stands_same x (λ p h. low p (omega (arith, room.behind))) long

  copied_values : {mid : List ℕ} → PartCopied was mid (t.rows + m * t.width) to t.fluents
      → cells mid to t.fluents ≡ (node s.table m).values
  copied_values {mid} c =
      cells_same was mid (t.rows + m * t.width) to t.fluents (λ q g. c.part q g) ∙ values_are x.tabled m l

  pub acted_put : {mid then now : List ℕ} → PartCopied was mid (t.rows + m * t.width) to t.fluents
      → ToldWritten pack (get_or effects m 0) 0 mid then to t.fluents
      → SlotsPut h t.nodes t.characters (believed s t.characters m) then now (to + t.fluents)
      → Puts s h t (acted m) was now to
  acted_put {mid} {then} {now} c e p = record {
    values = cells_same then now to to t.fluents (λ q g. p.low (to + q) (omega arith))
        ∙ e.values s.dimensions x.tabled.over.small x.tabled.over.fluents
        (s.causes (at s t.characters m)) (x.effects_stand m l)
        ∙ ap (write 0 (s.causes (at s t.characters m))) (copied_values c);
    slots = p.slots;
    low = λ q g. p.low q (omega arith) ∙ e.only.below q g ∙ c.low q g;
    high = λ q g. p.high q (omega arith) ∙ e.only.above q (omega arith) ∙ c.high q (omega arith);
  }

-- a row as it was
pub old_put : (s : Scene) {was mid now : List ℕ} {h : Change} {t : Table} → Tabled s.dimensions s.table was t
    → {m to : ℕ} → m < t.nodes → PartCopied was mid (t.rows + m * t.width) to t.fluents
    → SlotsPut h t.nodes t.characters (λ d. old (target s.table m d)) mid now (to + t.fluents)
    → Puts s h t (old m) was now to
old_put s {was} {mid} {now} {h} {t} x {m} {to} l c p = record {
  values = cells_same mid now to to t.fluents (λ q g. p.low (to + q) (omega arith))
      ∙ cells_same was mid (t.rows + m * t.width) to t.fluents (λ q g. c.part q g) ∙ values_are x m l;
  slots = p.slots;
  low = λ q g. p.low q (omega arith) ∙ c.low q g;
  high = λ q g. p.high q (omega arith) ∙ c.high q (omega arith);
}

-- what a character believes in a row that took part
module _ {s : Scene} {pack places effects was : List ℕ} {h : Change} {t : Table}
    (x : Stands s pack places effects h was t) (m c to : ℕ) (l : m < t.nodes) where
  abbrev n : ℕ
  n = target s.table m c

  module _ {q : ℕ} {b : Bool} (f : Took pack places h.observed was t m c b) (e : q ≡ n) where
    -- the row believed in, having taken part or as it was
    pub believed_row : row_after q b ≡ took s t.characters m c
    believed_row = ap₂ row_after e (sym (took_is x m c f))

    -- a belief that does not take part leaves a slot for rows as they were
    pub believed_keeps : c < t.characters → b ≡ false → h.old < 7
    believed_keeps hc g = x.kinds.keeps m c l hc (took_is x m c f ∙ g)

  pub edge_put : {mid now : List ℕ} → Puts s h t (took s t.characters m c) was mid to
      → ToldWritten pack (get_or effects m 0) (c + 1) mid now to t.fluents → Puts s h t (edge m c) was now to
  edge_put {mid} {now} p e = record {
    values = e.values s.dimensions x.tabled.over.small x.tabled.over.fluents
        (s.causes (at s t.characters m)) (x.effects_stand m l)
        ∙ ap₂ (λ (k : ℕ) (v : List ℕ). write k (s.causes (at s t.characters m)) v) (add-one c)
        (p.values ∙ by (s.takes (at s t.characters m) c));
    slots = λ d g.
        subst (λ (k : Member). SlotIs h t.nodes k (get_or now (to + t.fluents + d) 0))
        (into (s.takes (at s t.characters m) c) d)
        (subst (SlotIs h t.nodes (next s t.characters (took s t.characters m c) d))
        (sym (e.only.above (to + t.fluents + d) (omega arith))) (p.slots d g));
    low = λ q g. e.only.below q g ∙ p.low q g;
    high = λ q g. e.only.above q (omega arith) ∙ p.high q g;
  }
    where
      by : (b : Bool)
          → values_of s t.characters (cond b (acted n) (old n))
          ≡ cond b (write 0 (s.causes (at s t.characters n)) (node s.table n).values)
          (node s.table n).values
      by true = refl
      by false = refl

      into : (b : Bool) (d : ℕ)
          → next s t.characters (cond b (acted n) (old n)) d
          ≡ cond b (believed s t.characters n d) (old (target s.table n d))
      into true d = refl
      into false d = refl

-- what a slot stands for, by the tests made on it
module _ (h : Change) (n slot : ℕ) where
  pub member_first : slot / 7 ≡ n → acted h.root ≡ member_of h n slot
  unfolding member_of
  member_first e = rw (eq-eqb (slot / 7) n e)

  module _ (ne : slot / 7 ≢ n) where
    pub member_old : slot % 7 ≡ h.old → old (slot / 7) ≡ member_of h n slot
    unfolding member_of
    member_old e = rw (ne_eqb (slot / 7) n ne, eq-eqb (slot % 7) h.old e)

    module _ (no : slot % 7 ≢ h.old) where
      pub member_acted : slot % 7 ≡ h.acted → acted (slot / 7) ≡ member_of h n slot
      unfolding member_of
      member_acted e = rw (ne_eqb (slot / 7) n ne, ne_eqb (slot % 7) h.old no, eq-eqb (slot % 7) h.acted e)

      pub member_edge : slot % 7 ≢ h.acted → edge (slot / 7) (slot % 7) ≡ member_of h n slot
      unfolding member_of
      member_edge na = rw (ne_eqb (slot / 7) n ne, ne_eqb (slot % 7) h.old no, ne_eqb (slot % 7) h.acted na)

pub member_there : (h : Change) (n slot C : ℕ) → slot / 7 ≢ n → slot % 7 ≢ h.old → slot % 7 ≢ h.acted
    → There C (member_of h n slot) → slot % 7 < C
member_there h n slot C a b c r = subst (There C) (sym (member_edge h n slot a b c)) r

pub put_is : (s : Scene) (h : Change) (t : Table) {k k' : Member} {was now : List ℕ} {to : ℕ} → k ≡ k'
    → Puts s h t k was now to → Puts s h t k' was now to
put_is s h t {was = was} {now} {to} e p = subst (λ (k : Member). Puts s h t k was now to) e p
