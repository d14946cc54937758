-- Pairs of rows met breadth first, over the bytes: an entry more, a mark more, and the way back. Assumes nothing.
use Rattle.std.proofs.Common.{◌≡◌, refl, sym, ◌∙◌, ap, subst, ◌⊎◌, inl, inr, ⊎_elim, ◌≢◌, List, ℕ}
use Rattle.std.proofs.Common.{◌+◌, ◌*◌, ◌/◌, ◌%◌, ◌<◌, ◌≤◌, arith, get_or, length, set}
use Rattle.std.proofs.Common.{get_or-set_same, get_or-set_other}
use Rattle.std.proofs.Math.Logic.{by_cases}
use Rattle.std.proofs.lemmas.Grind.{common_steps}
use Rattle.std.proofs.Math.Decide.{ℕ_discrete, dec_lt}
use Rattle.pack.specs.Syntax.{Node}
use Rattle.pack.specs.State.{target}
use Rattle.chart.specs.Laws.Count.{all, count_all, count_inj}
use Rattle.chart.specs.Laws.Breadth.{met_start, met_known, met_new}
use Rattle.pack.specs.Duties.Table.{rows_at, Below, Above}
use Rattle.chart.specs.Duties.Put.{Cleared}
use Rattle.chart.specs.Duties.Numbers.{Sound}
use Rattle.chart.specs.Laws.Cells.{row_in}
use Rattle.chart.proofs.PartitionLevels.{target_at}
use Rattle.chart.specs.Inner.Pairs.{left_at, right_at, from_at, char_at, mark_at, Paired, Pairs, EntryPut, PairMet}
use Rattle.chart.specs.Inner.Pairs.{FirstMet}

-- What `meet` stores
module _ (was : List ℕ) (m q count x y from d : ℕ) (hx : x < 64) (hy : y < 64) (small : from < 65536) (order : m + 4096 ≤ q) (room : q + count * 5 + 5 ≤ length was) where
  abbrev mark : ℕ
  mark = m + x * 64 + y

  abbrev entry : ℕ
  entry = q + count * 5

  abbrev pub stored : List ℕ
  stored = set (set (set (set (set (set was mark 1) entry x) (entry + 1) y) (entry + 2) (from / 256 % 256)) (entry + 3) (from % 256)) (entry + 4) d

  at0 : get_or stored entry 0 ≡ x
  at0 = grind (arith, common_steps)

  at1 : get_or stored (entry + 1) 0 ≡ y
  at1 = grind (arith, common_steps)

  at2 : get_or stored (entry + 2) 0 ≡ from / 256 % 256
  at2 = grind (arith, common_steps)

  at3 : get_or stored (entry + 3) 0 ≡ from % 256
  at3 = grind (arith, common_steps)

  at4 : get_or stored (entry + 4) 0 ≡ d
  at4 = grind (arith, common_steps)

  outside : (p : ℕ) → (p < entry) ⊎ (entry + 5 ≤ p) → get_or stored p 0 ≡ get_or (set was mark 1) p 0
  outside p o = grind (arith, common_steps)

  entry_put : EntryPut was stored m q count x y from d
  entry_put = record {
    mark = outside mark (inl (omega arith)) ∙ get_or-set_same was mark 1 0 (omega arith);
    left = at0;
    right = at1;
    from_entry = omega (arith, at2, at3);
    char = at4;
    kept = λ p n o. outside p o ∙ get_or-set_other was mark p 1 0 n;
  }

  pub pair_new : mark_at was m x y ≡ 0 → PairMet was stored m q count x y from d (count + 1)
  pair_new z = record { again = λ n. absurd (n z); new = λ _. (refl, entry_put) }

-- places of two pairs are the same only where the pairs are
place_one : (x y u v : ℕ) → y < 64 → v < 64 → x * 64 + y ≡ u * 64 + v → (x ≡ u) × (y ≡ v)
place_one x y u v hy hv e = (omega arith, omega arith)

module _ {T : List Node} {r s : ℕ} {bytes : List ℕ} {n c m q count done d : ℕ} (few : n ≤ 64) (g : Pairs T r s bytes n c m q count done d) where
  -- a pair that is not marked is not listed
  not_listed : (x y : ℕ) → mark_at bytes m x y ≡ 0 → (e : ℕ) → e < count → left_at bytes q e ≡ x → right_at bytes q e ≡ y → ⊥
  not_listed x y z e l ex ey =
      omega (arith, g.marked e l, z, ap (λ (x : ℕ). mark_at bytes m x (right_at bytes q e)) ex ∙ ap (λ (y : ℕ). mark_at bytes m x y) ey)

  -- no more entries than pairs
  pub entries_most : count ≤ 4096
  entries_most =
      omega (
        arith,
        count_inj all all (λ e i. left_at bytes q e * 64 + right_at bytes q e ≡ i) count 4096
            (λ e h _. let (a, b) = g.inside e h in (left_at bytes q e * 64 + right_at bytes q e, omega arith, tt, refl))
            (λ a b i l h _ u v. let (_, ra) = g.inside a (omega arith) in let (_, rb) = g.inside b h in
            let (ex, ey) = place_one (left_at bytes q a) (right_at bytes q a) (left_at bytes q b) (right_at bytes q b) (omega arith) (omega arith) (u ∙ sym v) in g.distinct a b l h ex ey),
        count_all count,
        count_all 4096,
      )

  -- so there is room for it
  module _ (x y : ℕ) (hx : x < 64) (hy : y < 64) (z : mark_at bytes m x y ≡ 0) where
    -- entries by the place of their pair's mark, and the pair as one more
    abbrev Placed : ℕ → ℕ → Type 0
    Placed e i = ((e < count) × (left_at bytes q e * 64 + right_at bytes q e ≡ i)) ⊎ ((e ≡ count) × (x * 64 + y ≡ i))

    place : (e : ℕ) → e < count + 1 → Unit {0} → (i : ℕ) × (i < 4096) × Unit {0} × Placed e i
    place e l _ = by_cases (dec_lt e count) (λ h. let (a, b) = g.inside e h in (left_at bytes q e * 64 + right_at bytes q e, omega arith, tt, inl (h, refl))) (λ h. (x * 64 + y, omega arith, tt, inr (omega arith, refl)))

    one : (a b i : ℕ) → a < b → b < count + 1 → Unit {0} → Placed a i → Placed b i → ⊥
    one a b i l h _ u v =
        ⊎_elim
        (λ (p : (a < count) × (left_at bytes q a * 64 + right_at bytes q a ≡ i)). let (la, ra) = g.inside a p.0 in ⊎_elim
        (λ (o : (b < count) × (left_at bytes q b * 64 + right_at bytes q b ≡ i)).
        let (lb, rb) = g.inside b o.0 in
        let (ex, ey) = place_one (left_at bytes q a) (right_at bytes q a) (left_at bytes q b) (right_at bytes q b) (omega arith) (omega arith) (p.1 ∙ sym o.1) in g.distinct a b l o.0 ex ey)
        (λ (o : (b ≡ count) × (x * 64 + y ≡ i)).
        let (ex, ey) = place_one (left_at bytes q a) (right_at bytes q a) x y (omega arith) hy (p.1 ∙ sym o.1) in not_listed x y z a p.0 ex ey) v)
        (λ (p : (a ≡ count) × (x * 64 + y ≡ i)). omega (arith, p.0)) u

    pub entries_few : count < 4096
    entries_few = omega (arith, count_inj all all Placed (count + 1) 4096 place one, count_all (count + 1), count_all 4096)

  module _ (marks : m + 4096 ≤ q) (there : done < count) (hd : d < c) {x y : ℕ} (hx : x < n) (hy : y < n) (ex : x ≡ target T (left_at bytes q done) d) (ey : y ≡ target T (right_at bytes q done) d) where
    pairs_known : mark_at bytes m x y ≢ 0 → Pairs T r s bytes n c m q count done (d + 1)
    pairs_known z =
        ⊎_elim (λ (e : mark_at bytes m x y ≡ 0). absurd (z e))
        (λ (i : (e : ℕ) × (e < count) × (left_at bytes q e ≡ x) × (right_at bytes q e ≡ y)). record {
          met = met_known g.met there i.0 i.1 (i.2 ∙ ex) (i.3 ∙ ey);
          inside = g.inside;
          marked = g.marked;
          listed = g.listed;
          distinct = g.distinct;
        })
        (g.listed x y (omega arith) (omega arith))

    module _ {now : List ℕ} (z : mark_at bytes m x y ≡ 0) (p : EntryPut bytes now m q count x y done d) where
      byte : (e j : ℕ) → e < count → j < 5 → get_or now (q + e * 5 + j) 0 ≡ get_or bytes (q + e * 5 + j) 0
      byte e j l h = p.kept (q + e * 5 + j) (λ w. omega arith) (inl (omega arith))

      left_same : (e : ℕ) → e < count → left_at now q e ≡ left_at bytes q e
      left_same e l = p.kept (q + e * 5) (λ w. omega arith) (inl (omega arith))

      right_same : (e : ℕ) → e < count → right_at now q e ≡ right_at bytes q e
      right_same e l = byte e 1 l (omega arith)

      from_same : (e : ℕ) → e < count → from_at now q e ≡ from_at bytes q e
      from_same e l = omega (arith, byte e 2 l (omega arith), byte e 3 l (omega arith))

      -- marks of other pairs are as they were
      mark_same : (u v : ℕ) → u < 64 → v < 64 → ((u ≡ x) × (v ≡ y) → ⊥) → mark_at now m u v ≡ mark_at bytes m u v
      mark_same u v hu hv ne = p.kept (m + u * 64 + v) (λ w. ne (place_one u v x y hv (omega arith) (omega arith))) (inl (omega arith))

      pairs_new : Pairs T r s now n c m q (count + 1) done (d + 1)
      pairs_new = record {
        met = met_new g.met there hd {X' = left_at now q} {Y' = right_at now q} {from' = from_at now q} {char' = char_at now q}
            (λ e l. (left_same e l, right_same e l, from_same e l, byte e 4 l (omega arith))) (p.left ∙ ex) (p.right ∙ ey) p.from_entry p.char;
        inside = λ e l. by_cases (dec_lt e count) (λ h. let (a, b) = g.inside e h in (omega (arith, left_same e h), omega (arith, right_same e h)))
            (λ h. let w : e ≡ count = omega arith in (omega (arith, ap (left_at now q) w, p.left), omega (arith, ap (right_at now q) w, p.right)));
        marked = λ e l. by_cases (dec_lt e count) (λ h. old_mark e h)
            (λ h. let w : e ≡ count = omega arith in ap (λ (u : ℕ). mark_at now m u (right_at now q e)) (ap (left_at now q) w ∙ p.left) ∙ ap (mark_at now m x) (ap (right_at now q) w ∙ p.right) ∙ p.mark);
        listed = λ u v hu hv. by_cases (ℕ_discrete u x) (λ a. by_cases (ℕ_discrete v y) (λ b. inr (count, omega arith, p.left ∙ sym a, p.right ∙ sym b)) (λ b. old_list u v hu hv (λ w. b w.1))) (λ a. old_list u v hu hv (λ w. a w.0));
        distinct = λ a b l h ea eb. by_cases (dec_lt b count)
            (λ k. g.distinct a b l k (sym (left_same a (omega arith)) ∙ ea ∙ left_same b k) (sym (right_same a (omega arith)) ∙ eb ∙ right_same b k))
            (λ k. let w : b ≡ count = omega arith in not_listed x y z a (omega arith) (sym (left_same a (omega arith)) ∙ ea ∙ ap (left_at now q) w ∙ p.left) (sym (right_same a (omega arith)) ∙ eb ∙ ap (right_at now q) w ∙ p.right));
      }
        where
          old_mark : (e : ℕ) → e < count → mark_at now m (left_at now q e) (right_at now q e) ≡ 1
          old_mark e h =
              let (a, b) = g.inside e h in
              ap (λ (u : ℕ). mark_at now m u (right_at now q e)) (left_same e h) ∙ ap (mark_at now m (left_at bytes q e)) (right_same e h)
              ∙ mark_same (left_at bytes q e) (right_at bytes q e) (omega arith) (omega arith) (λ w. not_listed x y z e h w.0 w.1) ∙ g.marked e h

          old_list : (u v : ℕ) → u < 64 → v < 64 → ((u ≡ x) × (v ≡ y) → ⊥) → (mark_at now m u v ≡ 0) ⊎ ((e : ℕ) × (e < count + 1) × (left_at now q e ≡ u) × (right_at now q e ≡ v))
          old_list u v hu hv ne =
              ⊎_elim (λ (e : mark_at bytes m u v ≡ 0). inl (mark_same u v hu hv ne ∙ e))
              (λ (i : (e : ℕ) × (e < count) × (left_at bytes q e ≡ u) × (right_at bytes q e ≡ v)). inr (i.0, omega (arith, i.1), left_same i.0 i.1 ∙ i.2, right_same i.0 i.1 ∙ i.3))
              (g.listed u v hu hv)

    -- one character more is followed
    pub pairs_more : {now : List ℕ} {k : ℕ} → PairMet bytes now m q count x y done d k
        → Pairs T r s now n c m q k done (d + 1) × (count ≤ k) × ((e : ℕ) → e < count → (left_at now q e ≡ left_at bytes q e) × (right_at now q e ≡ right_at bytes q e))
    pairs_more {now} {k} p =
        by_cases (ℕ_discrete (mark_at bytes m x y) 0)
        (λ z. let (e, o) = p.new z in (subst (λ (k : ℕ). Pairs T r s now n c m q k done (d + 1)) (sym e) (pairs_new z o), omega arith, λ i h. (left_same z o i h, right_same z o i h)))
        (λ z. let (e, o) = p.again z in (subst (λ (k : ℕ). Pairs T r s now n c m q k done (d + 1)) (sym e) (subst (λ (b : List ℕ). Pairs T r s b n c m q count done (d + 1)) (sym o) (pairs_known z)), omega arith, λ i h. (ap (λ (b : List ℕ). left_at b q i) o, ap (λ (b : List ℕ). right_at b q i) o)))

-- bytes but marks and entries are as they were
pub meet_frame : {was now : List ℕ} {m q count x y from d k : ℕ} → PairMet was now m q count x y from d k → m + 4096 ≤ q → x < 64 → y < 64 → (mark_at was m x y ≡ 0 → count < 4096) → Below was now m × Above was now (q + 20480)
meet_frame {was} {now} {m} {q} {count} {x} {y} p marks hx hy few =
    by_cases (ℕ_discrete (mark_at was m x y) 0)
    (λ z. let o = (p.new z).1 in (λ b h. o.kept b (λ w. omega arith) (inl (omega arith)), λ b h. o.kept b (λ w. omega arith) (inr (omega (arith, few z)))))
    (λ z. let e = (p.again z).1 in (λ b h. ap (λ (l : List ℕ). get_or l b 0) e, λ b h. ap (λ (l : List ℕ). get_or l b 0) e))

-- What `meet_first` leaves
module _ {was mid : List ℕ} {m : ℕ} (e : Cleared was mid m 4096) where
  cleared_mark : (u v : ℕ) → u < 64 → v < 64 → mark_at mid m u v ≡ 0
  cleared_mark u v hu hv = let z : m + u * 64 + v ≡ m + (u * 64 + v) = omega arith in ap (λ (p : ℕ). get_or mid p 0) z ∙ e.clear (u * 64 + v) (omega arith)

  pub first-met : {now : List ℕ} {q x y k : ℕ} → x < 64 → y < 64 → m + 4096 ≤ q → PairMet mid now m q 0 x y 0 0 k → FirstMet was now m q x y
  first-met {now} {q} {x} {y} hx hy marks p =
      let o = (p.new (cleared_mark x y hx hy)).1 in
      record {
        left = o.left;
        right = o.right;
        mark = o.mark;
        rest = λ u v hu hv ne. o.kept (m + u * 64 + v) (λ w. ne (place_one u v x y hv hy (omega arith))) (inl (omega arith)) ∙ cleared_mark u v hu hv;
        low = λ b h. o.kept b (λ w. omega arith) (inl (omega arith)) ∙ e.low b h;
        high = λ b h. o.kept b (λ w. omega arith) (inr (omega arith)) ∙ e.high b (omega arith);
      }

-- so one pair is met
pub pairs_first : {was now : List ℕ} {n c m q x y : ℕ} (T : List Node) → n ≤ 64 → x < n → y < n → FirstMet was now m q x y → Pairs T (left_at now q 0) (right_at now q 0) now n c m q 1 0 0
pairs_first {was} {now} {n} {c} {m} {q} {x} {y} T few hx hy p = record {
  met = met_start refl refl;
  inside = λ e l. let z : e ≡ 0 = omega arith in (omega (arith, ap (left_at now q) z, p.left), omega (arith, ap (right_at now q) z, p.right));
  marked = λ e l. let z : e ≡ 0 = omega arith in
      ap (λ (u : ℕ). mark_at now m u (right_at now q e)) (ap (left_at now q) z ∙ p.left) ∙ ap (mark_at now m x) (ap (right_at now q) z ∙ p.right) ∙ p.mark;
  listed = λ u v hu hv. by_cases (ℕ_discrete u x) (λ a. by_cases (ℕ_discrete v y) (λ b. inr (0, omega arith, p.left ∙ sym a, p.right ∙ sym b)) (λ b. inl (p.rest u v hu hv (λ w. b w.1)))) (λ a. inl (p.rest u v hu hv (λ w. a w.0)));
  distinct = λ a b l h. absurd (omega arith);
}

-- The beliefs of a row that is as it was
row_place : {was : List ℕ} {n w f c t m q : ℕ} → Paired was n w f c t m q → (i a : ℕ) → i < n → a ≡ t + i * w + f → a + c ≤ m
row_place {n = n} {w = w} l i a h e = omega (arith, row_in n w i h, l.wide, l.source)

-- The characters below d of entry `done` are followed: a and b are where its rows' beliefs start
pub record Follows (was now : List ℕ) (n w f c t m q done count a b met d : ℕ) : Type 0 where
  pub long : length now ≡ length was
  pub most : d ≤ c
  pub there : done < met
  pub more : count ≤ met
  pub kept : (e : ℕ) → e < count → (left_at now q e ≡ left_at was q e) × (right_at now q e ≡ right_at was q e)
  pub left : a ≡ t + left_at now q done * w + f
  pub right : b ≡ t + right_at now q done * w + f
  pub pairs : Pairs (rows_at was w f c t n) (left_at was q 0) (right_at was q 0) now n c m q met done d
  pub low : Below was now m
  pub high : Above was now (q + 20480)

module _ {was : List ℕ} {n w f c t m q : ℕ} (l : Paired was n w f c t m q) {now : List ℕ} {done count a b met d : ℕ} (o : Follows was now n w f c t m q done count a b met d) where
  -- both rows' beliefs lie within the buffer
  pub follows_left : a + c ≤ length now
  follows_left = omega (arith, row_place l (left_at now q done) a (o.pairs.inside done o.there).0 o.left, l.marks, l.room, o.long)

  pub follows_right : b + c ≤ length now
  follows_right = omega (arith, row_place l (right_at now q done) b (o.pairs.inside done o.there).1 o.right, l.marks, l.room, o.long)

  module _ (sound : Sound was n w f c t) (hd : d < c) where
    -- the row that a belief for d names
    follow_row : (i a x : ℕ) → i < n → a ≡ t + i * w + f → get_or now (a + d) 0 ≡ x → (x < n) × (x ≡ target (rows_at was w f c t n) i d)
    follow_row i a x hi e g =
        let z : x ≡ get_or was (t + i * w + f + d) 0 = sym g ∙ ap (λ (a : ℕ). get_or now (a + d) 0) e ∙ o.low (t + i * w + f + d) (omega (arith, row_in n w i hi, l.wide, l.source)) in
        (omega (arith, sound.beliefs i d hi hd), z ∙ sym (target_at was n w f c t i d hi hd))

    module _ {x y : ℕ} (ex : get_or now (a + d) 0 ≡ x) (ey : get_or now (b + d) 0 ≡ y) where
      fx : (x < n) × (x ≡ target (rows_at was w f c t n) (left_at now q done) d)
      fx = follow_row (left_at now q done) a x (o.pairs.inside done o.there).0 o.left ex

      fy : (y < n) × (y ≡ target (rows_at was w f c t n) (right_at now q done) d)
      fy = follow_row (right_at now q done) b y (o.pairs.inside done o.there).1 o.right ey

      hx : x < 64
      hx = omega (arith, fx.0, l.few)

      hy : y < 64
      hy = omega (arith, fy.0, l.few)

      -- an entry for the next pair
      pub follows_meet : ((x < 64) × (y < 64) × (done < 65536) × (d < 256) × (q ≤ length now)) × (mark_at now m x y ≡ 0 → q + met * 5 + 5 ≤ length now)
      follows_meet =
          ((hx, hy, omega (arith, entries_most l.few o.pairs, o.there), omega (arith, l.narrow), omega (arith, l.marks, l.room, o.long)), λ z. omega (arith, entries_few l.few o.pairs x y hx hy z, l.room, o.long))

      -- one character more is followed
      pub follows_more : {now' : List ℕ} {k : ℕ} → length now' ≡ length now → PairMet now now' m q met x y done d k → Follows was now' n w f c t m q done count a b k (d + 1)
      follows_more {now'} {k} e p =
          let (g, up, same) = pairs_more l.few o.pairs l.marks o.there hd fx.0 fy.0 fx.1 fy.1 p in
          let (below, above) = meet_frame p l.marks hx hy (λ z. entries_few l.few o.pairs x y hx hy z) in
          let (el, er) = same done o.there in
          record {
            long = e ∙ o.long;
            most = omega arith;
            there = omega (arith, o.there);
            more = omega (arith, o.more);
            kept = λ i h. let (a, b) = same i (omega (arith, o.more)) in let (a', b') = o.kept i h in (a ∙ a', b ∙ b');
            left = o.left ∙ ap (λ (i : ℕ). t + i * w + f) (sym el);
            right = o.right ∙ ap (λ (i : ℕ). t + i * w + f) (sym er);
            pairs = g;
            low = λ j h. below j h ∙ o.low j h;
            high = λ j h. above j h ∙ o.high j h;
          }
