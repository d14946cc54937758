-- The pass that numbers on demand, breadth first: row after row, each belief a member numbered before or the next. When
-- no row is left it is a table as `built` and `ordered_reached` ask for. Assumes nothing.
use Rattle.std.proofs.Common.{ℕ, zero, suc, ◌<◌, ◌≤◌, sym, ◌∙◌, eq-or-lt_of_le, le_of_suc-le-suc, List, [], ◌∷◌, ◌++◌}
use Rattle.std.proofs.Common.{arith}
use Rattle.std.specs.Prelude.{◌≡◌, get_or}
use Rattle.std.proofs.Math.Path.{refl, ap, ap₂, subst}
use Rattle.std.proofs.Math.Logic.{⊎_elim}
use Rattle.std.proofs.Math.ListN.{length, length-append, get_or-append}
use Rattle.std.proofs.Math.Seq.{get_or-append_seam}
use Rattle.pack.specs.State.{node, nowhere, target, Closed}
use Rattle.pack.specs.Syntax.{Node}
use Rattle.chart.specs.Chart.{meets, Fresh, met, Ordered}
use Rattle.chart.specs.Laws.Built.{Rows}
use Rattle.chart.specs.Laws.Merged.{meets_in, met_up}

-- how many are numbered
abbrev pub numbered : List Node → ℕ
numbered t = met t (length t)

module _ (C : ℕ) {K : Type 0} (Real : K → Type 0) (val : K → List ℕ) (next : K → ℕ → K) where
  -- one row
  pub record Filled (t : List Node) (key : ℕ → K) (i : ℕ) : Type 0 where
    pub values : (node t i).values ≡ val (key i)
    pub wide : length (node t i).beliefs ≡ C
    pub known : i < met t i
    pub fresh : Fresh (met t i) (node t i).beliefs
    pub names : (c : ℕ) → c < C → key (target t i c) ≡ next (key i) c

  -- the rows filled so far
  pub record Pass (t : List Node) (key : ℕ → K) : Type 0 where
    pub real : (i : ℕ) → i < numbered t → Real (key i)
    pub rows : (i : ℕ) → i < length t → Filled t key i

  inside : (t : List Node) (key : ℕ → K) → Pass t key → (i c : ℕ) → i < length t → c < C → target t i c < numbered t
  unfolding met
  inside t key p i c h l =
      omega (
        arith,
        met_up t (suc i) (length t) h,
        meets_in (met t i) (node t i).beliefs c (omega (arith, (p.rows i h).wide)),
      )

  pub pass_start : (key : ℕ → K) → Real (key 0) → Pass [] key
  unfolding met
  pass_start key r = record { real = λ i l. let e : i ≡ 0 = omega arith in rw e r; rows = λ i l. absurd (omega arith) }

  module _ (t : List Node) (row : Node) where
    old_node : (i : ℕ) → i < length t → node (t ++ (row ∷ [])) i ≡ node t i
    old_node i h = get_or-append t (row ∷ []) nowhere i h

    old_met : (i : ℕ) → i ≤ length t → met (t ++ (row ∷ [])) i ≡ met t i
    unfolding met
    old_met zero h = refl
    old_met (suc i) h = ap₂ meets (old_met i (omega arith)) (ap (λ (n : Node). n.beliefs) (old_node i h))

    -- how many are numbered once the row is read
    pub pass_count : numbered (t ++ (row ∷ [])) ≡ meets (numbered t) row.beliefs
    unfolding met
    pass_count =
        let long : length (t ++ (row ∷ [])) ≡ suc (length t) = omega (arith, length-append t (row ∷ [])) in
        ap (met (t ++ (row ∷ []))) long
        ∙ ap₂ meets (old_met (length t) (omega arith))
        (ap (λ (n : Node). n.beliefs) (get_or-append_seam t row [] nowhere))

    pub pass_row : (key key' : ℕ → K) → Pass t key → ((i : ℕ) → i < numbered t → key' i ≡ key i)
        → ((i : ℕ) → i < meets (numbered t) row.beliefs → Real (key' i))
        → length t < numbered t → row.values ≡ val (key (length t)) → length row.beliefs ≡ C
        → Fresh (numbered t) row.beliefs
        → ((c : ℕ) → c < C → key' (get_or row.beliefs c 0) ≡ next (key (length t)) c) → Pass (t ++ (row ∷ [])) key'
    unfolding met
    pass_row key key' p keep real known values wide fresh names = record {
      real = λ i l. real i (omega (arith, count));
      rows = λ i l.
          ⊎_elim (λ (e : i ≡ length t). subst (Filled u key') (sym e) new) (λ (l : i < length t). old i l)
          (eq-or-lt_of_le (le_of_suc-le-suc (rw long at l)));
    }
      where
        u : List Node
        u = t ++ (row ∷ [])

        long : length u ≡ suc (length t)
        long = omega (arith, length-append t (row ∷ []))

        here : node u (length t) ≡ row
        here = get_or-append_seam t row [] nowhere

        count : numbered u ≡ meets (numbered t) row.beliefs
        count = ap (met u) long ∙ ap₂ meets (old_met (length t) (omega arith)) (ap (λ (n : Node). n.beliefs) here)

        change : (i : ℕ) (n : Node) → i < numbered t → node u i ≡ n → met u i ≡ met t i → i < met t i
            → n.values ≡ val (key i) → length n.beliefs ≡ C → Fresh (met t i) n.beliefs
            → ((c : ℕ) → c < C → key' (get_or n.beliefs c 0) ≡ next (key i) c) → Filled u key' i
        change i n l e m k v w f g = record {
          values = ap (λ (n : Node). n.values) e ∙ v ∙ ap val (sym (keep i l));
          wide = ap (λ (n : Node). length n.beliefs) e ∙ w;
          known = omega arith;
          fresh = rw (m, e) f;
          names = λ c lc.
              ap (λ (n : Node). key' (get_or n.beliefs c 0)) e ∙ g c lc ∙ ap (λ (k : K). next k c) (sym (keep i l));
        }

        new : Filled u key' (length t)
        new = change (length t) row known here (old_met (length t) (omega arith)) known values wide fresh names

        old : (i : ℕ) → i < length t → Filled u key' i
        old i l =
            let r = p.rows i l in
            change i (node t i) (omega arith) (old_node i l) (old_met i (omega arith)) r.known r.values r.wide
            r.fresh (λ c lc. keep (target t i c) (inside t key p i c l lc) ∙ r.names c lc)

  -- no row is left
  pub pass_end : (t : List Node) (key : ℕ → K) → Pass t key → numbered t ≡ length t
      → Rows C t Real val next key × Ordered C t
  pass_end t key p e =
      let closed : Closed C t = λ i c h l. omega (arith, inside t key p i c h l) in (
        record {
          real = λ i h. p.real i (omega arith);
          values = λ i h. (p.rows i h).values;
          inside = closed;
          names = λ i c h l. (p.rows i h).names c l;
        },
        record {
          closed = closed;
          wide = λ i h. (p.rows i h).wide;
          known = λ i h. (p.rows i h).known;
          fresh = λ i h. (p.rows i h).fresh;
          whole = e;
        },
      )
