-- What the replies of Start, Query and Compare say where the checks are passed. Assumes nothing.
use Rattle.std.specs.Prelude.{ℕ, ◌<◌, ◌≤◌, ◌≡◌, Bool, true, ◌&&◌, ◌↔◌, length, get_or}
use Rattle.std.proofs.Math.Path.{refl, ap}
use Rattle.std.proofs.Common.{sym, ◌∙◌, arith, le-leb, lt-ltb, List, [], ◌∷◌}
use Rattle.std.proofs.Math.Dec.{ltb}
use Rattle.pack.specs.Syntax.{Theory, Node, Pack, fluents}
use Rattle.pack.specs.State.{State, Valid, meaning}
use Rattle.pack.specs.Reading.{Reply, gives, refuses, pick}
use Rattle.pack.specs.Grammar.{pack_of, chart_of}
use Rattle.pack.specs.Layout.{chart_bytes, ChartFits, PackFits}
use Rattle.pack.specs.Laws.Reading.{same_gift}
use Rattle.pack.specs.Laws.Table.{same_valid}
use Rattle.pack.specs.Laws.Fits.{chart_short}
use Rattle.pack.specs.Laws.PackBack.{chart_back, chart_bytes_one}
use Rattle.pack.specs.Laws.Exact.{Bytes}
use Rattle.pack.specs.Laws.PackExact.{pack_exactly, chart_exactly, fits_limits}
use Rattle.chart.specs.Chart.{Starts, ChartOf}
use Rattle.chart.specs.Compare.{Verdict, differ, Compared}
use Rattle.chart.specs.Answers.{start_table, compare_table}
use Rattle.chart.specs.Call.{chart_room, chain_room, work_room, fits, charts_of, call}
use Rattle.chart.specs.Replies.{start_reply, query_reply, compare_reply, all_below}
use Rattle.chart.specs.Laws.Unique.{unique}
use Rattle.chart.specs.Laws.Answers.{start_table_lem, start_table_iff, start_fits, compare_table_iff}
use Rattle.chart.specs.Laws.Answers.{compare_table_short, fits_table, fits-full}

-- bytes that are accepted as a pack
pub record Given (bytes : List ℕ) (p : Pack) : Type 0 where
  pub bytewise : Bytes bytes
  pub accepted : pack_of bytes ≡ gives p

-- and bytes that are accepted as a chart under its theory
pub record Chart (p : Theory) (bytes : List ℕ) (t : List Node) : Type 0 where
  pub bytewise : Bytes bytes
  pub accepted : chart_of p bytes ≡ gives t

pub given_fits : {bytes : List ℕ} {p : Pack} → Given bytes p → PackFits p
given_fits {bytes} {p} g = ((pack_exactly bytes g.bytewise p).0 g.accepted).0

pub chart_fits : {pack bytes : List ℕ} {p : Pack} {t : List Node} → Given pack p → Chart p.theory bytes t
    → ChartFits p.theory.characters p.theory.domains t
chart_fits {bytes = bytes} {p = p} {t = t} g c =
    ((chart_exactly p.theory (fits_limits p (given_fits g)) bytes c.bytewise t).0 c.accepted).0

-- Two tests that are passed
pub both_true : {a b : Bool} → a ≡ true → b ≡ true → (a && b) ≡ true
both_true x y = rw (x, y)

pub long_enough : (room : ℕ) (buffer : List ℕ) → room ≤ length buffer → fits room buffer ≡ true
long_enough room buffer h = le-leb room (length buffer) h

-- Pack and buffers are as they should be
pub call_ranged : {A : Type 0} (enough : Bool) (in_range : Theory → Bool) (rest : Pack → List (List Node) → Reply A)
    → enough ≡ true → {pack : List ℕ} {p : Pack} → Given pack p
    → call pack [] enough in_range rest ≡ pick (in_range p.theory) (rest p []) (refuses 9 0)
unfolding call charts_of
call_ranged enough in_range rest long g = rw (g.accepted, long)

-- The checks are passed
module _ {A : Type 0} (enough : Bool) (in_range : Theory → Bool) (rest : Pack → List (List Node) → Reply A)
    (yes-enough : enough ≡ true) {pack : List ℕ} {p : Pack} (g : Given pack p)
    (there : in_range p.theory ≡ true) where
  pub call_none : call pack [] enough in_range rest ≡ rest p []
  unfolding call charts_of
  call_none = rw (g.accepted, yes-enough, there)

  pub call-one : {bytes : List ℕ} {t : List Node} → Chart p.theory bytes t
      → call pack (bytes ∷ []) enough in_range rest ≡ rest p (t ∷ [])
  unfolding call charts_of
  call-one c = rw (g.accepted, c.accepted, yes-enough, there)

  pub call_two : {bytes bytes' : List ℕ} {t u : List Node} → Chart p.theory bytes t → Chart p.theory bytes' u
      → call pack (bytes ∷ bytes' ∷ []) enough in_range rest ≡ rest p (t ∷ u ∷ [])
  unfolding call charts_of
  call_two c d = rw (g.accepted, c.accepted, d.accepted, yes-enough, there)

module _ {pack : List ℕ} {p : Pack} (g : Given pack p) where
  abbrev C : ℕ
  C = p.theory.characters

  -- Start's reply is the written chart of what node 0 means
  pub start_says : (chart work : List ℕ) → chart_room ≤ length chart → work_room ≤ length work → (rows : List Node)
      → Starts C (meaning C p.nodes 0) rows → start_reply pack chart work ≡ gives (chart_bytes rows)
  unfolding start_reply
  start_says chart work hc hw rows s =
      call_none (fits chart_room chart && fits work_room work) (λ p. true)
      (λ p tables. gives (chart_bytes (start_table p.theory.characters p.nodes)))
      (both_true (long_enough chart_room chart hc) (long_enough work_room work hw)) g refl
      ∙ ap (λ (rows : List Node). gives (chart_bytes rows))
      ((start_table_iff C p.nodes (fits_table C p.theory.domains p.nodes (given_fits g).nodes) rows).0 s)

  -- each byte of a chain of characters is one
  below : (chain : List ℕ) → Valid C chain → all_below C chain ≡ true
  unfolding Valid all_below
  below [] v = refl
  below (c ∷ chain) v = both_true (lt-ltb c C v.0) (below chain v.1)

  -- Query's reply is the fluent's value where the chain leads
  pub query_says : (chart chain : List ℕ) (fluent : ℕ) (work : List ℕ) (t : List Node) → Chart p.theory chart t
      → Valid C chain → fluent < fluents p.theory → work_room ≤ length work
      → query_reply pack chart chain fluent work ≡ gives (get_or (meaning C t 0 chain) fluent 0)
  unfolding query_reply
  query_says chart chain fluent work t c v l hw =
      call-one (fits work_room work) (λ p. all_below p.characters chain && ltb fluent (fluents p))
      (λ p tables. gives (get_or (meaning p.theory.characters (get_or tables 0 []) 0 chain) fluent 0))
      (long_enough work_room work hw) g (both_true (below chain v) (lt-ltb fluent (fluents p.theory) l)) c

  module _ (first second chain work : List ℕ) (t u : List Node) (c : Chart p.theory first t)
      (d : Chart p.theory second u) (hc : chain_room ≤ length chain) (hw : work_room ≤ length work) where
    pub compares : compare_reply pack first second chain work ≡ gives (compare_table C (fluents p.theory) t u)
    unfolding compare_reply
    compares =
        call_two (fits chain_room chain && fits work_room work) (λ p. true)
        (λ p tables.
        gives (compare_table p.theory.characters (fluents p.theory) (get_or tables 0 []) (get_or tables 1 [])))
        (both_true (long_enough chain_room chain hc) (long_enough work_room work hw)) g refl c d

    -- Compare's reply is the one verdict that is true of the two states
    pub compare_says : (v : Verdict)
        → Compared C (meaning C t 0) (meaning C u 0) v ↔ (compare_reply pack first second chain work ≡ gives v)
    compare_says v =
        let x = compare_table_iff C (fluents p.theory) t u (fits-full C p.theory.domains t (chart_fits g c))
        (fits-full C p.theory.domains u (chart_fits g d)) v in
        (λ h. compares ∙ ap gives (x.0 h), λ e. x.1 (same_gift (sym compares ∙ e)))

    -- "The chain has at most 62 characters"
    pub compare_chain : (ch : List ℕ) (f : ℕ) → compare_reply pack first second chain work ≡ gives (differ ch f)
        → length ch ≤ 62
    compare_chain ch f e =
        let ft = chart_fits g c in
        let fu = chart_fits g d in
        omega (
          arith,
          compare_table_short C (fluents p.theory) t u (fits-full C p.theory.domains t ft)
              (fits-full C p.theory.domains u fu) ch f (same_gift (sym compares ∙ e)),
          ft.1,
          fu.1,
        )

-- The bytes of written charts
module _ (C : ℕ) (D D' : List ℕ) (few : C ≤ 6) (slim : length D ≤ 24) (alike : length D ≡ length D')
    (small : (f : ℕ) → get_or D f 0 ≤ 128) (small' : (f : ℕ) → get_or D' f 0 ≤ 128) where
  -- equal exactly where no chain tells the states apart
  pub charts_equal : {s s' : State} {bytes bytes' : List ℕ} → ChartOf C D s bytes → ChartOf C D' s' bytes'
      → (bytes ≡ bytes') ↔ ((chain : List ℕ) → Valid C chain → s chain ≡ s' chain)
  charts_equal {s} {s'} x y = (
    λ e chain v.
        let same = chart_bytes_one C D D' few slim alike small small' x.rows y.rows x.fits y.fits
        (sym x.bytewise ∙ e ∙ y.bytewise) in
        ap (λ (s : State). s chain) (sym x.starts.1 ∙ ap (λ (t : List Node). meaning C t 0) same ∙ y.starts.1),
    λ h.
        let means = (same_valid C x.rows y.rows 0 0).1
        (λ chain v.
        ap (λ (s : State). s chain) x.starts.1 ∙ h chain v ∙ ap (λ (s : State). s chain) (sym y.starts.1)) in
        x.bytewise ∙ ap chart_bytes (unique C x.rows y.rows x.starts.0 y.starts.0 means)
        ∙ sym y.bytewise,
  )

module _ {pack : List ℕ} {p : Pack} (g : Given pack p) where
  abbrev D : List ℕ
  D = p.theory.domains

  -- a chart that is written is read back and means the same
  pub chart_means : {s : State} {bytes : List ℕ} → ChartOf p.theory.characters D s bytes
      → (t : List Node) × (chart_of p.theory bytes ≡ gives t) × (meaning p.theory.characters t 0 ≡ s)
  chart_means x =
      let w = fits_limits p (given_fits g) in (
        x.rows,
        ap (chart_of p.theory) x.bytewise
            ∙ chart_back p.theory w.characters.1 w.fluents.1 w.sizes x.rows x.fits,
        x.starts.1,
      )

  -- "It has at most 961 bytes"
  pub chart_bounded : {s : State} {bytes : List ℕ} → ChartOf p.theory.characters D s bytes
      → length bytes ≤ chart_room
  chart_bounded x =
      let w = fits_limits p (given_fits g) in
      omega (
        arith,
        ap length x.bytewise,
        chart_short p.theory.characters D w.sizes w.characters.1 w.fluents.1 x.rows x.fits,
      )

  -- Start's reply is the written chart of what node 0 means
  pub start_writes : (chart work : List ℕ) → chart_room ≤ length chart → work_room ≤ length work
      → (bytes : List ℕ) × (start_reply pack chart work ≡ gives bytes)
      × ChartOf p.theory.characters D (meaning p.theory.characters p.nodes 0) bytes
  start_writes chart work hc hw =
      let C = p.theory.characters in
      let fit = (given_fits g).nodes in
      let s = start_table_lem C p.nodes (fits_table C D p.nodes fit) in (
        chart_bytes (start_table C p.nodes),
        start_says g chart work hc hw (start_table C p.nodes) s,
        record { rows = start_table C p.nodes; starts = s; fits = start_fits C D p.nodes fit; bytewise = refl },
      )
