-- The checks of a call, made one after the other, are `call`'s, whatever the number of charts: the first refusal, or
-- the pack and the tables that were read. Assumes nothing.
use Rattle.std.specs.Prelude.{ℕ, ◌<◌, ◌≤◌, ◌≡◌, Bool, ◌||◌, ltb, leb, Result, Ok}
use Rattle.std.proofs.Math.Path.{refl, ap, ap₂, subst}
use Rattle.std.proofs.Common.{sym, ◌∙◌, arith, lt-ltb, le-leb, List, [], ◌∷◌, map}
use Rattle.std.proofs.Math.Bool.{true, false}
use Rattle.std.proofs.Math.ListN.{length, get_or}
use Rattle.pack.specs.Syntax.{Theory, Node, Pack}
use Rattle.pack.specs.Reading.{done, many, Reply, gives, refuses, with, told, pick, whole}
use Rattle.pack.specs.Number.{between}
use Rattle.pack.specs.Grammar.{Dimensions, node_at, nodes_at, in_chart, pack_of, chart_of, dimensions}
use Rattle.pack.specs.Duties.Said.{forget}
use Rattle.pack.specs.Refusals.{replied}
use Rattle.pack.specs.Duties.Answer.{dims, sizes_of}
use Rattle.pack.specs.Duties.Contents.{PackRead, PackFound}
use Rattle.pack.specs.declared.refusal.Refusal.{Refusal}
use Rattle.pack.specs.Laws.Reading.{never_gives, same_gift, both}
use Rattle.pack.specs.declared.contents.Contents.{Contents}
use Rattle.pack.specs.Laws.Exact.{Bytes}
use Rattle.pack.specs.Laws.PackExact.{pack_exactly}
use Rattle.pack.specs.Laws.Bounded.{pack-refusal, chart_refusal}
use Rattle.pack.specs.Laws.Number.{between_within}
use Rattle.pack.specs.Laws.PartsFound.{many-length}
use Rattle.pack.specs.Laws.Accepted.{nodes_first, chart_nodes, pack_shaped}
use Rattle.chart.specs.Call.{charts_of, call, by_checks, work_after, cleared}
use Rattle.chart.specs.Duties.Look.{NodesFrom, NodesRead}

-- the numbers that the checks refuse under
low_checks : (k : ℕ) → k ≤ 9 → by_checks k ≡ true
low_checks k h = ap (λ (b : Bool). b || leb 21 k) (lt-ltb k 10 (omega arith))

high_checks : (k : ℕ) → 21 ≤ k → by_checks k ≡ true
high_checks k h = ap (λ (b : Bool). ltb k 10 || b) (le-leb 21 k h) ∙ either (ltb k 10)
  where
    either : (b : Bool) → (b || true) ≡ true
    either true = refl
    either false = refl

charts_refusal : (t : Theory) (charts : List (List ℕ)) (k q : ℕ) → charts_of t charts ≡ refuses k q → 21 ≤ k
unfolding charts_of
charts_refusal t [] k q e = never_gives (sym e)
charts_refusal t (chart ∷ rest) k q e =
    at (chart_of t chart) refl (charts_of t rest) (λ j o g. charts_refusal t rest j o g) e
  where
    at : (x : Reply (List Node)) → chart_of t chart ≡ x → (y : Reply (List (List Node)))
        → ((j o : ℕ) → y ≡ refuses j o → 21 ≤ j) → with x (λ t. with y (λ ts. gives (t ∷ ts))) ≡ refuses k q → 21 ≤ k
    at (refuses j o) f y g e = let z : j ≡ k = cc in omega (arith, chart_refusal t chart j o f)
    at (gives u) f (refuses j o) g e = let z : j ≡ k = cc in omega (arith, g j o refl)
    at (gives u) f (gives us) g e = never_gives (sym e)

-- how many nodes a chart has, as it is counted with a pack's contents
abbrev pub counted : Contents → List ℕ → Reply ℕ
counted p chart = told length (in_chart (whole (nodes_at (dims p.characters (sizes_of p.domains))) chart))

-- of each chart
unfoldable pub counts : Contents → List (List ℕ) → Reply (List ℕ)
counts p [] = gives []
counts p (chart ∷ rest) = with (counted p chart) (λ n. with (counts p rest) (λ ns. gives (n ∷ ns)))

-- 8, 9, or what comes then
abbrev pub lent : {A : Type 0} → Bool → Bool → Reply A → Reply A
lent enough in_range then = pick enough (pick in_range then (refuses 9 0)) (refuses 8 0)

-- the checks behind that of the pack, in their order
unfoldable pub checks : Contents → List (List ℕ) → Bool → Bool → Reply (List ℕ)
checks p charts enough in_range = with (counts p charts) (λ ns. lent enough in_range (gives ns))

-- what is told of nothing is told of what comes then
pub lent_then : {A : Type 0} (enough in_range : Bool) (a : A)
    → lent enough in_range (gives a) ≡ told (λ (u : Unit {0}). a) (lent enough in_range (gives tt))
lent_then true true a = refl
lent_then true false a = refl
lent_then false in_range a = refl

-- what the code's answer to both tests tells of what comes then
pub lent_told : {A : Type 0} (enough in_range : Bool) (a : A) (r : Result (Unit {0}) Refusal)
    → replied r ≡ lent enough in_range (gives tt)
    → lent enough in_range (gives a) ≡ told (λ (u : Unit {0}). a) (replied r)
lent_told enough in_range a r e =
    lent_then enough in_range a ∙ ap (told (λ (u : Unit {0}). a)) (sym e)

-- a pack that is refused
pub pack_refused : {A : Type 0} (pack : List ℕ) (charts : List (List ℕ)) (enough : Bool) (wanted : Theory → Bool)
    (rest : Pack → List (List Node) → Reply A) (k q : ℕ) → told forget (pack_of pack) ≡ refuses k q
    → (call pack charts enough wanted rest ≡ refuses k q) × (by_checks k ≡ true)
unfolding call
pack_refused pack charts enough wanted rest k q e = go (pack_of pack) refl e
  where
    go : (y : Reply Pack) → pack_of pack ≡ y → told forget y ≡ refuses k q
        → (with (pack_of pack) (λ p.
        with (charts_of p.theory charts) (λ tables. lent enough (wanted p.theory) (rest p tables))) ≡ refuses k q)
        × (by_checks k ≡ true)
    go (gives x) f g = never_gives (sym g)
    go (refuses j o) f g =
        let a : j ≡ k = cc in let b : o ≡ q = cc in (
          ap (λ (y : Reply Pack).
              with y (λ p.
              with (charts_of p.theory charts) (λ tables. lent enough (wanted p.theory) (rest p tables)))) f
              ∙ ap₂ refuses a b,
          low_checks k (omega (arith, pack-refusal pack j o f)),
        )

-- what is there when nothing is refused
pub record Accepted (pack places : List ℕ) (charts : List (List ℕ)) (p : Contents) (ns : List ℕ)
    (enough in_range : Bool) : Type 0 where
  pub the_pack : Pack
  pub accepted : pack_of pack ≡ gives the_pack
  pub found : PackFound pack places the_pack p
  pub tables : List (List Node)
  pub read : charts_of the_pack.theory charts ≡ gives tables
  pub long : map length tables ≡ ns
  pub enough_there : enough ≡ true
  pub is_in_range : in_range ≡ true

module _ {A : Type 0} {pack places : List ℕ} (charts : List (List ℕ)) {p : Contents} (got : PackRead pack places (Ok p))
    (enough in_range : Bool)
    (wanted : Theory → Bool) (same : (x : Pack) → pack_of pack ≡ gives x → in_range ≡ wanted x.theory)
    (rest : Pack → List (List Node) → Reply A) where
  abbrev the_reply : Reply A
  the_reply = call pack charts enough wanted rest

  -- what the checks say, as the call's reply has it
  abbrev Settled : Reply (List ℕ) → Type 0
  Settled (refuses k q) = (the_reply ≡ refuses k q) × (by_checks k ≡ true)
  Settled (gives ns) =
      (x : Accepted pack places charts p ns enough in_range) × (the_reply ≡ rest x.the_pack x.tables)

  abbrev Done : Type 0
  Done = Settled (checks p charts enough in_range)

  module _ (x : Pack) (e : pack_of pack ≡ gives x) where
    counts_are : (charts : List (List ℕ)) → counts p charts ≡ told (map length) (charts_of x.theory charts)
    unfolding counts charts_of chart_of
    counts_are [] = refl
    counts_are (chart ∷ rest) =
        let f = got.found x e in
        ap₂ (λ (y : Reply ℕ) (z : Reply (List ℕ)). with y (λ n. with z (λ ns. gives (n ∷ ns))))
        (ap₂ (λ (c : ℕ) (l : List ℕ). told length (in_chart (whole (nodes_at (dims c l)) chart))) (sym f.characters)
        (sym f.domains)) (counts_are rest)
        ∙ inner (chart_of x.theory chart) (charts_of x.theory rest)
      where
        inner : (y : Reply (List Node)) (z : Reply (List (List Node)))
            → with (told length y) (λ n. with (told (map length) z) (λ ns. gives (n ∷ ns)))
            ≡ told (map length) (with y (λ t. with z (λ ts. gives (t ∷ ts))))
        inner (refuses k q) z = refl
        inner (gives t) (refuses k q) = refl
        inner (gives t) (gives ts) = refl

    says : checks p charts enough in_range
        ≡ with (told (map length) (charts_of x.theory charts)) (λ ns. lent enough in_range (gives ns))
    unfolding checks
    says = ap (λ (y : Reply (List ℕ)). with y (λ ns. lent enough in_range (gives ns))) (counts_are charts)

    replies : the_reply ≡ with (charts_of x.theory charts) (λ tables. lent enough in_range (rest x tables))
    unfolding call
    replies =
        ap (λ (y : Reply Pack).
        with y (λ p. with (charts_of p.theory charts) (λ tables. lent enough (wanted p.theory) (rest p tables)))) e
        ∙ ap (λ (b : Bool). with (charts_of x.theory charts) (λ tables. lent enough b (rest x tables)))
        (sym (same x e))

    no_chart : (k q : ℕ) → charts_of x.theory charts ≡ refuses k q → Done
    no_chart k q f =
        subst Settled (sym (says
        ∙ ap (λ (y : Reply (List (List Node))). with (told (map length) y)
        (λ ns. lent enough in_range (gives ns))) f)) (
          replies ∙ ap (λ (y : Reply (List (List Node))). with y (λ tables. lent enough in_range (rest x tables))) f,
          high_checks k (charts_refusal x.theory charts k q f),
        )

    all_read : (ts : List (List Node)) → charts_of x.theory charts ≡ gives ts → Done
    all_read ts f =
        subst Settled (sym (says
        ∙ ap (λ (y : Reply (List (List Node))). with (told (map length) y) (λ ns. lent enough in_range (gives ns))) f))
        (tests enough in_range refl refl
        (replies ∙ ap (λ (y : Reply (List (List Node))). with y (λ tables. lent enough in_range (rest x tables))) f))
      where
        tests : (a b : Bool) → enough ≡ a → in_range ≡ b → the_reply ≡ lent a b (rest x ts)
            → Settled (lent a b (gives (map length ts)))
        tests false b g h r = (r, low_checks 8 (omega arith))
        tests true false g h r = (r, low_checks 9 (omega arith))
        tests true true g h r = (
          record {
            the_pack = x;
            accepted = e;
            found = got.found x e;
            tables = ts;
            read = f;
            long = refl;
            enough_there = g;
            is_in_range = h;
          },
          r,
        )

  pub settled : Done
  settled = at-pack (pack_of pack) refl
    where
      at_charts : (x : Pack) → pack_of pack ≡ gives x → (y : Reply (List (List Node))) → charts_of x.theory charts ≡ y
          → Done
      at_charts x e (gives ts) f = all_read x e ts f
      at_charts x e (refuses k q) f = no_chart x e k q f

      at-pack : (y : Reply Pack) → pack_of pack ≡ y → Done
      at-pack (gives x) e = at_charts x e (charts_of x.theory charts) refl
      at-pack (refuses k q) e = never_gives (sym (sym got.answer ∙ ap (told forget) e))

  -- the code's answer r tells g of what the checks say
  module _ {B : Type 0} (g : List ℕ → B) (r : Reply B) (agrees : r ≡ told g (checks p charts enough in_range)) where
    pub refused_by : (k q : ℕ) → r ≡ refuses k q → (the_reply ≡ refuses k q) × (by_checks k ≡ true)
    refused_by k q e = go (checks p charts enough in_range) settled (sym agrees ∙ e)
      where
        go : (x : Reply (List ℕ)) → Settled x → told g x ≡ refuses k q
            → (the_reply ≡ refuses k q) × (by_checks k ≡ true)
        go (gives ns) s f = never_gives (sym f)
        go (refuses j o) s f =
            let a : j ≡ k = cc in let b : o ≡ q = cc in
            (s.0 ∙ ap₂ refuses a b, subst (λ (k : ℕ). by_checks k ≡ true) a s.1)

    pub accepted_by : (b : B) → r ≡ gives b → (ns : List ℕ) × (g ns ≡ b) × Settled (gives ns)
    accepted_by b e = go (checks p charts enough in_range) settled (sym agrees ∙ e)
      where
        go : (x : Reply (List ℕ)) → Settled x → told g x ≡ gives b → (ns : List ℕ) × (g ns ≡ b) × Settled (gives ns)
        go (gives ns) s f = (ns, same_gift f, s)
        go (refuses j o) s f = never_gives f

-- a refusal by the checks leaves the work buffer as it is
pub left_alone : {A : Type 0} (reply : Reply A) (work : List ℕ) (k q : ℕ) → (reply ≡ refuses k q) × (by_checks k ≡ true)
    → work ≡ work_after reply work
unfolding work_after
left_alone {A = A} reply work k q (e, c) =
    sym (ap (λ (x : Reply A). work_after x work) e ∙ ap (λ (b : Bool). pick b work (cleared work)) c)

-- the first of the charts that were read, and the others
pub record FirstRead (t : Theory) (chart : List ℕ) (charts : List (List ℕ)) (tables : List (List Node)) : Type 0 where
  pub table : List Node
  pub others : List (List Node)
  pub read : chart_of t chart ≡ gives table
  pub rest : charts_of t charts ≡ gives others
  pub same : tables ≡ table ∷ others

pub first_read : (t : Theory) (chart : List ℕ) (charts : List (List ℕ)) (tables : List (List Node))
    → charts_of t (chart ∷ charts) ≡ gives tables → FirstRead t chart charts tables
unfolding charts_of
first_read t chart charts tables e = at (chart_of t chart) refl (charts_of t charts) refl e
  where
    at : (x : Reply (List Node)) → chart_of t chart ≡ x → (y : Reply (List (List Node))) → charts_of t charts ≡ y
        → with x (λ t. with y (λ ts. gives (t ∷ ts))) ≡ gives tables → FirstRead t chart charts tables
    at (refuses j o) f y g e = never_gives e
    at (gives u) f (refuses j o) g e = never_gives e
    at (gives u) f (gives us) g e = record { table = u; others = us; read = f; rest = g; same = sym (same_gift e) }

-- a chart has a node
some_nodes_lem : (d : Dimensions) (s : List ℕ) (at : ℕ) (t : List Node) (n : ℕ) → nodes_at d s at ≡ done t n
    → 0 < length t
unfolding nodes_at
some_nodes_lem d s at t n e =
    let b = both (between 1 33 3 s at) (λ k n. many (node_at d k) k s n) t n e in
    omega (
      arith,
      between_within 1 33 3 s at b.value b.place b.left,
      many-length (node_at d b.value) b.value s b.place t n b.right,
    )

-- a chart that was read, by its nodes
pub nodes_read : {pack places chart : List ℕ} {x : Pack} {p : Contents} {t : List Node} {n : ℕ} → pack_of pack ≡ gives x
    → PackFound pack places x p → chart_of x.theory chart ≡ gives t → length t ≡ n
    → NodesRead chart n p.domains.fluents p.characters t
nodes_read {pack} {places} {chart} {x} {p} {t} {n} e f read long =
    let theory = x.theory in
    let reads = chart_nodes theory chart t read in
    let (rows, few, first) = nodes_first (dimensions theory) chart 0 t (length chart) reads in
    record {
      dimensions = dims theory.characters theory.domains;
      shaped = pack_shaped pack places x p e f;
      some = omega (arith, some_nodes_lem (dimensions theory) chart 0 t (length chart) reads);
      few = omega (arith, few);
      reads = ap (λ (k : ℕ). many (node_at (dims theory.characters theory.domains) k) k chart 1) (sym long) ∙ rows;
    }

-- a pack that was read, by its nodes
abbrev pub nodes_packed : {pack places : List ℕ} {x : Pack} {p : Contents} → Bytes pack → pack_of pack ≡ gives x
    → (f : PackFound pack places x p)
    → NodesFrom pack p.first f.rows.end p.nodes p.domains.fluents p.characters x.nodes
nodes_packed {pack} {places} {x} {p} bytes e f =
    let fit = ((pack_exactly pack bytes x).0 e).0.nodes in
    record {
      dimensions = dims x.theory.characters x.theory.domains;
      shaped = pack_shaped pack places x p e f;
      some = omega (arith, fit.0, f.nodes);
      few = omega (arith, fit.1, f.nodes);
      reads = f.rows.reads;
    }

-- what the checks say where there are no charts, one, or two
module _ (p : Contents) (enough in_range : Bool) where
  pub check_none : {B : Type 0} (b : B)
      → lent enough in_range (gives b) ≡ told (λ ns. b) (checks p [] enough in_range)
  unfolding checks counts
  check_none {B = B} b = go enough in_range
    where
      go : (enough in_range : Bool)
          → lent enough in_range (gives b) ≡ told (λ (ns : List ℕ). b) (lent enough in_range (gives []))
      go true true = refl
      go true false = refl
      go false in_range = refl

  pub check_one : (chart : List ℕ)
      → with (counted p chart) (λ v. lent enough in_range (gives v))
      ≡ told (λ ns. get_or ns 0 0) (checks p (chart ∷ []) enough in_range)
  unfolding checks counts
  check_one chart = go (counted p chart) enough in_range
    where
      go : (y : Reply ℕ) (enough in_range : Bool)
          → with y (λ v. lent enough in_range (gives v))
          ≡ told (λ ns. get_or ns 0 0)
          (with (with y (λ n. with (gives []) (λ ns. gives (n ∷ ns)))) (λ ns. lent enough in_range (gives ns)))
      go (refuses k q) enough in_range = refl
      go (gives n) true true = refl
      go (gives n) true false = refl
      go (gives n) false in_range = refl

  pub check_two : (first second : List ℕ)
      → with (counted p first) (λ n. with (counted p second) (λ m. lent enough in_range (gives (n ∷ m ∷ []))))
      ≡ checks p (first ∷ second ∷ []) enough in_range
  unfolding checks counts
  check_two first second = go (counted p first) (counted p second)
    where
      go : (y z : Reply ℕ)
          → with y (λ n. with z (λ m. lent enough in_range (gives (n ∷ m ∷ []))))
          ≡ with (with y (λ n. with (with z (λ m. with (gives []) (λ ns. gives (m ∷ ns)))) (λ ns. gives (n ∷ ns))))
          (λ ns. lent enough in_range (gives ns))
      go (refuses j o) z = refl
      go (gives n) (refuses j o) = refl
      go (gives n) (gives m) = refl
