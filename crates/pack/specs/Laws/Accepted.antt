-- What an accepted pack, a chart and a copied table give the functions that judge and write in place. Assumes nothing.
use Rattle.std.specs.Prelude.{ℕ, zero, suc, ◌+◌, ◌*◌, ◌-◌, ◌<◌, ◌≤◌, ◌≡◌, refl, Bool, true, false, List, ◌∷◌, length}
use Rattle.std.specs.Prelude.{get_or, ltb, leb, eqb}
use Rattle.std.proofs.Common.{sym, ap, ◌∙◌, subst, add-zero, zero-mul, suc-mul, arith, leb-true}
use Rattle.std.proofs.Math.Logic.{by_cases}
use Rattle.std.proofs.Math.Decide.{dec_lt}
use Rattle.std.proofs.Math.ListN.{get_or-eq_default}
use Rattle.std.proofs.lemmas.Bool.{eqb-false}
use Rattle.pack.specs.Syntax.{Node, Theory, Pack}
use Rattle.pack.specs.Reading.{done, refused, Reader, pick, mapped, runs}
use Rattle.pack.specs.Reading.{many, Reply, gives, refuses, told, whole}
use Rattle.pack.specs.Number.{number_at, between, counted, belief_at}
use Rattle.pack.specs.Grammar.{Dimensions, dimensions, head_at, value_at, node_at}
use Rattle.pack.specs.Grammar.{nodes_at, theory_at, pack_at, pack_of, chart_of, in_chart}
use Rattle.pack.specs.State.{Closed, nowhere}
use Rattle.pack.specs.Duties.Answer.{dims}
use Rattle.pack.specs.Duties.Contents.{Gives, PackFound, body_at}
use Rattle.pack.specs.Duties.Table.{table_of, TableFits}
use Rattle.pack.specs.Duties.Judge.{Small}
use Rattle.pack.specs.Duties.Copy.{Shaped, TableCopied}
use Rattle.pack.specs.declared.contents.Contents.{Contents}
use Rattle.pack.specs.declared.table.Table.{Table}
use Rattle.pack.specs.Laws.Reading.{never_gives, ended_gives, same_value, same_place}
use Rattle.pack.specs.Laws.Reading.{same_gift, both, unmapped, passed, failed}
use Rattle.pack.specs.Laws.Number.{between_within}
use Rattle.pack.specs.Laws.OneByte.{between_byte}
use Rattle.pack.specs.Laws.CopiedRows.{node_bytes_lem}
use Rattle.pack.specs.Laws.PartsFound.{many-length, parts_body, theory_dims}

-- each of k things has what its reader gives it
pub many_each : {A : Type 0} (p : Reader A) (P : A → Type 0) (s : List ℕ)
    → ((at : ℕ) (a : A) (n : ℕ) → p s at ≡ done a n → P a)
    → (k at : ℕ) (xs : List A) (n : ℕ) → many p k s at ≡ done xs n → (x : A) (i : ℕ) → i < k → P (get_or xs i x)
unfolding runs
many_each p P s h zero at xs n e x i l = absurd (omega arith)
many_each {A = A} p P s h (suc k) at xs n e x zero l =
    let b = both (p s at) (λ a n. mapped (λ rest. a ∷ rest) (many p k s n)) xs n e in
    let u = unmapped (λ rest. b.value ∷ rest) (many p k s b.place) xs n b.right in
    subst (λ (l : List A). P (get_or l 0 x)) u.right (h at b.value b.place b.left)
many_each {A = A} p P s h (suc k) at xs n e x (suc i) l =
    let b = both (p s at) (λ a n. mapped (λ rest. a ∷ rest) (many p k s n)) xs n e in
    let u = unmapped (λ rest. b.value ∷ rest) (many p k s b.place) xs n b.right in
    subst (λ (l : List A). P (get_or l (suc i) x)) u.right
    (many_each p P s h k b.place u.value n u.left x i (omega arith))

-- a head has small dimensions
head_small : (s : List ℕ) (at : ℕ) (d : Dimensions) (n : ℕ) → head_at s at ≡ done d n → Small d
unfolding head_at
head_small s at d n e =
    let b0 = both (between 1 2 3 s at) _ d n e in
    let b1 = both (between 1 7 3 s b0.place) _ d n b0.right in
    let w1 = between_within 1 7 3 s b0.place b1.value b1.place b1.left in
    let u = unmapped (λ domains. record { characters = b1.value; domains = domains })
    (counted 1 25 (between 1 129 3) s b1.place) d n b1.right in
    let b2 = both (between 1 25 3 s b1.place) (λ k n. many (between 1 129 3) k s n) u.value n u.left in
    let w2 = between_within 1 25 3 s b1.place b2.value b2.place b2.left in
    let long = many-length (between 1 129 3) b2.value s b2.place u.value n b2.right in
    let sizes : (f : ℕ) → f < b2.value
    → get_or u.value f 0 ≤ 128 = λ f l.
    many_each (between 1 129 3) (λ v. v ≤ 128) s
    (λ at v n e. let w = between_within 1 129 3 s at v n e in let h = w.1 in omega arith) b2.value b2.place
    u.value n b2.right 0 f l in
    subst Small u.right (record {
      characters = let h = w1.1 in omega arith;
      fluents = let h = w2.1 in omega arith;
      sizes = λ f.
          by_cases (dec_lt f b2.value) (λ l. sizes f l)
          (λ g. let z : get_or u.value f 0 ≡ 0 = get_or-eq_default u.value 0 {n = f} (omega arith) in
          omega arith);
    })

-- an accepted pack has small dimensions
pub small_pack : (s : List ℕ) (p : Pack) → pack_of s ≡ gives p
    → Small (dims p.theory.characters p.theory.domains)
unfolding pack_of body_at
small_pack s p e = go (ltb 8192 (length s)) e
  where
    go : (t : Bool) → pick t (refuses 3 0) (whole pack_at s) ≡ gives p
        → Small (dims p.theory.characters p.theory.domains)
    go true e = never_gives e
    go false e =
        let n = length s in
        let b = both (head_at s 0) (λ d n. body_at d s n) p n
        (sym (parts_body s 0) ∙ ended_gives n (pack_at s 0) p e) in
        let b0 = both (nodes_at b.value s b.place)
        (λ nodes n. mapped (λ theory. record { theory = theory; nodes = nodes }) (theory_at b.value s n)) p n
        b.right in
        let u = unmapped (λ theory. record { theory = theory; nodes = b0.value })
        (theory_at b.value s b0.place) p n b0.right in
        subst (λ (x : Pack). Small (dims x.theory.characters x.theory.domains)) u.right
        (subst Small (sym (theory_dims b.value s b0.place u.value n u.left))
        (head_small s 0 b.value b.place b.left))

-- what is said to be read was read
pub record Given {A B : Type 0} (g : A → B) (x : Reply A) (b : B) : Type 0 where
  pub value : A
  pub gives : x ≡ gives value
  pub told : g value ≡ b

pub given : {A B : Type 0} (g : A → B) (x : Reply A) (b : B) → told g x ≡ gives b → Given g x b
given g (gives a) b e = record { value = a; gives = refl; told = same_gift e }
given g (refuses k p) b e = never_gives e

-- the nodes begin one byte after their count
pub nodes_first : (d : Dimensions) (s : List ℕ) (at : ℕ) (t : List Node) (n : ℕ) → nodes_at d s at ≡ done t n
    → (many (node_at d (length t)) (length t) s (at + 1) ≡ done t n) × (length t ≤ 32) × (get_or s at 0 ≡ length t)
unfolding nodes_at
nodes_first d s at t n e =
    let b = both (between 1 33 3 s at) (λ k n. many (node_at d k) k s n) t n e in
    let o = between_byte 1 33 3 s at b.value b.place (omega arith) b.left in
    let w = between_within 1 33 3 s at b.value b.place b.left in
    let long = many-length (node_at d b.value) b.value s b.place t n b.right in (
      ap (λ (k : ℕ). many (node_at d k) k s (at + 1)) long ∙ ap (many (node_at d b.value) b.value s) (sym o.next)
          ∙ b.right,
      (let h = w.1 in omega arith),
      o.value ∙ sym long,
    )

-- a chart's nodes are read from its first byte to its last
pub chart_nodes : (p : Theory) (s : List ℕ) (t : List Node) → chart_of p s ≡ gives t
    → nodes_at (dimensions p) s 0 ≡ done t (length s)
unfolding chart_of
chart_nodes p s t e = ended_gives (length s) (nodes_at (dimensions p) s 0) t
    (plain (whole (nodes_at (dimensions p)) s) e)
  where
    plain : (x : Reply (List Node)) → in_chart x ≡ gives t → x ≡ gives t
    plain (gives u) e = e
    plain (refuses k n) e = never_gives e

-- every number of a node is one byte, so row j begins j rows after the first
pub rows_stand : (d : Dimensions) (F C : ℕ) → Shaped d F C → (nodes : ℕ) → nodes ≤ 32
    → (s : List ℕ) (k j at : ℕ) (t : List Node) (n : ℕ) (x : Node)
    → many (node_at d nodes) k s at ≡ done t n → j < k → Gives (node_at d nodes) s (at + j * (F + C)) (get_or t j x)
unfolding runs
rows_stand d F C shaped nodes few s zero j at t n x e h = absurd (omega arith)
rows_stand d F C shaped nodes few s (suc k) zero at t n x e h =
    let b = both (node_at d nodes s at) (λ a n. mapped (λ rest. a ∷ rest) (many (node_at d nodes) k s n)) t n e in
    let u = unmapped (λ rest. b.value ∷ rest) (many (node_at d nodes) k s b.place) t n b.right in
    let here : at + zero * (F + C) ≡ at = ap (λ (m : ℕ). at + m) (zero-mul (F + C)) ∙ add-zero at in
    record {
      end = b.place;
      reads = ap (node_at d nodes s) here ∙ b.left ∙ ap (λ (l : List Node). done (get_or l 0 x) b.place) u.right;
    }
rows_stand d F C shaped nodes few s (suc k) (suc j) at t n x e h =
    let b = both (node_at d nodes s at) (λ a n. mapped (λ rest. a ∷ rest) (many (node_at d nodes) k s n)) t n e in
    let u = unmapped (λ rest. b.value ∷ rest) (many (node_at d nodes) k s b.place) t n b.right in
    let nb = node_bytes_lem d F C shaped nodes few s at b.value b.place b.left in
    let r = rows_stand d F C shaped nodes few s k j b.place u.value n x u.left (omega arith) in
    let here : b.place + j * (F + C)
    ≡ at + suc j * (F + C) = (let q = nb.beliefs.ends in let m = suc-mul j (F + C) in omega arith) in
    subst (λ (m : ℕ). Gives (node_at d nodes) s m (get_or t (suc j) x)) here
    (subst (Gives (node_at d nodes) s (b.place + j * (F + C))) (ap (λ (l : List Node). get_or l (suc j) x) u.right) r)

-- and k rows end k rows after the first
pub rows_end : (d : Dimensions) (F C : ℕ) → Shaped d F C → (nodes : ℕ) → nodes ≤ 32
    → (s : List ℕ) (k at : ℕ) (t : List Node) (n : ℕ) → many (node_at d nodes) k s at ≡ done t n → n ≡ at + k * (F + C)
unfolding runs
rows_end d F C shaped nodes few s zero at t n e = omega (arith, same_place e, zero-mul (F + C))
rows_end d F C shaped nodes few s (suc k) at t n e =
    let b = both (node_at d nodes s at) (λ a n. mapped (λ rest. a ∷ rest) (many (node_at d nodes) k s n)) t n e in
    let u = unmapped (λ rest. b.value ∷ rest) (many (node_at d nodes) k s b.place) t n b.right in
    omega (
      arith,
      (node_bytes_lem d F C shaped nodes few s at b.value b.place b.left).beliefs.ends,
      rows_end d F C shaped nodes few s k b.place u.value n u.left,
      suc-mul k (F + C),
    )

-- nodes that are read believe in nodes that are read
belief_below : (nodes : ℕ) (s : List ℕ) (at b n : ℕ) → belief_at nodes s at ≡ done b n → b < nodes
unfolding belief_at
belief_below nodes s at b n e =
    let x = both (number_at s at)
    (λ v n. pick (eqb v 0) (refused 5 at) (pick (leb v nodes) (done (v - 1) n) (refused 4 at))) b n e in
    let v = x.value in
    let (blank, rest) = failed (eqb v 0) 5 at (pick (leb v nodes) (done (v - 1) x.place) (refused 4 at)) b n
    x.right in
    let (there, given) = passed (leb v nodes) 4 at (done (v - 1) x.place) b n rest in
    omega (arith, eqb-false v 0 blank, leb-true v nodes there, same_value given)

node_closed : (d : Dimensions) (nodes : ℕ) (s : List ℕ) (at : ℕ) (x : Node) (n : ℕ) → node_at d nodes s at ≡ done x n
    → (c : ℕ) → c < d.characters → get_or x.beliefs c 0 < nodes
unfolding node_at
node_closed d nodes s at x n e c h =
    let b = both (runs (value_at d) (λ f v. f + 1) 0 (length d.domains) s at) _ x n e in
    let u = unmapped (λ beliefs. record { values = b.value; beliefs = beliefs })
    (many (belief_at nodes) d.characters s b.place) x n b.right in
    subst (λ (y : Node). get_or y.beliefs c 0 < nodes) u.right
    (many_each (belief_at nodes) (λ b. b < nodes) s (λ at a n e. belief_below nodes s at a n e) d.characters
    b.place u.value n u.left 0 c h)

pub nodes_closed : (d : Dimensions) (nodes : ℕ) (s : List ℕ) (at : ℕ) (t : List Node) (n : ℕ)
    → many (node_at d nodes) nodes s at ≡ done t n → Closed d.characters t
nodes_closed d nodes s at t n e i c h g =
    let long = many-length (node_at d nodes) nodes s at t n e in
    let below = many_each (node_at d nodes) (λ x. (c : ℕ) → c < d.characters → get_or x.beliefs c 0 < nodes) s
    (λ at x n e. node_closed d nodes s at x n e) nodes at t n e nowhere i (omega arith) c g in
    omega arith

-- a copied table is a table, and its nodes are those that were read
module _ (s : List ℕ) (at nodes : ℕ) (was now : List ℕ) (base F C : ℕ) (c : TableCopied s at nodes was now base F C)
    (d : Dimensions) (shaped : Shaped d F C) (t : List Node) (n : ℕ)
    (e : many (node_at d nodes) nodes s at ≡ done t n) where
  abbrev pub copied : Table
  copied = record { rows = base + 1; nodes = nodes; fluents = F; characters = C; width = F + C }

  pub copied_nodes : table_of copied now ≡ t
  copied_nodes = c.table d shaped t n e

  pub copied_fits : (base + 1) + nodes * (F + C) ≤ length was → TableFits copied now
  copied_fits room = record {
    wide = refl;
    inside = let l = c.long in omega arith;
    closed = subst (Closed C) (sym copied_nodes)
        (subst (λ (k : ℕ). Closed k t) shaped.characters (nodes_closed d nodes s at t n e));
  }

-- the nodes of an accepted pack are rows of so many values and beliefs
pub pack_shaped : (s places : List ℕ) (p : Pack) (r : Contents) → pack_of s ≡ gives p → PackFound s places p r
    → Shaped (dims p.theory.characters p.theory.domains) r.domains.fluents r.characters
pack_shaped s places p r e f = record { small = small_pack s p e; fluents = f.fluents; characters = f.characters }
