-- What a test, an alternative and a condition say of a state, from their bytes and the table's. Assumes nothing.
use Prim.Native.Nat.{ℕ, zero, suc, ◌+◌, ◌*◌, ◌-◌, ◌<◌, ◌≤◌}
use Rattle.std.specs.Prelude.{◌≡◌, refl, Bool, true, false, length}
use Rattle.std.proofs.Common.{sym, ◌∙◌, sub-one, arith}
use Rattle.std.proofs.Math.Path.{ap, subst}
use mathlib.Core.List.{List, [], ◌∷◌}
use Rattle.std.proofs.Math.ListN.{get_or}
use Rattle.pack.specs.Syntax.{Kind, Test, Rule}
use Rattle.pack.specs.Reading.{done, Reader, mapped, runs, many}
use Rattle.pack.specs.Number.{number_at, between, counted}
use Rattle.pack.specs.Grammar.{Dimensions, kind_of, test_at, condition_at, rule_at}
use Rattle.pack.specs.Condition.{compares, passes, all_pass, holds, utility}
use Rattle.pack.specs.State.{State, node, walk, Valid}
use Rattle.pack.specs.Duties.Table.{table_of, state_of, bytes_at}
use Rattle.pack.specs.Duties.Judge.{Over}
use Rattle.pack.specs.declared.table.Table.{Table}
use Rattle.pack.specs.Laws.Reading.{same_value, same_place, both, unmapped}
use Rattle.pack.specs.Laws.Table.{finds_walk}
use Rattle.pack.specs.Laws.Rows.{value-at}
use Rattle.pack.specs.Laws.OneByte.{test_bytes_lem, between_byte}

-- a test holds as its bytes compare: the kind at m, the fluent's value where the chain leads, and the value at m + 2
module _ (t : Table) (buffer : List ℕ) (root : ℕ) (d : Dimensions) (over : Over d t) (s : List ℕ) (at : ℕ) (x : Test)
    (n : ℕ) (e : test_at d s at ≡ done x n) where
  abbrev Compared : ℕ → ℕ → Bool
  Compared there m =
      compares (kind_of (get_or s m 0)) (get_or buffer ((t.rows + there * t.width) + get_or s (m + 1) 0) 0)
      (get_or s (m + 2) 0)

  pub passes_by : (k there : ℕ) → get_or s at 0 ≡ k → there ≡ walk (table_of t buffer) root (bytes_at s (at + 1) k)
      → there < t.nodes
      → passes (state_of t buffer root) x ≡ Compared there ((at + 1) + k)
  unfolding passes
  passes_by k there q w l =
      subst (λ (k : ℕ). there ≡ walk (table_of t buffer) root (bytes_at s (at + 1) k)
      → passes (state_of t buffer root) x ≡ Compared there ((at + 1) + k)) q here w
    where
      here : there ≡ walk (table_of t buffer) root (bytes_at s (at + 1) (get_or s at 0))
          → passes (state_of t buffer root) x ≡ Compared there ((at + 1) + get_or s at 0)
      here w =
          let b = test_bytes_lem d over.small s at x n e in
          let T = table_of t buffer in
          let m = (at + 1) + get_or s at 0 in
          let ch = bytes_at s (at + 1) (get_or s at 0) in
          let valid : Valid t.characters ch = subst (λ (c : ℕ). Valid c ch) over.characters b.valid in
          let found : state_of t buffer root x.chain ≡ (node T there).values = ap (state_of t buffer root) b.chain
          ∙ finds_walk t.characters T ch root valid ∙ ap (λ (j : ℕ). (node T j).values) (sym w) in
          let f = get_or s (m + 1) 0 in
          let below : f < t.fluents = (let p = b.below in let q = over.fluents in omega arith) in
          let cell : get_or (state_of t buffer root x.chain) x.fluent 0
          ≡ get_or buffer ((t.rows + there * t.width) + f) 0
          = ap (λ (v : List ℕ). get_or v x.fluent 0) found
          ∙ ap (λ (i : ℕ). get_or (node T there).values i 0) b.fluent ∙ value-at t buffer there f l below in
          ap (λ (k : Kind). compares k (get_or (state_of t buffer root x.chain) x.fluent 0) x.value) b.kind
          ∙ ap (λ (v : ℕ). compares (kind_of (get_or s m 0)) v x.value) cell
          ∙ ap (λ (v : ℕ). compares (kind_of (get_or s m 0)) (get_or buffer ((t.rows + there * t.width) + f) 0) v)
          b.value

-- what is left of a run, from n on, tells of the whole by f
pub record Left {A B : Type 0} (p : Reader A) (s : List ℕ) (n left : ℕ) (f : List A → B) (xs : List A)
    (end : ℕ) : Type 0 where
  pub rest : List A
  pub reads : many p left s n ≡ done rest end
  pub same : f xs ≡ f rest

-- the next of what is left
pub record Next {A B : Type 0} (p : Reader A) (s : List ℕ) (n left : ℕ) (f : List A → B) (xs : List A)
    (end : ℕ) : Type 0 where
  pub item : A
  pub place : ℕ
  pub rest : List A
  pub here : p s n ≡ done item place
  pub more : many p (left - 1) s place ≡ done rest end
  pub same : f xs ≡ f (item ∷ rest)

module _ {A B : Type 0} (p : Reader A) (s : List ℕ) (f : List A → B) (xs : List A) (end : ℕ) where
  pub left_start : (k n : ℕ) → many p k s n ≡ done xs end → Left p s n k f xs end
  left_start k n e = record { rest = xs; reads = e; same = refl }

  pub left_one : (n left : ℕ) → Left p s n left f xs end → 0 < left → Next p s n left f xs end
  unfolding runs
  left_one n zero l h = absurd (omega arith)
  left_one n (suc left) l h =
      let b = both (p s n) (λ a n. mapped (λ rest. a ∷ rest) (many p left s n)) l.rest end l.reads in
      let u = unmapped (λ rest. b.value ∷ rest) (many p left s b.place) l.rest end b.right in
      record {
        item = b.value;
        place = b.place;
        rest = u.value;
        here = b.left;
        more = ap (λ (k : ℕ). many p k s b.place) (sub-one (suc left)) ∙ u.left;
        same = l.same ∙ ap f (sym u.right);
      }

  pub left_next : (n left : ℕ) (x : Next p s n left f xs end) (m : ℕ) → x.place ≡ m
      → f (x.item ∷ x.rest) ≡ f x.rest → Left p s m (left - 1) f xs end
  left_next n left x m e g =
      record { rest = x.rest; reads = ap (many p (left - 1) s) (sym e) ∙ x.more; same = x.same ∙ g }

  -- the same, counted up: behind thing i of count things are those from i + 1 on
  pub left_after : (n i count : ℕ) (x : Next p s n (count - i) f xs end) (m : ℕ) → x.place ≡ m
      → f (x.item ∷ x.rest) ≡ f x.rest → Left p s m (count - (i + 1)) f xs end
  left_after n i count x m e g =
      let less : (count - i) - 1 ≡ count - (i + 1) = omega arith in
      subst (λ (k : ℕ). Left p s m k f xs end) less (left_next n (count - i) x m e g)

  pub left_none : (n left : ℕ) → Left p s n left f xs end → left ≤ 0 → f xs ≡ f []
  unfolding runs
  left_none n zero l h = l.same ∙ ap f (sym (same_value l.reads))
  left_none n (suc left) l h = absurd (omega arith)

  -- the last of what is left tells nothing
  pub left_last : (n left : ℕ) (x : Next p s n left f xs end) → left ≤ 1 → f (x.item ∷ x.rest) ≡ f x.rest
      → f xs ≡ f []
  left_last n left x h g = left_none x.place (left - 1) (left_next n left x x.place refl g) (omega arith)

  pub left_end : (n left : ℕ) → Left p s n left f xs end → left ≤ 0 → n ≡ end
  unfolding runs
  left_end n zero l h = same_place l.reads
  left_end n (suc left) l h = absurd (omega arith)

-- a counted run begins one byte after its count
pub counted_starts : {A : Type 0} (limit : ℕ) (p : Reader A) (s : List ℕ) (at : ℕ) (xs : List A) (end : ℕ) → limit ≤ 128
    → counted 0 limit p s at ≡ done xs end
    → (k : ℕ) → get_or s at 0 ≡ k → (many p k s (at + 1) ≡ done xs end) × (at < length s)
counted_starts limit p s at xs end h e k q =
    let b = both (between 0 limit 3 s at) (λ k n. many p k s n) xs end e in
    let o = between_byte 0 limit 3 s at b.value b.place h b.left in (
      ap (λ (v : ℕ). many p v s (at + 1)) (sym q ∙ o.value) ∙ ap (many p b.value s) (sym o.next) ∙ b.right,
      o.inside,
    )

-- before its first thing all of a counted run is left
pub counted_left : {A B : Type 0} (limit : ℕ) (p : Reader A) (s : List ℕ) (at : ℕ) (f : List A → B) (xs : List A)
    (end : ℕ) → limit ≤ 128 → counted 0 limit p s at ≡ done xs end
    → Left p s (at + 1) (get_or s at 0 - 0) f xs end
counted_left limit p s at f xs end h e =
    let all : get_or s at 0 ≡ get_or s at 0 - 0 = omega arith in
    left_start p s f xs end _ _ (counted_starts limit p s at xs end h e _ all).0

-- one test more
pub all_next : (σ : State) (x : Test) (rest : List Test) → passes σ x ≡ true → all_pass σ (x ∷ rest) ≡ all_pass σ rest
unfolding all_pass
all_next σ x rest e = rw e

pub all_fails : (σ : State) (x : Test) (rest : List Test) → passes σ x ≡ false → all_pass σ (x ∷ rest) ≡ false
unfolding all_pass
all_fails σ x rest e = rw e

pub all_none : (σ : State) → all_pass σ [] ≡ true
unfolding all_pass
all_none σ = refl

-- one alternative more
pub some_next : (σ : State) (ts : List Test) (rest : List (List Test)) → all_pass σ ts ≡ false
    → holds σ (ts ∷ rest) ≡ holds σ rest
unfolding holds
some_next σ ts rest e = rw e

pub some_holds : (σ : State) (ts : List Test) (rest : List (List Test)) → all_pass σ ts ≡ true
    → holds σ (ts ∷ rest) ≡ true
unfolding holds
some_holds σ ts rest e = rw e

pub some_none : (σ : State) → holds σ [] ≡ false
unfolding holds
some_none σ = refl

-- a rule: its condition, and its number behind it
pub record RuleParts (d : Dimensions) (s : List ℕ) (n : ℕ) (x : Rule) (m : ℕ) : Type 0 where
  pub middle : ℕ
  pub condition : condition_at d s n ≡ done x.condition middle
  pub number : number_at s middle ≡ done x.utility m

pub rule_parts : (d : Dimensions) (s : List ℕ) (n : ℕ) (x : Rule) (m : ℕ) → rule_at d s n ≡ done x m
    → RuleParts d s n x m
unfolding rule_at
rule_parts d s n x m e =
    let b = both (condition_at d s n) _ x m e in
    let u = unmapped (λ utility. record { condition = b.value; utility = utility }) (number_at s b.place) x m
    b.right in
    record {
      middle = b.place;
      condition = b.left ∙ ap (λ (y : Rule). done y.condition b.place) u.right;
      number = u.left ∙ ap (λ (y : Rule). done y.utility m) u.right;
    }

pub rule_holds : (σ : State) (x : Rule) (rest : List Rule) → holds σ x.condition ≡ true
    → utility σ (x ∷ rest) ≡ x.utility
unfolding utility
rule_holds σ x rest e = rw e

pub rule_next : (σ : State) (x : Rule) (rest : List Rule) → holds σ x.condition ≡ false
    → utility σ (x ∷ rest) ≡ utility σ rest
unfolding utility
rule_next σ x rest e = rw e

pub rule_none : (σ : State) → utility σ [] ≡ 0
unfolding utility
rule_none σ = refl
