-- Where what is left leads from `there` is where the whole leads. Assumes nothing.
use native.Mathlib.Omega.{arith}
use Prim.Native.Nat.{ℕ, ◌+◌, ◌-◌, ◌<◌, ◌≤◌}
use mathlib.Core.Path.{◌≡◌, sym, ap, ◌∙◌}
use mathlib.Core.List.{List}
use lib.ListN.{get_or}
use Rattle.std.proofs.Common.{subst}
use Rattle.pack.specs.State.{walk, target, Valid}
use Rattle.pack.specs.Syntax.{Node}
use Rattle.pack.specs.Duties.Table.{table_of, bytes_at}
use Rattle.pack.specs.Laws.OneByte.{bytes_one, bytes_none, valid_first, valid_rest}
use Rattle.pack.proofs.Slices.{part_long, part_at}
use Rattle.pack.proofs.table.follow.Goals as goal

-- the bytes that are left behind the first of those that are left
rest : (s : List ℕ) (at i n : ℕ) → bytes_at s ((at + i) + 1) ((n - i) - 1) ≡ bytes_at s (at + (i + 1)) (n - (i + 1))
rest s at i n =
    let a : (at + i) + 1 ≡ at + (i + 1) = omega arith in
    let b : (n - i) - 1 ≡ n - (i + 1) = omega arith in
    ap (λ (k : ℕ). bytes_at s k ((n - i) - 1)) a ∙ ap (bytes_at s (at + (i + 1))) b

-- a walk goes on from the node that is believed
one : (T : List Node) (s : List ℕ) (at i n there : ℕ) → i < n
    → walk T there (bytes_at s (at + i) (n - i)) ≡ walk T (target T there (get_or s (at + i) 0)) (bytes_at s (at + (i + 1)) (n - (i + 1)))
unfolding walk
one T s at i n there h =
    ap (walk T there) (bytes_one s (at + i) (n - i) (omega arith)) ∙ ap (walk T (target T there (get_or s (at + i) 0))) (rest s at i n)

pub loop-c-init : goal.loop-c-init
loop-c-init c =
    let a : c.args.at ≡ c.args.at + 0 = omega arith in
    let b : c.args.count ≡ c.args.count - 0 = omega arith in
    let same = ap (λ (k : ℕ). bytes_at c.args.s.now k c.args.count) a ∙ ap (bytes_at c.args.s.now (c.args.at + 0)) b in
    record {
      same = ap (walk (table_of c.args.t c.args.buffer.now) c.args.node) same;
      near = c.requires.1;
      valid = subst (Valid c.args.t.characters) same c.requires.3;
    }

pub belief-there-requires : goal.belief-there-requires
belief-there-requires c =
    let i : c.loop-c.c-index < c.args.count = omega (arith, part_long c.args.s.now c.args.at c.args.count c.requires.2) in
    let e = c.from.ensures ∙ part_at c.args.s.now c.args.at c.args.count c.loop-c.c-index i in
    let v = valid_first c.args.t.characters c.args.s.now (c.args.at + c.loop-c.c-index) (c.args.count - c.loop-c.c-index) (omega arith) c.loop-c.invariant.valid in
    (c.requires.0, c.loop-c.invariant.near, omega (arith, e, v))

pub loop-c-preserved : goal.loop-c-preserved
loop-c-preserved c =
    let T = table_of c.args.t c.args.buffer.now in
    let i : c.loop-c.c-index < c.args.count = omega (arith, part_long c.args.s.now c.args.at c.args.count c.requires.2) in
    let e = c.from.ensures ∙ part_at c.args.s.now c.args.at c.args.count c.loop-c.c-index i in
    let next = c.belief-there.ensures.0 ∙ ap (target T c.loop-c.there) e in
    record {
      same = c.loop-c.invariant.same ∙ one T c.args.s.now c.args.at c.loop-c.c-index c.args.count c.loop-c.there i
          ∙ ap (λ (j : ℕ). walk T j (bytes_at c.args.s.now (c.args.at + (c.loop-c.c-index + 1)) (c.args.count - (c.loop-c.c-index + 1)))) (sym next);
      near = c.belief-there.ensures.1;
      valid = subst (Valid c.args.t.characters) (rest c.args.s.now c.args.at c.loop-c.c-index c.args.count)
          (valid_rest c.args.t.characters c.args.s.now (c.args.at + c.loop-c.c-index) (c.args.count - c.loop-c.c-index) (omega arith) c.loop-c.invariant.valid);
    }

pub returns : goal.returns
unfolding walk
returns c =
    let none : c.args.count - c.loop-c.c-index ≤ 0 = omega (arith, part_long c.args.s.now c.args.at c.args.count c.requires.2) in
    (sym (c.loop-c.invariant.same ∙ ap (walk (table_of c.args.t c.args.buffer.now) c.loop-c.there) (bytes_none c.args.s.now (c.args.at + c.loop-c.c-index) (c.args.count - c.loop-c.c-index) none)), c.loop-c.invariant.near)
