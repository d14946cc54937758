-- Effects at a place of the pack, one after the other, and who takes part. Assumes nothing.
use Prim.Native.Nat.{ℕ, suc, ◌+◌, ◌<◌, ◌≤◌}
use mathlib.Core.Path.{◌≡◌, refl, sym, ap, ◌∙◌}
use mathlib.Core.Bool.{Bool, true, false, cond, ◌||◌}
use mathlib.Core.Logic.{◌≢◌}
use mathlib.Core.List.{List, [], ◌∷◌}
use native.Mathlib.Omega.{arith}
use lib.ListN.{length, get_or}
use lib.Dec.{eqb, ltb}
use borrow.Author.Tests.{ne_eqb, ltb-false}
use Rattle.pack.specs.Syntax.{Effect, Node}
use Rattle.pack.specs.State.{meaning}
use Rattle.pack.specs.Reading.{done}
use Rattle.pack.specs.Grammar.{Dimensions, condition_at, effects_at}
use Rattle.pack.specs.Condition.{holds, write}
use Rattle.pack.specs.Duties.Effects.{asks, some_of}
use Rattle.pack.specs.Duties.Judge.{Small, Over, Readable, Judged}
use Rattle.pack.specs.declared.effects.Wanted.TheVariants.{Belief}
use Rattle.pack.specs.Duties.Table.{cells, state_of}
use Rattle.pack.specs.Duties.Write.{Writable, EffectsWritten}
use Rattle.pack.specs.declared.table.Table.{Table}
use Rattle.pack.specs.Laws.WrittenValues.{only_none}
use Rattle.transition.specs.Duties.Cause.{told, EffectsAt, Telling, ToldWritten, Watched, Took}

-- two tests that both fail
neither : (a b : Bool) → (a || b) ≡ false → (a ≡ false) × (b ≡ false)
neither true b e = let z : ◌≡◌ {A = ℕ} 1 0 = ap (λ (b : Bool). cond b 1 0) e in absurd (omega arith)
neither false b e = (refl, e)

-- effects that are not meant for whom write nothing for whom
pub untold_write : (es : List Effect) (whom : ℕ) → told es whom ≡ false → (v : List ℕ) → write whom es v ≡ v
unfolding some_of write
untold_write [] whom e v = refl
untold_write (x ∷ es) whom e v = let (a, b) = neither (eqb x.whom whom) (told es whom) e in rw a (untold_write es whom b v)

-- before the pack's end effects are read
pub effects_there : {pack : List ℕ} {at : ℕ} → at < length pack → Telling pack at → Readable effects_at pack at
effects_there h t = let there = t.stand.some h in record { over = t.dimensions; small = t.small; value = t.effects; end = there.end; reads = there.reads }

-- no effects stand behind the end
pub tell_nothing : (pack : List ℕ) (at whom : ℕ) → length pack ≤ at → (d : Dimensions) → Small d → (es : List Effect) → EffectsAt d pack at es → false ≡ told es whom
unfolding some_of
tell_nothing pack at whom h d small es x = sym (ap (λ (es : List Effect). told es whom) (x.none h))

-- effects of which none is meant for a belief tell nobody anything
pub none_silent : (es : List Effect) → some_of (asks Belief) es ≡ false → (c : ℕ) → told es (suc c) ≡ false
unfolding some_of
none_silent [] e c = refl
none_silent (x ∷ es) e c =
    let (here, rest) = neither (ltb 0 x.whom) (some_of (asks Belief) es) e in
    rw (ne_eqb x.whom (suc c) (λ z. omega (arith, z, ltb-false 0 x.whom here))) (none_silent es rest c)

-- writing them
module _ {pack : List ℕ} {at : ℕ} where
  pub told_writable : (x : Telling pack at) → at < length pack → {work : List ℕ} {row fluents : ℕ} → length x.dimensions.domains ≡ fluents → row + fluents ≤ length work → Writable effects_at pack at work row fluents
  told_writable x h wide room = record { dimensions = x.dimensions; small = x.small; wide = wide; value = x.effects; end = (x.stand.some h).end; reads = (x.stand.some h).reads; inside = room }

  pub told_written : {was now : List ℕ} {whom row fluents : ℕ} → at < length pack → EffectsWritten pack at whom was now row fluents → ToldWritten pack at whom was now row fluents
  told_written h w = record { values = λ d small wide es x. w.values d small wide es (x.some h).end (x.some h).reads; only = w.only }

  pub told-nothing : (was : List ℕ) (whom row fluents : ℕ) → length pack ≤ at → ToldWritten pack at whom was was row fluents
  unfolding write
  told-nothing was whom row fluents h = record { values = λ d small wide es x. sym (ap (λ (es : List Effect). write whom es (cells was row fluents)) (x.none h)); only = only_none was row fluents }

-- who takes part
module _ (pack places work : List ℕ) (observed m c : ℕ) (t : Table) where
  pub took_all : observed ≡ 327 → Took pack places observed work t m c true
  took_all e d table takes s o = sym (o.everyone e (meaning t.characters table m) c)

  pub watched_judged : (w : Watched pack places observed work t m c) → observed ≢ 327 → Judged condition_at pack (get_or places (observed + c) 0) t work m
  watched_judged w ne =
      let g = w.observes.stands ne c w.character in
      record { table = w.stands.fits; there = w.row; dimensions = w.dimensions; over = w.stands.over; value = w.observes.condition ne c w.character; end = g.end; reads = g.reads }

  pub took_judged : {r : Bool} → Watched pack places observed work t m c → observed ≢ 327
      → ((d : Dimensions) → Over d t → (x : Rattle.pack.specs.Syntax.Condition) (n : ℕ) → condition_at d pack (get_or places (observed + c) 0) ≡ done x n → r ≡ holds (state_of t work m) x) → Took pack places observed work t m c r
  took_judged w ne f d table takes s o =
      let g = o.stands ne c w.character in
      f d s.over (o.condition ne c w.character) g.end g.reads
      ∙ ap (λ (l : List Node). holds (meaning t.characters l m) (o.condition ne c w.character)) s.same ∙ sym (o.judged ne c w.character (meaning t.characters table m))
