-- A table is compared with the one that is kept: its count, and then all its bytes. Assumes nothing.
use Prim.Native.Nat.{ℕ, ◌+◌, ◌*◌, ◌-◌}
use mathlib.Core.Path.{◌≡◌, sym, ap, ◌∙◌}
use native.Mathlib.Omega.{arith}
use lib.ListN.{get_or}
use Rattle.planner.specs.Inner.Memory.{kept_at}
use Rattle.planner.proofs.SameBytes.{named_bytes}
use Rattle.planner.proofs.TrueMemory.{unset, kept_as}
use Rattle.planner.proofs.intern.has_id.Goals as goal

pub returns-then-p-from : goal.returns-then-p-from
returns-then-p-from c =
    let wide : c.args.p.fluents + c.args.p.characters ≡ c.args.t.width = ap (λ (f : ℕ). f + c.args.p.characters) c.requires.0.fluents ∙ ap (λ (n : ℕ). c.args.t.fluents + n) c.requires.0.characters ∙ c.requires.0.wide in
    (unset, λ e x. omega (arith, x.inside.inside, ap (λ (k : ℕ). k * (c.args.p.fluents + c.args.p.characters)) x.count, ap (λ (k : ℕ). c.args.t.nodes * k) wide, c.if-p-from.true, ap (λ (k : ℕ). c.args.p.block * k) c.from.ensures, c.requires.0.laid.room))

pub returns : goal.returns
returns c =
    let here : c.args.p.tables - c.args.p.block + c.args.p.block * c.args.id ≡ kept_at c.args.p c.args.id = ap (λ (x : ℕ). x - c.args.p.block + c.args.p.block * c.args.id) c.requires.0.laid.tabled in
    let count = ap (λ (q : ℕ). get_or c.args.work.now q 0) here in
    let byte : (q : ℕ) → get_or c.args.work.now (c.args.p.tables - c.args.p.block + c.args.p.block * c.args.id + 1 + q) 0 ≡ get_or c.args.work.now (kept_at c.args.p c.args.id + 1 + q) 0 = λ q. ap (λ (x : ℕ). get_or c.args.work.now (x + 1 + q) 0) here in (
      λ e. kept_as c.args.p c.requires.0 c.args.id (omega (arith, c.if-id-eq0.false)) (omega (arith, c.if-p-from.false, ap (λ (k : ℕ). c.args.p.block * k) c.from.ensures)) (omega (arith, count, c.from-2.ensures, c.if-from-t.false))
          (λ q l. sym (byte q) ∙ sym (c.same_part.ensures.0 e q l)),
      λ e x. unset (sym e ∙ c.same_part.ensures.1 (λ q l. named_bytes c.args.p c.args.id c.requires.0 x.count x.same q l ∙ sym (byte q))),
    )
