-- Two bytes are written: the link, and then the head. Assumes nothing.
use Prim.Native.Nat.{◌+◌}
use mathlib.Core.Path.{◌∙◌}
use native.Mathlib.Omega.{arith}
use lib.ListN.{get_or, set, length-set}
use lib.Seq.{get_or-set_same, get_or-set_other}
use Rattle.planner.specs.Inner.Memory.{links_at}
use Rattle.planner.proofs.intern.link.Goals as goal

pub bounds-work-at-2 : goal.bounds-work-at-2
bounds-work-at-2 c =
    omega (arith, c.requires, length-set c.args.work.now (links_at c.args.p + c.args.id) (get_or c.args.work.now c.args.at 0))

pub returns : goal.returns
returns c =
    let at = links_at c.args.p + c.args.id in
    let v = get_or c.args.work.now c.args.at 0 in
    let mid = set c.args.work.now at v in
    record {
      head = get_or-set_same mid c.args.at c.args.id 0 (omega (arith, c.requires, length-set c.args.work.now at v));
      link = get_or-set_other mid c.args.at at c.args.id 0 (λ z. omega (arith, z, c.requires)) ∙ get_or-set_same c.args.work.now at v 0 (omega (arith, c.requires));
      others = λ q m n. get_or-set_other mid c.args.at q c.args.id 0 m ∙ get_or-set_other c.args.work.now at q v 0 n;
    }
