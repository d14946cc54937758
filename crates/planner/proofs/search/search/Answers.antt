-- The checks, and then the search. Assumes nothing.
use Rattle.std.proofs.Common.{rules, arith, sym, refl, subst, ◌≡◌, Err}
use Rattle.planner.specs.Promises.{Searching}
use Rattle.planner.proofs.SearchCall.{search_unread, search_refused, search_able, search_done, search_sizes, search_ranges}
use Rattle.planner.proofs.search.search.Goals as goal

pub returns-in_err-p : goal.returns-in_err-p
returns-in_err-p c =
    let handed : c.from_residual.result ≡ Err c.in_err-p.field-0.0 = search rules in
    subst (Searching c.args.pack.now c.args.t.0 c.args.k.0 c.args.e.0 c.args.list.now c.args.work.now c.args.list.now c.args.work.now) (sym handed)
    (search_unread c.args.pack.now c.args.t.0 c.args.k.0 c.args.e.0 c.args.list.now c.args.work.now c.in_err-p.field-0.0 c.in_err-p.ensures)

pub returns-in_err-check_lent : goal.returns-in_err-check_lent
returns-in_err-check_lent c =
    let handed : c.from_residual-in_err-check_lent.result ≡ Err c.in_err-check_lent.field-0.0 = search rules in
    subst (Searching c.args.pack.now c.args.t.0 c.args.k.0 c.args.e.0 c.args.list.now c.args.work.now c.args.list.now c.args.work.now) (sym handed)
    (search_refused c.args.pack.now c.args.t.0 c.args.k.0 c.args.e.0 c.args.list.now c.args.work.now c.in_ok-p.ensures c.both_at_most-enough.result c.both_at_most-enough.ensures c.searchable.result c.searchable.ensures c.check_lent.result c.check_lent.ensures c.in_err-check_lent.field-0.0 c.in_err-check_lent.was)

pub overflow_add-t : goal.overflow_add-t
overflow_add-t c =
    let sizes = search_sizes c.args.pack.now c.args.t.0 c.args.k.0 c.args.e.0 c.args.list.now c.args.work.now c.in_ok-p.ensures c.both_at_most-enough.result c.both_at_most-enough.ensures c.searchable.result c.searchable.ensures c.check_lent.result c.check_lent.ensures
    (λ i. omega (arith, c.type_inv.pack i)) (omega (arith, c.read_pack.auto)) c.in_ok-check_lent.was in
    omega (arith, sizes)

pub overflow_add-k : goal.overflow_add-k
overflow_add-k c =
    let ranges = search_ranges c.args.pack.now c.args.t.0 c.args.k.0 c.args.e.0 c.args.list.now c.args.work.now c.in_ok-p.ensures c.both_at_most-enough.result c.both_at_most-enough.ensures c.searchable.result c.searchable.ensures c.check_lent.result c.check_lent.ensures
    (λ i. omega (arith, c.type_inv.pack i)) (omega (arith, c.read_pack.auto)) c.in_ok-check_lent.was in
    omega (arith, ranges)

pub overflow_mul-k : goal.overflow_mul-k
overflow_mul-k c =
    let sizes = search_sizes c.args.pack.now c.args.t.0 c.args.k.0 c.args.e.0 c.args.list.now c.args.work.now c.in_ok-p.ensures c.both_at_most-enough.result c.both_at_most-enough.ensures c.searchable.result c.searchable.ensures c.check_lent.result c.check_lent.ensures
    (λ i. omega (arith, c.type_inv.pack i)) (omega (arith, c.read_pack.auto)) c.in_ok-check_lent.was in
    omega (arith, sizes)

pub overflow_add-t-2 : goal.overflow_add-t-2
overflow_add-t-2 c =
    let sizes = search_sizes c.args.pack.now c.args.t.0 c.args.k.0 c.args.e.0 c.args.list.now c.args.work.now c.in_ok-p.ensures c.both_at_most-enough.result c.both_at_most-enough.ensures c.searchable.result c.searchable.ensures c.check_lent.result c.check_lent.ensures
    (λ i. omega (arith, c.type_inv.pack i)) (omega (arith, c.read_pack.auto)) c.in_ok-check_lent.was in
    omega (arith, sizes)

pub laid_out-context-requires : goal.laid_out-context-requires
laid_out-context-requires c =
    search_sizes c.args.pack.now c.args.t.0 c.args.k.0 c.args.e.0 c.args.list.now c.args.work.now c.in_ok-p.ensures c.both_at_most-enough.result c.both_at_most-enough.ensures c.searchable.result c.searchable.ensures c.check_lent.result c.check_lent.ensures
    (λ i. omega (arith, c.type_inv.pack i)) (omega (arith, c.read_pack.auto)) c.in_ok-check_lent.was

pub search_nodes-requires : goal.search_nodes-requires
search_nodes-requires c =
    search_able c.args.pack.now c.args.t.0 c.args.k.0 c.args.e.0 c.args.list.now c.args.work.now c.in_ok-p.ensures c.both_at_most-enough.result c.both_at_most-enough.ensures c.searchable.result c.searchable.ensures c.check_lent.result c.check_lent.ensures
    (λ i. omega (arith, c.type_inv.pack i)) (omega (arith, c.read_pack.auto)) c.in_ok-check_lent.was _ refl c.laid_out-context.result c.laid_out-context.ensures

pub returns : goal.returns
returns c =
    search_done c.args.pack.now c.args.t.0 c.args.k.0 c.args.e.0 c.args.list.now c.args.work.now c.in_ok-p.ensures c.both_at_most-enough.result c.both_at_most-enough.ensures c.searchable.result c.searchable.ensures c.check_lent.result c.check_lent.ensures
    (λ i. omega (arith, c.type_inv.pack i)) (omega (arith, c.read_pack.auto)) c.in_ok-check_lent.was _ refl c.laid_out-context.result c.laid_out-context.ensures _ _ _ c.search_nodes.ensures
