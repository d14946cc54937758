-- The start laid out, the search from it, and all cleared. Assumes nothing.
use mathlib.Core.Path.{◌≡◌, ◌∙◌, sym, ap, subst}
use Rattle.std.proofs.Common.{rules, Option, Err, ok_or}
use mathlib.Core.List.{List}
use native.Mathlib.Omega.{arith}
use lib.ListN.{get_or}
use Rattle.pack.specs.Syntax.{Theory, Node}
use Rattle.pack.specs.State.{meaning}
use Rattle.planner.specs.Ending.{author_utility}
use Rattle.planner.proofs.Explanations.{rules_in, utility_in}
use Rattle.pack.specs.declared.refusal.Refusal.TheVariants.{NoEnding}
use Rattle.planner.specs.declared.search.Ended.{Ended}
use Rattle.planner.specs.Inner.Search.{Seeking, SearchPut}
use Rattle.planner.proofs.EarliestList.{author_rules, author-utility}
use Rattle.planner.proofs.SearchCall.{seek_laying, seek_table, seek_slot, seek_memory, seek_base, seek_from, seek_same, seek_none, seek_found}
use Rattle.planner.proofs.search.search_nodes.Goals as goal
use Rattle.planner.proofs.search.search_nodes.Goals.{After-utility-base}

-- the number of the rule that holds is the author's utility at the start
worth : (c : After-utility-base) {th : Theory} {T : List Node} →
    (x : Seeking th T c.args.pack.now c.args.places.now c.args.p c.args.nodes.first c.args.nodes.count c.args.limits.story.0 c.args.p.foresight.0 c.args.limits.nesting.0 c.args.list.now c.args.work.now)
    → c.utility-base.result ≡ author_utility th (meaning c.args.p.characters (seek_table x (c.lay_start.ensures T (seek_laying x)) c.lay_start.auto.work) 0)
worth c {th} {T} x =
    author-utility (seek_slot x (c.lay_start.ensures T (seek_laying x)) c.lay_start.auto.work) 0 (utility_in c.args.pack.now (get_or c.args.places.now 320 0) c.lay_start.new.work 0 c.utility-base.result c.table_in-t.ensures c.utility-base.ensures)

pub lay_start-requires : goal.lay_start-requires
lay_start-requires c =
    let (th, (T, x)) = c.requires in
    (T, seek_laying x)

pub table_in-t-requires : goal.table_in-t-requires
table_in-t-requires c =
    let (th, (T, x)) = c.requires in
    (omega (arith, x.room, c.lay_start.auto), omega (arith, x.theorized.small.characters, x.theorized.small.fluents, x.same_characters, x.same_fluents))

pub bounds-places-320 : goal.bounds-places-320
bounds-places-320 c =
    let (th, (T, x)) = c.requires in
    omega (arith, x.theorized.marked)

pub overflow_cast-places : goal.overflow_cast-places
overflow_cast-places c = omega (arith, c.type_inv.places 320)

pub utility-base-requires : goal.utility-base-requires
utility-base-requires c =
    let (th, (T, x)) = c.requires in
    let s = seek_slot x (c.lay_start.ensures T (seek_laying x)) c.lay_start.auto.work in
    rules_in _ _ _ 0 c.table_in-t.ensures (author_rules s 0 s.tabled.some).0

pub deepen-found-requires : goal.deepen-found-requires
deepen-found-requires c =
    let (th, (T, x)) = c.requires in
    let y = c.lay_start.ensures T (seek_laying x) in
    ((th, (seek_table x y c.lay_start.auto.work, (seek_slot x y c.lay_start.auto.work, seek_memory x y c.lay_start.auto.work, y.starts.0, seek_base x y c.lay_start.auto.work (worth (goal.at.deepen-found-requires c).After-utility-base x)))), x.storied, x.has_list_room, x.slots, record { some = x.foreseen.0; few = x.foreseen.1 })

pub clear-requires : goal.clear-requires
clear-requires c =
    let (th, (T, x)) = c.requires in
    omega (arith, x.room, c.deepen-found.auto.work, c.lay_start.auto)

pub returns-in_err-best : goal.returns-in_err-best
returns-in_err-best c =
    λ th T x.
    let y = c.lay_start.ensures T (seek_laying x) in
    let is = worth (goal.at.returns-in_err-best c).After-utility-base x in
    let none = c.in_err-best.ensures.ok_part in
    let told : c.ok_or.result ≡ Err NoEnding = c.ok_or.ensures.value ∙ ap (λ (o : Option Ended). ok_or o NoEnding) none in
    let handed : c.from_residual.result ≡ Err NoEnding = search (rules, told, c.in_err-best.was) in
    subst (SearchPut th c.args.limits.story.0 c.args.p.foresight.0 c.args.limits.nesting.0 (meaning c.args.p.characters T 0) c.args.list.now c.deepen-found.new.list c.args.work.now c.clear.new.work) (sym handed)
    (seek_none x y c.lay_start.auto.work (seek_from x y c.lay_start.auto.work is) (seek_same x y c.lay_start.auto.work (c.deepen-found.ensures th (seek_table x y c.lay_start.auto.work) (seek_slot x y c.lay_start.auto.work) (seek_memory x y c.lay_start.auto.work) y.starts.0 (seek_base x y c.lay_start.auto.work is))) c.clear.ensures (omega (arith, c.clear.auto, c.deepen-found.auto.work, c.lay_start.auto)) c.deepen-found.auto.list none)

pub returns : goal.returns
returns c =
    λ th T x.
    let y = c.lay_start.ensures T (seek_laying x) in
    let is = worth (goal.at.returns c).After-utility-base x in
    seek_found x y c.lay_start.auto.work (seek_from x y c.lay_start.auto.work is) (seek_same x y c.lay_start.auto.work (c.deepen-found.ensures th (seek_table x y c.lay_start.auto.work) (seek_slot x y c.lay_start.auto.work) (seek_memory x y c.lay_start.auto.work) y.starts.0 (seek_base x y c.lay_start.auto.work is))) c.clear.ensures (omega (arith, c.clear.auto, c.deepen-found.auto.work, c.lay_start.auto)) c.deepen-found.auto.list c.in_ok-best.ensures.ok_part
