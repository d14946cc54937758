-- The chart is loaded, the chain followed, and the buffer cleared. Assumes nothing.
use Rattle.std.proofs.Common.{◌<◌, ◌≡◌, length, refl, rules}
use Rattle.pack.specs.State.{walk}
use Rattle.pack.specs.Duties.Table.{bytes_at, table_at, table_of}
use Rattle.chart.specs.Laws.LookedUp.{look_follows, looked}
use Rattle.chart.proofs.query.look.Goals as goal
use Rattle.chart.proofs.query.look.Goals.{After-follow-there}

-- where the chain leads
followed : (c : After-follow-there) →
    (c.follow-there.result ≡ walk (table_of (table_at 1 c.args.nodes c.args.fluents c.args.characters) c.copy_table.new.buffer) 0 (bytes_at c.args.chain.now 0 (length c.args.chain.now)))
    × (c.follow-there.result < c.args.nodes)
followed c = rw c.at-t.ensures at c.follow-there.ensures

pub follow-there-requires : goal.follow-there-requires
follow-there-requires c = rw c.at-t.ensures (look_follows c.requires c.copy_table.ensures)

pub returns : goal.returns
returns c =
    let (e, l) = followed (goal.at.returns c).After-follow-there in
    looked c.requires c.copy_table.ensures e l (rw c.at-t.ensures refl) c.clear.ensures (search rules)
