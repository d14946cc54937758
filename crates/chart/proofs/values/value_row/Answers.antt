-- A row with the values of a leading row gets its class; else it leads the next, the last of its mark. Assumes nothing.
use Rattle.std.proofs.Common.{refl}
use Rattle.chart.proofs.ValueClasses.{valued_old, valued_new}
use Rattle.chart.proofs.values.value_row.Goals as goal
use Rattle.chart.proofs.values.value_row.Goals.{In_default}

pub returns-in-Some : goal.returns-in-Some
returns-in-Some c = valued_old c.requires.valuable c.requires.chained c.in-Some.ensures

pub returns : goal.returns
returns c =
    let (e, h) = c.value_hash-b.ensures in
    valued_new c.requires.valuable c.requires.chained c.in_default.ensures h e refl
