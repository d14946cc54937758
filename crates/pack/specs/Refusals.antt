-- Why something is refused: each case's number and place, as document 01's table has them.
use Rattle.std.specs.Prelude.{ℕ, ◌+◌, Result, Ok, Err}
use Rattle.pack.specs.Reading.{Reply, gives, refuses}
use Rattle.pack.specs.declared.refusal.Fault.{Fault}
use Rattle.pack.specs.declared.refusal.Fault.TheVariants.{Ends, Form, Limit, Absent, Blank, Order, After}
use Rattle.pack.specs.declared.refusal.Stop.{Stop}
use Rattle.pack.specs.declared.refusal.Stop.TheVariants.{Condition, Rounds, States}
use Rattle.pack.specs.declared.refusal.Refusal.{Refusal}
use Rattle.pack.specs.declared.refusal.Refusal.TheVariants as why

-- the number of a fault in a pack
abbrev pub number_of : Fault → ℕ
number_of Ends = 1
number_of Form = 2
number_of Limit = 3
number_of Absent = 4
number_of Blank = 5
number_of Order = 6
number_of After = 7

-- of what stops an action
abbrev pub stop_number : Stop → ℕ
stop_number Condition = 10
stop_number Rounds = 11
stop_number States = 12

-- a refusal's number: in a chart a fault's is 20 more
abbrev pub refusal_number : Refusal → ℕ
refusal_number (why.Pack flaw) = number_of flaw.fault
refusal_number (why.Chart flaw) = number_of flaw.fault + 20
refusal_number why.Short = 8
refusal_number why.Range = 9
refusal_number (why.Stopped stop) = stop_number stop
refusal_number why.NoEnding = 13

-- its place: that of the first byte at fault, and else 0
abbrev pub place_of : Refusal → ℕ
place_of (why.Pack flaw) = flaw.at
place_of (why.Chart flaw) = flaw.at
place_of r = 0

-- an answer, or the number and place of a refusal
abbrev pub replied : {A : Type 0} → Result A Refusal → Reply A
replied (Ok a) = gives a
replied (Err why) = refuses (refusal_number why) (place_of why)
