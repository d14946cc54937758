-- What an accepted pack, and nodes that are read into the work buffer, give a step or a search. Assumes nothing.
use Rattle.std.specs.Prelude.{ℕ, ◌≤◌, ◌≡◌, List, length}
use Rattle.std.proofs.Common.{sym, ◌∙◌, arith}
use Rattle.std.proofs.Math.Logic.{by_cases}
use Rattle.std.proofs.Math.Decide.{dec_le}
use Rattle.pack.specs.Reading.{gives}
use Rattle.pack.specs.Laws.Reading.{never_gives}
use Rattle.pack.specs.Syntax.{Node, Pack}
use Rattle.pack.specs.Grammar.{Dimensions, pack_of}
use Rattle.pack.specs.Duties.Judge.{Over}
use Rattle.pack.specs.Duties.Copy.{TableCopied}
use Rattle.pack.specs.Laws.PartsFound.{pack-long}
use Rattle.chart.specs.Call.{work_room}
use Rattle.chart.specs.Duties.Look.{NodesFrom}
use Rattle.chart.specs.Laws.LoadedNodes.{read_table, read_same, read_fits}
use Rattle.transition.specs.Duties.Cause.{Tabled}

-- an accepted pack has at most 8,192 bytes
pub short-pack : (pack : List ℕ) (x : Pack) → pack_of pack ≡ gives x → length pack ≤ 8192
short-pack pack x e =
    by_cases (dec_le (length pack) 8192) (λ h. h) (λ h. never_gives (sym (pack-long pack (omega arith)) ∙ e))

-- nodes that are read and copied into the work buffer, over dimensions that they keep
pub read_tabled : {d : Dimensions} {bytes work mid : List ℕ} {at end nodes f c : ℕ} {T : List Node}
    (r : NodesFrom bytes at end nodes f c T)
    → Over d (read_table r) → work_room ≤ length work → TableCopied bytes at nodes work mid 0 f c
    → Tabled d T mid (read_table r)
read_tabled r over room x =
    record { over = over; fits = read_fits r room x; same = read_same r x; few = r.few; some = r.some }
