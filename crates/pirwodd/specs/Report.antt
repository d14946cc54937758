-- What all exported calls share: the number handed back, and what the lent report of numbers holds, by the reply of the
-- call.
use Rattle.std.specs.Prelude.{ℕ, ◌≡◌, List, [], ◌∷◌}
use Rattle.pack.specs.Reading.{Reply, gives, refuses, pick}
use Rattle.chart.specs.Call.{fits, work_after}

-- a report has at least three numbers; one that has fewer is a "lent buffer too short", 8
abbrev pub report_room : ℕ
report_room = 3

-- The work buffer as the call sees it. Where the report is too short, the call replies as it does to a work buffer of
-- no bytes: a refusal of the pack or a chart comes first, then 8, then 9 ("Order: pack, first chart, second chart, 8,
-- 9, the rest").
abbrev pub seen : (report work : List ℕ) → List ℕ
seen report work = pick (fits report_room report) work []

-- numbers put into the first entries of a report, as far as there are entries; all others stay
unfoldable pub put : (numbers report : List ℕ) → List ℕ
put [] report = report
put (n ∷ numbers) [] = []
put (n ∷ numbers) (entry ∷ report) = n ∷ put numbers report

-- 0 for an answer, else the refusal's number
abbrev pub number_of : {A : Type 0} → Reply A → ℕ
number_of (gives a) = 0
number_of (refuses number place) = number

-- the numbers that a reply puts into the report: what is told of an answer, or a refusal's place
abbrev pub entries : Reply (List ℕ) → List ℕ
entries (gives numbers) = numbers
entries (refuses number place) = place ∷ []

-- What every exported call hands back and leaves in work buffer and report, where `said` is its reply with the numbers
-- that are told of an answer.
pub record Returned (said : Reply (List ℕ)) (work report work' report' : List ℕ) (r : ℕ) : Type 0 where
  pub number : r ≡ number_of said
  pub told : report' ≡ put (entries said) report
  pub scratch : work' ≡ work_after said work
