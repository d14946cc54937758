-- What the exported functions hand back, in the words of the pack's grammar.
use Rattle.std.specs.Prelude.{ℕ, ◌≡◌, List, length, set, ltb}
use Rattle.pack.specs.Syntax.{Pack}
use Rattle.pack.specs.Reading.{pick, Reply, gives, refuses, with, told}
use Rattle.pack.specs.Grammar.{pack_of, chart_of}

-- 0 where something is given, else the refusal's number
abbrev pub number_of : {A : Type 0} → Reply A → ℕ
number_of (gives a) = 0
number_of (refuses k p) = k

-- a report with five counts over its first entries
abbrev pub counts : List ℕ → (characters fluents nodes actions triggers : ℕ) → List ℕ
counts report characters fluents nodes actions triggers =
    set (set (set (set (set report 0 characters) 1 fluents) 2 nodes) 3 actions) 4 triggers

-- a report after a pack was read: the counts of what is given, or the place of the refusal and nothing else
abbrev pub of_pack : List ℕ → Reply Pack → List ℕ
of_pack report (gives p) =
    counts report p.theory.characters (length p.theory.domains) (length p.nodes)
    (length p.theory.actions) (length p.theory.triggers)
of_pack report (refuses k p) = set report 0 p

-- A pack and a report: 8 where the report has fewer than five entries, which then stays as it was; else what `pack_of`
-- says.
pub record PackProbed (pack report after : List ℕ) (r : ℕ) : Type 0 where
  pub number : r ≡ pick (ltb (length report) 5) 8 (number_of (pack_of pack))
  pub written : after ≡ pick (ltb (length report) 5) report (of_pack report (pack_of pack))

-- how many nodes a chart has under a pack; the pack's refusal comes first
unfoldable pub chart_count : (pack chart : List ℕ) → Reply ℕ
chart_count pack chart = with (pack_of pack) (λ p. told length (chart_of p.theory chart))

-- a report after a chart was read: the count, or the place of the refusal
abbrev pub of_count : List ℕ → Reply ℕ → List ℕ
of_count report (gives n) = set report 0 n
of_count report (refuses k p) = set report 0 p

-- A pack, a chart and a report: 8 where the report is empty, else what `chart_count` says.
pub record ChartProbed (pack chart report after : List ℕ) (r : ℕ) : Type 0 where
  pub number : r ≡ pick (ltb (length report) 1) 8 (number_of (chart_count pack chart))
  pub written : after ≡ pick (ltb (length report) 1) report (of_count report (chart_count pack chart))
