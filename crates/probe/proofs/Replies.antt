-- What the pack reader's answer says of the reply, and what a chart's count is under it. Assumes nothing.
use Prim.Native.Nat.{ℕ}
use mathlib.Core.Path.{◌≡◌, refl, sym, ap, ◌∙◌}
use mathlib.Core.List.{List}
use lib.ListN.{length}
use Rattle.std.specs.Prelude.{Ok, Err}
use Rattle.pack.specs.Syntax.{Pack}
use Rattle.pack.specs.Reading.{Reply, gives, refuses, with, told, whole}
use Rattle.pack.specs.Grammar.{nodes_at, pack_of, chart_of, in_chart}
use Rattle.pack.specs.Refusals.{refusal_number, place_of}
use Rattle.pack.specs.Duties.Said.{forget}
use Rattle.pack.specs.Duties.Answer.{dims, sizes_of}
use Rattle.pack.specs.Duties.Contents.{PackRead, PackFound}
use Rattle.pack.specs.Laws.Reading.{never_gives}
use Rattle.pack.specs.declared.refusal.Refusal.{Refusal}
use Rattle.pack.specs.declared.contents.Contents.{Contents}
use Rattle.probe.specs.Report.{chart_count}

-- a refusal of what is told is one of the reply itself
pub refused-told : {A : Type 0} (x : Reply A) (k p : ℕ) → told forget x ≡ refuses k p → x ≡ refuses k p
refused-told (gives a) k p e = never_gives (sym e)
refused-told (refuses j q) k p e = let a : j ≡ k = cc in let b : q ≡ p = cc in cc

-- what is given
pub record Given {A : Type 0} (x : Reply A) : Type 0 where
  pub value : A
  pub is : x ≡ gives value

pub passed_told : {A : Type 0} (x : Reply A) → told forget x ≡ gives tt → Given x
passed_told (gives a) e = record { value = a; is = refl }
passed_told (refuses k p) e = never_gives e

-- an accepted pack, and what was found of it
pub record Accepted (s places : List ℕ) (r : Contents) : Type 0 where
  pub pack : Pack
  pub is : pack_of s ≡ gives pack
  pub found : PackFound s places pack r

pub accepted : (s places : List ℕ) (r : Contents) → PackRead s places (Ok r) → Accepted s places r
accepted s places r h =
    let g = passed_told (pack_of s) h.answer in
    record { pack = g.value; is = g.is; found = h.found g.value g.is }

-- a refused pack
pub refused : (s places : List ℕ) (why : Refusal) → PackRead s places (Err why) → pack_of s ≡ refuses (refusal_number why) (place_of why)
refused s places why h = refused-told (pack_of s) (refusal_number why) (place_of why) h.answer

module _ (s places : List ℕ) (r : Contents) (a : Accepted s places r) where
  -- a chart is read with the dimensions that were found
  pub count_read : (chart : List ℕ) (x : Reply ℕ) → told length (in_chart (whole (nodes_at (dims r.characters (sizes_of r.domains))) chart)) ≡ x → chart_count s chart ≡ x
  unfolding chart_count chart_of
  count_read chart x e =
      ap (λ (p : Reply Pack). with p (λ p. told length (chart_of p.theory chart))) a.is
      ∙ ap (λ (c : ℕ). told length (in_chart (whole (nodes_at (dims c a.pack.theory.domains)) chart))) a.found.characters
      ∙ ap (λ (ds : List ℕ). told length (in_chart (whole (nodes_at (dims r.characters ds)) chart))) a.found.domains
      ∙ e

-- a refused pack refuses every chart
pub count_refused : (s chart : List ℕ) (k p : ℕ) → pack_of s ≡ refuses k p → chart_count s chart ≡ refuses k p
unfolding chart_count
count_refused s chart k p e = ap (λ (x : Reply Pack). with x (λ p. told length (chart_of p.theory chart))) e
