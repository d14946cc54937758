-- A step from a chart's bytes to a chart's bytes. Assumes nothing.
use Prim.Native.Nat.{ℕ, ◌+◌, ◌*◌, ◌<◌, ◌≤◌}
use mathlib.Core.Path.{◌≡◌, refl, sym, ap, ap₂, ◌∙◌, subst}
use mathlib.Core.Bool.{Bool, ◌||◌}
use mathlib.Core.Logic.{◌≢◌}
use mathlib.Core.List.{List}
use native.Mathlib.Omega.{arith}
use lib.ListN.{length, get_or, set}
use borrow.Author.Tests.{le-ltb, lt-leb}
use Rattle.pack.specs.Syntax.{Node, Theory}
use Rattle.pack.specs.State.{State, meaning}
use Rattle.pack.specs.Reading.{gives, told, pick}
use Rattle.pack.specs.Layout.{ChartFits}
use Rattle.pack.specs.Duties.Table.{rows_at}
use Rattle.pack.specs.Duties.Copy.{TableCopied}
use Rattle.pack.specs.declared.table.Table.{Table}
use Rattle.chart.specs.Call.{work_room, result_after, work_after, cleared}
use Rattle.chart.specs.Chart.{Starts}
use Rattle.std.specs.Prelude.{Ok, Err}
use Rattle.pack.specs.declared.refusal.Refusal.TheVariants.{Stopped}
use Rattle.chart.specs.Duties.Numbers.{Sound}
use Rattle.chart.specs.Duties.Out.{RowsPut}
use Rattle.chart.specs.Duties.Put.{Cleared}
use Rattle.chart.specs.Laws.Answers.{fits_table}
use Rattle.chart.specs.Laws.ChartBytes.{chart_out}
use Rattle.chart.specs.Laws.LoadedNodes.{read_slim, read_small}
use Rattle.chart.specs.Laws.LookedUp.{cleared_all}
use Rattle.chart.specs.Laws.MergedRows.{ordered_sound}
use Rattle.chart.specs.Laws.Cells.{rows_most}
use Rattle.transition.specs.Happening.{Plays, Refuses, Stops}
use Rattle.transition.specs.Step.{Outcome, leaves, refused, Steps}
use Rattle.transition.specs.Answers.{step_table}
use Rattle.transition.specs.Replies.{outcome_reply}
use Rattle.transition.specs.Laws.Step.{step_table_lem, step_table_iff}
use Rattle.pack.specs.declared.refusal.Stop.{Stop}
use Rattle.transition.specs.Duties.Play.{Setting, Left, PlayedIn}
use Rattle.pack.specs.Refusals.{stop_number}
use Rattle.transition.specs.Laws.Loaded.{read_tabled}
use Rattle.transition.specs.Laws.Stopped.{stops}
use Rattle.transition.specs.Inner.Steppable.{Stepping, StepSaid}

module _ {p : Theory} {T : List Node} {pack places : List ℕ} {actions triggers action : ℕ} {chart : List ℕ} {nodes f c : ℕ} {out work : List ℕ} (x : Stepping p T pack places actions triggers action chart nodes f c out work) where
  abbrev pub step_from : Table
  step_from = record { rows = 1; nodes = nodes; fluents = f; characters = c; width = f + c }

  module _ {mid : List ℕ} (y : TableCopied chart 1 nodes work mid 0 f c) where
    pub step_setting : Setting p T pack places actions triggers mid step_from 961
    step_setting = record {
      theorized = x.theorized;
      tabled = read_tabled x.read (record { small = x.theorized.small; characters = x.same_characters; fluents = x.same_fluents }) x.has_work_room y;
      room = record { source = omega (arith, read_small x.read); has_slot_room = omega arith; room = omega (arith, y.long, x.has_work_room) };
    }

    module _ {mid' : List ℕ} {r : ℕ} (z : PlayedIn p (meaning c T 0) action step_from mid mid' 961 r) where
      same_state : meaning c T 0 ≡ meaning p.characters T 0
      same_state = ap (λ (c : ℕ). meaning c T 0) (sym x.same_characters)

      is : (o : Outcome) → Steps p (meaning p.characters T 0) action o → step_table p T action ≡ o
      is o s = (step_table_iff p T (fits_table p.characters p.domains T x.fit) action o).0 s

      -- bytes behind the work buffer's part stay
      behind : (q : ℕ) → work_room ≤ q → get_or mid' q 0 ≡ get_or work q 0
      behind q h = z.only.high q (omega arith) ∙ y.above q (omega (arith, read_small x.read))

      pub step_refused : (why : Stop) → r ≡ stop_number why → {now : List ℕ} → Cleared mid' now 0 work_room → length now ≡ length work
          → StepSaid (step_table p T action) out work out now (Err (Stopped why))
      unfolding result_after
      step_refused why same {now} cl long =
          let h : r ≢ 0 = λ z. stops why (sym same ∙ z) in
          let e : step_table p T action ≡ refused (stop_number why) =
          is (refused r) (Steps.failed (omega (arith, x.there, x.theorized.found.actions)) (subst (λ (s : State). Refuses p s action r) same_state (z.refuses h))) ∙ ap refused same in
          record {
            answer = sym (ap (λ (o : Outcome). told length (outcome_reply o)) e);
            result = sym (ap (λ (o : Outcome). result_after (outcome_reply o) out) e);
            scratch = cleared_all work cl behind long x.has_work_room;
          }

      module _ (e : r ≡ 0) where
        abbrev n : ℕ
        n = get_or mid' 961 0

        abbrev U : List Node
        U = rows_at mid' (f + c) f c 962 n

        left : Left (z.plays e).0 step_from mid' 961
        left = (z.plays e).2

        rows_small : n * (f + c) ≤ 960
        rows_small = omega (arith, rows_most left.few (read_slim x.read).0)

        leaves_is : step_table p T action ≡ leaves U
        leaves_is =
            let w : Starts p.characters (z.plays e).0 U = subst (λ (c : ℕ). Starts c (z.plays e).0 U) (sym x.same_characters) left.starts in
            is (leaves U) (Steps.left w.0 (subst (λ (s : State). Plays p s action (meaning p.characters U 0)) same_state (subst (λ (s : State). Plays p (meaning c T 0) action s) (sym w.1) (z.plays e).1)))

        pub step_writes : {rows : ℕ} → rows ≡ n → length mid' ≡ length work → ((rows < 256) × (f + c ≤ f + c) × (f + c ≤ f + c) × (962 + rows * (f + c) ≤ length mid') × (1 + rows * (f + c) ≤ length out)) × Sound mid' rows (f + c) f c 962
        step_writes {rows} k long =
            let size : rows * (f + c) ≤ 960 = subst (λ (k : ℕ). k * (f + c) ≤ 960) (sym k) rows_small in (
              (omega (arith, k, left.few), omega arith, omega arith, omega (arith, size, long, x.has_work_room), omega (arith, size, x.out_room)),
              subst (λ (k : ℕ). Sound mid' k (f + c) f c 962) (sym k) (ordered_sound left.starts.0.ordered),
            )

        pub step_left : {rows : ℕ} → rows ≡ n → {out' now : List ℕ} {m : ℕ} → (m ≡ 1 + rows * (f + c)) × RowsPut mid' (set out 0 rows) out' (f + c) f c 962 1 1 0 rows → length out' ≡ length out
            → Cleared mid' now 0 work_room → length now ≡ length work → StepSaid (step_table p T action) out work out' now (Ok m)
        unfolding result_after
        step_left {rows} k {out'} {now} {m} put long cl longer =
            let (size, z) = subst (λ (k : ℕ). (m ≡ 1 + k * (f + c)) × RowsPut mid' (set out 0 k) out' (f + c) f c 962 1 1 0 k) k put in
            let fit : ChartFits c p.domains U = subst (λ (c' : ℕ). ChartFits c' p.domains U) x.same_characters (x.kept U leaves_is) in
            let (bytes, long-bytes) = chart_out out p.domains refl x.same_fluents x.theorized.small.sizes z (omega (arith, x.out_room)) fit (omega (arith, rows_small, x.out_room)) long in
            record {
              answer = ap gives (size ∙ sym long-bytes) ∙ sym (ap (λ (o : Outcome). told length (outcome_reply o)) leaves_is);
              result = bytes ∙ sym (ap (λ (o : Outcome). result_after (outcome_reply o) out) leaves_is);
              scratch = cleared_all work cl behind longer x.has_work_room;
            }

-- 10, 11 and 12 are no refusals of the checks: the work buffer is cleared after them
stops_number : {p : Theory} {k : ℕ} {s : State} {n : ℕ} → Stops p k s n → (10 ≤ n) × (n ≤ 12)
stops_number (Stops.many m) = (omega arith, omega arith)
stops_number (Stops.loud m q) = (omega arith, omega arith)
stops_number (Stops.later m q r) = stops_number r

refuses_number : {p : Theory} {s : State} {a n : ℕ} → Refuses p s a n → (10 ≤ n) × (n ≤ 12)
refuses_number (Refuses.forbidden e) = (omega arith, omega arith)
refuses_number (Refuses.stopped e r) = stops_number r

steps-cleared : {p : Theory} {s : State} {a : ℕ} {o : Outcome} → Steps p s a o → a < length p.actions → (work : List ℕ) → work_after (outcome_reply o) work ≡ cleared work
unfolding work_after
steps-cleared (Steps.left w x) h work = refl
steps-cleared (Steps.failed {n = n} l x) h work =
    let (low, high) = refuses_number x in
    ap (λ (b : Bool). pick b work (cleared work)) (ap₂ ◌||◌ (le-ltb n 10 low) (lt-leb 21 n (omega arith)))
steps-cleared (Steps.missing l) h work = absurd (omega arith)

pub step_cleared : (p : Theory) (T : List Node) → ChartFits p.characters p.domains T → (a : ℕ) → a < length p.actions → (work : List ℕ) → work_after (outcome_reply (step_table p T a)) work ≡ cleared work
step_cleared p T fit a h work = steps-cleared (step_table_lem p T (fits_table p.characters p.domains T fit) a) h work
