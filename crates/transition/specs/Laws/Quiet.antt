-- Whether a trigger fires somewhere, read off a table. Assumes nothing.
use Rattle.std.specs.Prelude.{ℕ, ◌<◌, ◌≡◌, ◌↔◌, List, length}
use Rattle.std.proofs.Common.{sym, ◌∙◌}
use Rattle.std.proofs.Math.Path.{ap}
use Rattle.std.proofs.Math.Option.{Option}
use Rattle.pack.specs.State.{State, meaning, Closed, walk}
use Rattle.pack.specs.Syntax.{Theory, Node}
use Rattle.pack.specs.Laws.Table.{after-walk, walk_inside}
use Rattle.chart.specs.Laws.Counted.{there, Reached}
use Rattle.transition.specs.Happening.{Quiet, firing}

module _ (p : Theory) (t : List Node) (reached : (i : ℕ) → i < length t → Reached p.characters t i) where
  abbrev at : ℕ → State
  at = meaning p.characters t

  module _ (closed : Closed p.characters t) (some : 0 < length t) where
    pub quiet : Quiet p (at 0) ↔ ((i : ℕ) → i < length t → firing p.triggers (at i) ≡ Option.none)
    unfolding Quiet
    quiet = (
      λ q i l. let c = reached i l in
          ap (firing p.triggers) (sym (there p.characters t reached i c)) ∙ q c.0 c.1,
      λ f chain v.
          ap (firing p.triggers) (after-walk p.characters t chain 0 v)
          ∙ f (walk t 0 chain) (walk_inside p.characters t closed chain 0 some v),
    )
