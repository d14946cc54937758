-- The checks that the public calls share: what each passes on, and the chain and the fluent that are there. Assumes
-- nothing.
use Rattle.std.proofs.Common.{ℕ, sym, ◌∙◌, arith, ltb-true, List, [], ◌∷◌}
use Rattle.std.specs.Prelude.{◌≡◌, Bool}
use Rattle.std.proofs.Math.Path.{refl, ap}
use Rattle.std.proofs.Math.Bool.{true, false, ◌&&◌}
use Rattle.std.proofs.Math.Dec.{ltb}
use Rattle.pack.specs.State.{Valid}
use Rattle.pack.specs.Reading.{pick}
use Rattle.chart.specs.Replies.{all_below}

pub and_true : (a b : Bool) → (a && b) ≡ true → (a ≡ true) × (b ≡ true)
and_true true b e = (refl, e)
and_true false b e = let z : ◌≡◌ {A = ℕ} 0 1 = ap (λ (b : Bool). pick b 1 0) e in absurd (omega arith)

pub both_there : {a r : Bool} (b : Bool) → r ≡ a → r ≡ true → b ≡ (a && b)
both_there b e f = ap (λ (x : Bool). x && b) (sym f ∙ e)

pub not_there : {a r : Bool} (b : Bool) → r ≡ a → r ≡ false → false ≡ (a && b)
not_there b e f = ap (λ (x : Bool). x && b) (sym f ∙ e)

pub below_valid : (C : ℕ) (chain : List ℕ) → all_below C chain ≡ true → Valid C chain
unfolding all_below Valid
below_valid C [] e = tt
below_valid C (c ∷ chain) e =
    let (x, y) = and_true (ltb c C) (all_below C chain) e in (ltb-true c C x, below_valid C chain y)
