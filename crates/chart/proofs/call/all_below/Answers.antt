-- One test for each byte. Assumes nothing.
use Rattle.std.proofs.Common.{ℕ, List, [], ◌∷◌, ◌≡◌, ◌&&◌, ◌∙◌, Bool, refl, ap, ltb, rules, tests}
use Rattle.std.proofs.lemmas.Iterator.{YieldsList-from_slice}
use Rattle.std.proofs.lemmas.Iterator.Search.{all_from_yields_List}
use Rattle.std.specs.List.{list_all}
use Rattle.chart.specs.Replies.{all_below}
use Rattle.chart.proofs.call.all_below.Goals as goal

each : (C : ℕ) (chain : List ℕ) → list_all (λ x. ltb x C) chain ≡ all_below C chain
unfolding all_below
each C [] = refl
each C (x ∷ chain) = ap (λ (b : Bool). ltb x C && b) (each C chain)

pub returns : goal.returns
returns c =
    all_from_yields_List (λ x. ltb x c.args.characters) _ _ _ c.all.ensures.ran (YieldsList-from_slice c.args.chain.now cc) (λ x b q k. search (rules, tests))
    ∙ each c.args.characters c.args.chain.now
