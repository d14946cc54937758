-- What is asked of an effect, and of a list of effects, one by one. Assumes nothing.
use Rattle.std.specs.Prelude.{ℕ, ◌≡◌, refl, Bool, true, false, List, [], ◌∷◌, eqb, ltb}
use Rattle.std.proofs.Common.{sym, ap, ◌∙◌}
use Rattle.pack.specs.Syntax.{Effect}
use Rattle.pack.specs.Duties.Effects.{asks, some_of}
use Rattle.pack.specs.declared.effects.Wanted.{Wanted}
use Rattle.pack.specs.declared.effects.Wanted.TheVariants.{For, Belief}

module _ (x : Effect) (w : Wanted) where
  pub wanted_for : {who k : ℕ} → w ≡ For who → k ≡ x.whom → eqb k who ≡ asks w x
  wanted_for {who} q h = ap (λ (k : ℕ). eqb k who) h ∙ ap (λ (w : Wanted). asks w x) (sym q)

  pub wanted_belief : {k : ℕ} → w ≡ Belief → k ≡ x.whom → ltb 0 k ≡ asks w x
  wanted_belief q h = ap (ltb 0) h ∙ ap (λ (w : Wanted). asks w x) (sym q)

-- one effect more
pub some_here : (f : Effect → Bool) (e : Effect) (es : List Effect) → f e ≡ true → some_of f (e ∷ es) ≡ true
unfolding some_of
some_here f e es h = rw h

pub some_on : (f : Effect → Bool) (e : Effect) (es : List Effect) → f e ≡ false → some_of f (e ∷ es) ≡ some_of f es
unfolding some_of
some_on f e es h = rw h

pub some_nil : (f : Effect → Bool) → some_of f [] ≡ false
unfolding some_of
some_nil f = refl
