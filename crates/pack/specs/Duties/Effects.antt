-- What is asked of an effect, and whether some effect of a list is such a one. Assumes nothing.
use Rattle.std.specs.Prelude.{Bool, false, ◌||◌, List, [], ◌∷◌, eqb, ltb}
use Rattle.pack.specs.Syntax.{Effect}
use Rattle.pack.specs.declared.effects.Wanted.{Wanted}
use Rattle.pack.specs.declared.effects.Wanted.TheVariants.{For, Belief}

-- it is meant for whom, or for anybody's belief
abbrev pub asks : Wanted → Effect → Bool
asks (For whom) e = eqb e.whom whom
asks Belief e = ltb 0 e.whom

-- some effect of the list is such a one
unfoldable pub some_of : (Effect → Bool) → List Effect → Bool
some_of f [] = false
some_of f (e ∷ es) = f e || some_of f es
