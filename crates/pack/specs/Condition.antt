-- When tests and conditions hold in a state, what effects write, and what a state is worth. Document 01, "The pack",
-- its last paragraph and its last item.
use Rattle.std.specs.Prelude.{ℕ, Bool, true, false, ◌&&◌, ◌||◌, not, cond, List, [], ◌∷◌, get_or, set, leb, eqb}
use Rattle.pack.specs.Syntax.{Kind, is, is_not, at_least, Test, Condition, Effect, Rule}
use Rattle.pack.specs.State.{State}

-- "Test kinds are 0 is, 1 is not, 2 at least."
unfoldable pub compares : Kind → ℕ → ℕ → Bool
compares is x v = eqb x v
compares is_not x v = not (eqb x v)
compares at_least x v = leb v x

-- "A test looks where the chain leads"
unfoldable pub passes : State → Test → Bool
passes s t = compares t.kind (get_or (s t.chain) t.fluent 0) t.value

-- "has all tests true"; "an alternative without tests always does"
unfoldable pub all_pass : State → List Test → Bool
all_pass s [] = true
all_pass s (t ∷ ts) = passes s t && all_pass s ts

-- "A condition holds if some alternative has all tests true. So no alternatives never holds"
unfoldable pub holds : State → Condition → Bool
holds s [] = false
holds s (ts ∷ alternatives) = all_pass s ts || holds s alternatives

-- "The first rule that holds gives the worth; if none holds it is 0."
unfoldable pub utility : State → List Rule → ℕ
utility s [] = 0
utility s (r ∷ rules) = cond (holds s r.condition) r.utility (utility s rules)

-- the values after the effects meant for `whom`: "The state takes the effects with whom 0, in order, later ones
-- winning."
unfoldable pub write : ℕ → List Effect → List ℕ → List ℕ
write whom [] values = values
write whom (e ∷ es) values = write whom es (cond (eqb e.whom whom) (set values e.fluent e.value) values)
