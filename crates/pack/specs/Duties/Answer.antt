-- A pack's head and the parts that checks pass over, as readings.
use Rattle.std.specs.Prelude.{ℕ, ◌+◌, ◌≡◌, List, length, get_or, take, Result, IfOk}
use Rattle.pack.specs.Reading.{Reader, bind, mapped, runs, many}
use Rattle.pack.specs.Number.{between, item}
use Rattle.pack.specs.Duties.Said.{said, forget}
use Rattle.pack.specs.Grammar.{Dimensions, head_at}
use Rattle.pack.specs.declared.refusal.Flaw.{Flaw}
use Rattle.pack.specs.declared.dimensions.Domains.{Domains}
use Rattle.pack.specs.declared.dimensions.Head.{Head}

abbrev pub dims : ℕ → List ℕ → Dimensions
dims characters domains = record { characters = characters; domains = domains }

-- a fluent and one of its values, of which nothing is told
unfoldable pub claim_at : (domains : List ℕ) → Reader (Unit {0})
claim_at domains s at = bind (item (length domains) s at)
    (λ fluent n. mapped forget (item (get_or domains fluent 0) s n))

-- a value for each fluent
abbrev pub values_at : (domains : List ℕ) → Reader (List ℕ)
values_at domains = runs (λ fluent. item (get_or domains fluent 0)) (λ fluent v. fluent + 1) 0 (length domains)

-- the domain sizes are the first of those that are kept
abbrev pub sizes_of : Domains → List ℕ
sizes_of d = take d.fluents d.sizes

-- as many domain sizes as there are fluents, and the place after them
pub record DomainsRead (s : List ℕ) (at : ℕ) (fluents : ℕ) (r : Result (Domains × ℕ) Flaw) : Type 0 where
  pub reads : many (between 1 129 3) fluents s at ≡ mapped sizes_of (said r)
  pub count : IfOk r (λ d. d.0.fluents ≡ fluents)

-- what the parts behind a head need of it
abbrev pub dims_of : Head → Dimensions
dims_of h = dims h.characters (sizes_of h.domains)

-- a head, and the place after it
abbrev pub HeadRead : (s : List ℕ) (at : ℕ) → Result (Head × ℕ) Flaw → Type 0
HeadRead s at r = head_at s at ≡ mapped dims_of (said r)
