-- What the definitions of the text come to, as bytes. Assumes nothing.
use Rattle.std.specs.Prelude.{◌≡◌, refl, [], ◌∷◌}
use Rattle.pack.specs.Reading.{gives, refuses}
use Rattle.ending.specs.Text.{digits, decimal, line, steps, printed}

-- the greatest worth, and 0
pub greatest : decimal 65535 ≡ 54 ∷ 53 ∷ 53 ∷ 51 ∷ 53 ∷ []
unfolding digits
greatest = refl

pub least : decimal 0 ≡ 48 ∷ []
unfolding digits
least = refl

-- "`ending` on P prints the lines `1 0` and `author 0 5`"
pub of_P : printed (gives (record { list = 0 ∷ []; before = 0; after = 5 }))
    ≡ 49 ∷ 32 ∷ 48 ∷ 10 ∷ 97 ∷ 117 ∷ 116 ∷ 104 ∷ 111 ∷ 114 ∷ 32 ∷ 48 ∷ 32 ∷ 53 ∷ 10 ∷ []
unfolding digits line steps
of_P = refl

-- `refused 13 at 0`
pub no_ending : printed (refuses 13 0)
    ≡ 114 ∷ 101 ∷ 102 ∷ 117 ∷ 115 ∷ 101 ∷ 100 ∷ 32 ∷ 49 ∷ 51 ∷ 32 ∷ 97 ∷ 116 ∷ 32 ∷ 48 ∷ 10 ∷ []
unfolding digits line
no_ending = refl
