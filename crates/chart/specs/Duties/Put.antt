-- What writing bytes leaves. Assumes nothing.
use Rattle.std.specs.Prelude.{◌≡◌, List, ℕ, ◌+◌, ◌-◌, ◌<◌, ◌≤◌, get_or}
use Rattle.pack.specs.Duties.Table.{Below, Above}

-- the k bytes from a on are 0
pub record Cleared (was now : List ℕ) (a k : ℕ) : Type 0 where
  pub clear : (q : ℕ) → q < k → get_or now (a + q) 0 ≡ 0
  pub low : Below was now a
  pub high : Above was now (a + k)

-- the k bytes from a on and those from b on have none in common: of the two differences one is 0
abbrev pub Apart : (a b k : ℕ) → Type 0
Apart a b k = k ≤ (a - b) + (b - a)

-- the k bytes from a on stand from b on too
pub record PartCopied (was now : List ℕ) (a b k : ℕ) : Type 0 where
  pub part : (q : ℕ) → q < k → get_or now (b + q) 0 ≡ get_or was (a + q) 0
  pub low : Below was now b
  pub high : Above was now (b + k)
