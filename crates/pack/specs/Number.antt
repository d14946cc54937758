-- The number that starts at a position, and a number with its limits. Document 01, "The pack" and "Numbers handed
-- back".
use Rattle.std.specs.Prelude.{ℕ, ◌+◌, ◌*◌, ◌%◌, ◌-◌, List, length, get_or, ltb, leb, eqb}
use Rattle.pack.specs.Reading.{done, refused, Reader, pick, bind, many}

-- "A number is written in groups of seven bits, lowest first, the top bit (80 hexadecimal) set on all but the last; at
-- most three bytes, at most 65,535, shortest form only." A last group of 0 behind others is not shortest (2); a third
-- byte above 3 is above 65,535 or not the last (2). "bytes end in a number of which fewer than three are there" is 1,
-- at "the length of what was lent"; 2 is at "the first byte of the number at fault".
unfoldable pub number_at : Reader ℕ
number_at s at =
    let a : ℕ = get_or s at 0 in
    let b : ℕ = get_or s (at + 1) 0 in
    let d : ℕ = get_or s (at + 2) 0 in
    pick (leb (length s) at) (refused 1 (length s))
    (pick (ltb a 128) (done (a % 128) (at + 1))
    (pick (leb (length s) (at + 1)) (refused 1 (length s))
    (pick (eqb b 0) (refused 2 at)
    (pick (ltb b 128) (done (a % 128 + 128 * (b % 128)) (at + 2))
    (pick (leb (length s) (at + 2)) (refused 1 (length s))
    (pick (eqb d 0) (refused 2 at)
    (pick (ltb 3 d) (refused 2 at)
    (done (a % 128 + 128 * (b % 128) + 16384 * (d % 128)) (at + 3)))))))))

-- a number from low up to, not including, limit; any other is refused under the number given, at its first byte
unfoldable pub between : (low limit number : ℕ) → Reader ℕ
between low limit number s at =
    bind (number_at s at)
    (λ v n. pick (ltb v low) (refused number at) (pick (ltb v limit) (done v n) (refused number at)))

-- one of the things that are numbered from 0: "character, fluent, value, node, whom or kind that isn't there" is 4
abbrev pub item : (limit : ℕ) → Reader ℕ
item limit = between 0 limit 4

-- "every count stands before what it counts"; "version, count, domain size or chain length outside its limits" is 3
abbrev pub counted : {A : Type 0} → (low limit : ℕ) → Reader A → Reader (List A)
counted low limit p s at = bind (between low limit 3 s at) (λ k n. many p k s n)

-- "per character the believed node's number plus 1. A 0 there is a blank and is refused": 5, tested before 4
unfoldable pub belief_at : (nodes : ℕ) → Reader ℕ
belief_at nodes s at =
    bind (number_at s at) (λ v n. pick (eqb v 0) (refused 5 at) (pick (leb v nodes) (done (v - 1) n) (refused 4 at)))

-- a character above the one before it, `least` being the lowest that is: "consenters not rising" is 6, tested after 4
unfoldable pub rising_at : (characters least : ℕ) → Reader ℕ
rising_at characters least s at = bind (item characters s at) (λ v n. pick (ltb v least) (refused 6 at) (done v n))
