-- A number below 128 is one byte, so the parts of an accepted pack can be read byte by byte. Assumes nothing.
use Rattle.std.specs.Prelude.{ℕ, zero, suc, ◌+◌, ◌*◌, ◌-◌, ◌%◌, ◌<◌, ◌≤◌, ◌≡◌, refl, Bool, true, false, List, [], ◌∷◌}
use Rattle.std.specs.Prelude.{length, get_or, ltb, leb, eqb}
use Rattle.std.proofs.Common.{sym, ap, ◌∙◌, subst, add-zero, sub-one, arith, ltb-true, ltb-false, leb-false}
use Rattle.std.proofs.lemmas.Bool.{eqb-false}
use Rattle.pack.specs.Syntax.{Test, Effect}
use Rattle.pack.specs.Reading.{Reading, done, refused, pick, mapped, runs, many}
use Rattle.pack.specs.Number.{number_at, between, item, counted, rising_at}
use Rattle.pack.specs.Grammar.{Dimensions, kind_of, fluent_at, value_at, test_at, effect_at, consenters_at}
use Rattle.pack.specs.State.{Valid}
use Rattle.pack.specs.Duties.Table.{bytes_at}
use Rattle.pack.specs.Duties.Judge.{Small, Readable}
use Rattle.pack.specs.Laws.Reading.{never, same_value, same_place, both, unmapped, passed, failed}
use Rattle.pack.specs.Laws.Number.{between_within}

-- the number v is the byte at a place
pub record ByteAt (s : List ℕ) (at v n : ℕ) : Type 0 where
  pub next : n ≡ at + 1
  pub value : get_or s at 0 ≡ v
  pub inside : at < length s

abbrev One : ℕ → ℕ → ℕ → ℕ → ℕ → Type 0
One l a at v n = (n ≡ at + 1) × (a ≡ v) × (at < l)

third : (a b d at v n : ℕ) (x y z : Bool) → eqb d 0 ≡ y → ltb 3 d ≡ z → v < 128 → (l : ℕ)
    → pick x (refused 1 l) (pick y (refused 2 at)
    (pick z (refused 2 at) (done (a % 128 + 128 * (b % 128) + 16384 * (d % 128)) (at + 3)))) ≡ done v n
    → One l a at v n
third a b d at v n true y z p q h l e = never e
third a b d at v n false true z p q h l e = never e
third a b d at v n false false true p q h l e = never e
third a b d at v n false false false p q h l e =
    let i : a % 128 + 128 * (b % 128) + 16384 * (d % 128) ≡ v = same_value e in
    let j = eqb-false d 0 p in
    let k = ltb-false 3 d q in
    absurd (omega arith)

second : (a b at v n l : ℕ) (x y z : Bool) → eqb b 0 ≡ y → ltb b 128 ≡ z → v < 128 → (r : Reading ℕ)
    → (r ≡ done v n → One l a at v n)
    → pick x (refused 1 l) (pick y (refused 2 at) (pick z (done (a % 128 + 128 * (b % 128)) (at + 2)) r)) ≡ done v n
    → One l a at v n
second a b at v n l true y z p q h r f e = never e
second a b at v n l false true z p q h r f e = never e
second a b at v n l false false true p q h r f e =
    let i : a % 128 + 128 * (b % 128) ≡ v = same_value e in
    let j = eqb-false b 0 p in
    let k = ltb-true b 128 q in
    absurd (omega arith)
second a b at v n l false false false p q h r f e = f e

first : (a at v n l : ℕ) (x y : Bool) → leb l at ≡ x → ltb a 128 ≡ y → v < 128 → (r : Reading ℕ)
    → (r ≡ done v n → One l a at v n)
    → pick x (refused 1 l) (pick y (done (a % 128) (at + 1)) r) ≡ done v n → One l a at v n
first a at v n l true y w p h r f e = never e
first a at v n l false true w p h r f e =
    let i : a % 128 ≡ v = same_value e in
    let j : at + 1 ≡ n = same_place e in
    let k = ltb-true a 128 p in
    let m = leb-false l at w in
    (omega arith, omega arith, omega arith)
first a at v n l false false w p h r f e = f e

pub one_byte : (s : List ℕ) (at v n : ℕ) → number_at s at ≡ done v n → v < 128 → ByteAt s at v n
unfolding number_at
one_byte s at v n e h =
    let a = get_or s at 0 in
    let b = get_or s (at + 1) 0 in
    let d = get_or s (at + 2) 0 in
    let l = length s in
    let o = first a at v n l (leb l at) (ltb a 128) refl refl h _
    (second a b at v n l (leb l (at + 1)) (eqb b 0) (ltb b 128) refl refl h _
    (third a b d at v n (leb l (at + 2)) (eqb d 0) (ltb 3 d) refl refl h l))
    e in
    record { next = o.0; value = o.1; inside = o.2 }

pub between_byte : (low limit number : ℕ) (s : List ℕ) (at v n : ℕ) → limit ≤ 128
    → between low limit number s at ≡ done v n → ByteAt s at v n
unfolding between
between_byte low limit number s at v n h e =
    let b = both (number_at s at)
    (λ v n. pick (ltb v low) (refused number at) (pick (ltb v limit) (done v n) (refused number at))) v n e in
    let (under, rest) = failed (ltb b.value low) number at
    (pick (ltb b.value limit) (done b.value b.place) (refused number at)) v n b.right in
    let (below, given) = passed (ltb b.value limit) number at (done b.value b.place) v n rest in
    one_byte s at v n (b.left ∙ given)
    (let q = ltb-true b.value limit below in let same = same_value given in omega arith)

pub bytes_one : (s : List ℕ) (n left : ℕ) → 0 < left → bytes_at s n left ≡ get_or s n 0 ∷ bytes_at s (n + 1) (left - 1)
unfolding bytes_at
bytes_one s n zero h = absurd (omega arith)
bytes_one s n (suc left) h = simp sub-one

pub bytes_none : (s : List ℕ) (n left : ℕ) → left ≤ 0 → bytes_at s n left ≡ []
unfolding bytes_at
bytes_none s n zero h = refl
bytes_none s n (suc left) h = absurd (omega arith)

-- a run of characters is a run of bytes
pub record Chain (C : ℕ) (s : List ℕ) (at k : ℕ) (chain : List ℕ) (n : ℕ) : Type 0 where
  pub bytes : chain ≡ bytes_at s at k
  pub ends : n ≡ at + k
  pub valid : Valid C (bytes_at s at k)

pub chain_bytes : (C : ℕ) (s : List ℕ) (at k : ℕ) (chain : List ℕ) (n : ℕ) → C ≤ 128
    → many (item C) k s at ≡ done chain n → Chain C s at k chain n
unfolding runs bytes_at Valid
chain_bytes C s at zero chain n h e =
    record { bytes = sym (same_value e); ends = sym (same_place e) ∙ sym (add-zero at); valid = tt }
chain_bytes C s at (suc k) chain n h e =
    let b = both (item C s at) (λ a n. mapped (λ rest. a ∷ rest) (many (item C) k s n)) chain n e in
    let u = unmapped (λ rest. b.value ∷ rest) (many (item C) k s b.place) chain n b.right in
    let w = between_within 0 C 4 s at b.value b.place b.left in
    let o = between_byte 0 C 4 s at b.value b.place h b.left in
    let r = chain_bytes C s (at + 1) k u.value n h (ap (many (item C) k s) (sym o.next) ∙ u.left) in
    record {
      bytes = sym u.right ∙ ap (λ (v : ℕ). v ∷ u.value) (sym o.value)
          ∙ ap (λ (l : List ℕ). get_or s at 0 ∷ l) r.bytes;
      ends = r.ends ∙ (let x : (at + 1) + k ≡ at + suc k = omega arith in x);
      valid = (let y = o.value in let z = w.1 in omega arith, r.valid);
    }

-- a test, byte by byte: the length of its chain, the chain, the kind, the fluent and the value
pub record TestBytes (d : Dimensions) (s : List ℕ) (at : ℕ) (x : Test) (n : ℕ) : Type 0 where
  pub chain : x.chain ≡ bytes_at s (at + 1) (get_or s at 0)
  pub valid : Valid d.characters (bytes_at s (at + 1) (get_or s at 0))
  pub kind : x.kind ≡ kind_of (get_or s ((at + 1) + get_or s at 0) 0)
  pub known : get_or s ((at + 1) + get_or s at 0) 0 < 3
  pub fluent : x.fluent ≡ get_or s (((at + 1) + get_or s at 0) + 1) 0
  pub below : get_or s (((at + 1) + get_or s at 0) + 1) 0 < length d.domains
  pub value : x.value ≡ get_or s (((at + 1) + get_or s at 0) + 2) 0
  pub ends : n ≡ ((at + 1) + get_or s at 0) + 3
  pub inside : ((at + 1) + get_or s at 0) + 2 < length s

pub test_bytes_lem : (d : Dimensions) → Small d → (s : List ℕ) (at : ℕ) (x : Test) (n : ℕ) → test_at d s at ≡ done x n
    → TestBytes d s at x n
unfolding test_at
test_bytes_lem d small s at x n e =
    let b0 = both (counted 0 5 (item d.characters) s at) _ x n e in
    let c0 = both (between 0 5 3 s at) (λ k n. many (item d.characters) k s n) b0.value b0.place b0.left in
    let o0 = between_byte 0 5 3 s at c0.value c0.place (omega arith) c0.left in
    let k = get_or s at 0 in
    let chain0 : many (item d.characters) k s (at + 1)
    ≡ done b0.value b0.place = ap (λ (v : ℕ). many (item d.characters) v s (at + 1)) o0.value
    ∙ ap (many (item d.characters) c0.value s) (sym o0.next) ∙ c0.right in
    let ch = chain_bytes d.characters s (at + 1) k b0.value b0.place
    (let q = small.characters in omega arith) chain0 in
    let m = (at + 1) + k in
    let b1 = both (item 3 s b0.place) _ x n b0.right in
    let e1 : item 3 s m ≡ done b1.value b1.place = ap (item 3 s) (sym ch.ends) ∙ b1.left in
    let o1 = between_byte 0 3 4 s m b1.value b1.place (omega arith) e1 in
    let w1 = between_within 0 3 4 s m b1.value b1.place e1 in
    let b2 = both (fluent_at d s b1.place) _ x n b1.right in
    let e2 : fluent_at d s (m + 1) ≡ done b2.value b2.place = ap (fluent_at d s) (sym o1.next) ∙ b2.left in
    let o2 = between_byte 0 (length d.domains) 4 s (m + 1) b2.value b2.place
    (let q = small.fluents in omega arith) e2 in
    let w2 = between_within 0 (length d.domains) 4 s (m + 1) b2.value b2.place e2 in
    let u = unmapped (λ value.
    record { chain = b0.value; kind = kind_of b1.value; fluent = b2.value; value = value })
    (value_at d b2.value s b2.place) x n b2.right in
    let two : (m + 1) + 1 ≡ m + 2 = omega arith in
    let e3 : value_at d b2.value s (m + 2) ≡ done u.value n = ap (value_at d b2.value s) (sym (o2.next ∙ two))
    ∙ u.left in
    let o3 = between_byte 0 (get_or d.domains b2.value 0) 4 s (m + 2) u.value n (small.sizes b2.value) e3 in
    record {
      chain = ap (λ (y : Test). y.chain) (sym u.right) ∙ ch.bytes;
      valid = ch.valid;
      kind = ap (λ (y : Test). y.kind) (sym u.right) ∙ ap kind_of (sym o1.value);
      known = let p = o1.value in let q = w1.1 in omega arith;
      fluent = ap (λ (y : Test). y.fluent) (sym u.right) ∙ sym o2.value;
      below = let p = o2.value in let q = w2.1 in omega arith;
      value = ap (λ (y : Test). y.value) (sym u.right) ∙ sym o3.value;
      ends = let p = o3.next in omega arith;
      inside = o3.inside;
    }

-- a chain that is left: its first character, and the rest
pub valid_first : (C : ℕ) (s : List ℕ) (n left : ℕ) → 0 < left → Valid C (bytes_at s n left) → get_or s n 0 < C
unfolding bytes_at Valid
valid_first C s n zero h v = absurd (omega arith)
valid_first C s n (suc left) h v = v.0

pub valid_rest : (C : ℕ) (s : List ℕ) (n left : ℕ) → 0 < left → Valid C (bytes_at s n left)
    → Valid C (bytes_at s (n + 1) (left - 1))
unfolding bytes_at Valid
valid_rest C s n zero h v = absurd (omega arith)
valid_rest C s n (suc left) h v = rw sub-one v.1

-- what of a test's bytes keeps its reader within the pack, where its chain has k characters
pub record TestIn (d : Dimensions) (C F : ℕ) (s : List ℕ) (at k : ℕ) : Type 0 where
  pub valid : Valid C (bytes_at s (at + 1) k)
  pub known : get_or s ((at + 1) + k) 0 < 3
  pub below : get_or s (((at + 1) + k) + 1) 0 < F
  pub inside : ((at + 1) + k) + 2 < length s

pub test_in : (d : Dimensions) (C F : ℕ) → Small d → d.characters ≡ C → length d.domains ≡ F
    → (s : List ℕ) (at : ℕ) (x : Test) (n : ℕ) → test_at d s at ≡ done x n → (k : ℕ) → get_or s at 0 ≡ k
    → TestIn d C F s at k
test_in d C F small ec ef s at x n e k q =
    let b = test_bytes_lem d small s at x n e in
    subst (TestIn d C F s at) q (record {
      valid = subst (λ (c : ℕ). Valid c (bytes_at s (at + 1) (get_or s at 0))) ec b.valid;
      known = b.known;
      below = let p = b.below in omega arith;
      inside = b.inside;
    })

-- an effect, byte by byte: whom, the fluent and the value
pub record EffectBytes (d : Dimensions) (s : List ℕ) (at : ℕ) (x : Effect) (n : ℕ) : Type 0 where
  pub whom : x.whom ≡ get_or s at 0
  pub fluent : x.fluent ≡ get_or s (at + 1) 0
  pub below : get_or s (at + 1) 0 < length d.domains
  pub value : x.value ≡ get_or s (at + 2) 0
  pub ends : n ≡ at + 3
  pub inside : at + 2 < length s

pub effect_bytes_lem : (d : Dimensions) → Small d → (s : List ℕ) (at : ℕ) (x : Effect) (n : ℕ)
    → effect_at d s at ≡ done x n
    → EffectBytes d s at x n
unfolding effect_at
effect_bytes_lem d small s at x n e =
    let b1 = both (item (d.characters + 1) s at) _ x n e in
    let o1 = between_byte 0 (d.characters + 1) 4 s at b1.value b1.place
    (let q = small.characters in omega arith) b1.left in
    let b2 = both (fluent_at d s b1.place) _ x n b1.right in
    let e2 : fluent_at d s (at + 1) ≡ done b2.value b2.place = ap (fluent_at d s) (sym o1.next) ∙ b2.left in
    let o2 = between_byte 0 (length d.domains) 4 s (at + 1) b2.value b2.place
    (let q = small.fluents in omega arith) e2 in
    let w2 = between_within 0 (length d.domains) 4 s (at + 1) b2.value b2.place e2 in
    let u = unmapped (λ value. record { whom = b1.value; fluent = b2.value; value = value })
    (value_at d b2.value s b2.place) x n b2.right in
    let two : (at + 1) + 1 ≡ at + 2 = omega arith in
    let e3 : value_at d b2.value s (at + 2) ≡ done u.value n = ap (value_at d b2.value s) (sym (o2.next ∙ two))
    ∙ u.left in
    let o3 = between_byte 0 (get_or d.domains b2.value 0) 4 s (at + 2) u.value n (small.sizes b2.value) e3 in
    record {
      whom = ap (λ (y : Effect). y.whom) (sym u.right) ∙ sym o1.value;
      fluent = ap (λ (y : Effect). y.fluent) (sym u.right) ∙ sym o2.value;
      below = let p = o2.value in let q = w2.1 in omega arith;
      value = ap (λ (y : Effect). y.value) (sym u.right) ∙ sym o3.value;
      ends = let p = o3.next in omega arith;
      inside = o3.inside;
    }

pub rising_byte : (C least : ℕ) (s : List ℕ) (at v n : ℕ) → C ≤ 128 → rising_at C least s at ≡ done v n
    → ByteAt s at v n
unfolding rising_at
rising_byte C least s at v n h e =
    let b = both (item C s at) (λ v n. pick (ltb v least) (refused 6 at) (done v n)) v n e in
    let (rises, given) = failed (ltb b.value least) 6 at (done b.value b.place) v n b.right in
    between_byte 0 C 4 s at v n h (b.left ∙ given)

-- consenters, byte by byte
pub rising_bytes : (C : ℕ) (s : List ℕ) (k least at : ℕ) (cs : List ℕ) (n : ℕ) → C ≤ 128
    → runs (rising_at C) (λ least v. v + 1) least k s at ≡ done cs n
    → (length cs ≡ k) × ((i : ℕ) → i < k → (get_or cs i 0 ≡ get_or s (at + i) 0) × (at + i < length s))
unfolding runs
rising_bytes C s zero least at cs n h e = (ap length (sym (same_value e)), λ i l. absurd (omega arith))
rising_bytes C s (suc k) least at cs n h e =
    let b = both (rising_at C least s at)
    (λ a n. mapped (λ rest. a ∷ rest) (runs (rising_at C) (λ least v. v + 1) (a + 1) k s n)) cs n e in
    let u = unmapped (λ rest. b.value ∷ rest) (runs (rising_at C) (λ least v. v + 1) (b.value + 1) k s b.place) cs n
    b.right in
    let o = rising_byte C least s at b.value b.place h b.left in
    let (long, rest) = rising_bytes C s k (b.value + 1) (at + 1) u.value n h
    (ap (runs (rising_at C) (λ least v. v + 1) (b.value + 1) k s) (sym o.next) ∙ u.left) in
    (ap length (sym u.right) ∙ ap suc long, go b.value u.value u.right o.value o.inside rest)
  where
    go : (v : ℕ) (vs : List ℕ) → v ∷ vs ≡ cs → get_or s at 0 ≡ v → at < length s
        → ((i : ℕ) → i < k → (get_or vs i 0 ≡ get_or s ((at + 1) + i) 0) × ((at + 1) + i < length s))
        → (i : ℕ) → i < suc k → (get_or cs i 0 ≡ get_or s (at + i) 0) × (at + i < length s)
    go v vs same value inside rest zero l = (
      ap (λ (c : List ℕ). get_or c 0 0) (sym same) ∙ sym value ∙ ap (λ (j : ℕ). get_or s j 0) (sym (add-zero at)),
      omega arith,
    )
    go v vs same value inside rest (suc i) l =
        let r = rest i (omega arith) in
        let e : (at + 1) + i ≡ at + suc i = omega arith in (
          ap (λ (c : List ℕ). get_or c (suc i) 0) (sym same) ∙ r.0 ∙ ap (λ (j : ℕ). get_or s j 0) e,
          let m = r.1 in omega arith,
        )

pub record ConsenterBytes (s : List ℕ) (at : ℕ) (cs : List ℕ) : Type 0 where
  pub inside : at < length s
  pub long : length cs ≡ get_or s at 0
  pub each : (i : ℕ) → i < get_or s at 0 → (get_or cs i 0 ≡ get_or s ((at + 1) + i) 0) × ((at + 1) + i < length s)

pub consenter_bytes : (d : Dimensions) → Small d → (s : List ℕ) (at : ℕ) (cs : List ℕ) (n : ℕ)
    → consenters_at d s at ≡ done cs n → ConsenterBytes s at cs
unfolding consenters_at
consenter_bytes d small s at cs n e =
    let b = both (between 0 7 3 s at) (λ k n. runs (rising_at d.characters) (λ least v. v + 1) 0 k s n) cs n e in
    let o = between_byte 0 7 3 s at b.value b.place (omega arith) b.left in
    let k = get_or s at 0 in
    let run : runs (rising_at d.characters) (λ least v. v + 1) 0 k s (at + 1) ≡ done cs n
    = ap (λ (v : ℕ). runs (rising_at d.characters) (λ least v. v + 1) 0 v s (at + 1)) o.value
    ∙ ap (runs (rising_at d.characters) (λ least v. v + 1) 0 b.value s) (sym o.next) ∙ b.right in
    let r = rising_bytes d.characters s k 0 (at + 1) cs n (let q = small.characters in omega arith) run in
    record { inside = o.inside; long = r.0; each = r.1 }

-- where a test or an effect is read, its bytes stand
pub test_read : {s : List ℕ} {at : ℕ} → Readable test_at s at → ((at + 1) + get_or s at 0) + 2 < length s
test_read {s} {at} x = (test_bytes_lem x.over x.small s at x.value x.end x.reads).inside

pub effect_read : {s : List ℕ} {at : ℕ} → Readable effect_at s at → at + 2 < length s
effect_read {s} {at} x = (effect_bytes_lem x.over x.small s at x.value x.end x.reads).inside

bytes_length : (s : List ℕ) (at k : ℕ) → length (bytes_at s at k) ≡ k
unfolding bytes_at
bytes_length s at zero = refl
bytes_length s at (suc k) = let e = bytes_length s (at + 1) k in omega (arith, e)

-- the chain of a test is as long as its first byte says
pub chain_length : (d : Dimensions) → Small d → (s : List ℕ) (at : ℕ) (x : Test) (n : ℕ) → test_at d s at ≡ done x n
    → get_or s at 0 ≡ length x.chain
chain_length d small s at x n e =
    sym (ap length (test_bytes_lem d small s at x n e).chain ∙ bytes_length s (at + 1) (get_or s at 0))
