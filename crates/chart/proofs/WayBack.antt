-- The way back from an entry to the first, written as a chain from its end on. Assumes nothing.
use Rattle.std.proofs.Common.{◌≡◌, sym, ◌∙◌, ap, List, [], ◌∷◌, ◌++◌, ℕ, suc, ◌+◌, ◌-◌, ◌<◌, ◌≤◌, arith, get_or, length}
use Rattle.std.proofs.Common.{set, length-append, ext_get_or, get_or-set_same, get_or-set_other}
use Rattle.std.proofs.Math.Logic.{by_cases}
use Rattle.std.proofs.Math.Decide.{ℕ_discrete}
use Rattle.std.proofs.Math.ListN.{get_or-append}
use Rattle.std.proofs.Math.Seq.{get_or-append_seam}
use Rattle.pack.specs.Duties.Table.{Above}
use Rattle.pack.specs.Laws.Rows.{cells_at}
use Rattle.chart.specs.Inner.Pairs.{from_at, char_at, Ways, WayWritten}
use Rattle.chart.specs.Laws.Cells.{cells-length}

module _ {bytes : List ℕ} {q e : ℕ} (x : Ways bytes q e) (at p : ℕ) (some : 0 < at) (within : at ≤ e) (back : p ≡ from_at bytes q at) where
  -- the chain by which an entry was met is that of the entry before it, and a character
  way_on : x.way at ≡ x.way p ++ (char_at bytes q at ∷ [])
  way_on = (x.on at some within).1 ∙ ap (λ (p : ℕ). x.way p ++ (char_at bytes q at ∷ [])) (sym back)

  pub way_step : (p < at) × (length (x.way at) ≡ suc (length (x.way p)))
  way_step = (omega (arith, (x.on at some within).0), omega (arith, ap length way_on, length-append (x.way p) (char_at bytes q at ∷ [])))

  way_low : (j : ℕ) → j < length (x.way p) → get_or (x.way p) j 0 ≡ get_or (x.way at) j 0
  way_low j h = sym (get_or-append (x.way p) (char_at bytes q at ∷ []) 0 j h) ∙ ap (λ (l : List ℕ). get_or l j 0) (sym way_on)

  way_last : char_at bytes q at ≡ get_or (x.way at) (length (x.way p)) 0
  way_last = sym (get_or-append_seam (x.way p) (char_at bytes q at) [] 0) ∙ ap (λ (l : List ℕ). get_or l (length (x.way p)) 0) (sym way_on)

-- From entry e back to entry `at` the last characters of the chain are written, from i on
pub record Tracing (bytes was now : List ℕ) (q e k at i : ℕ) : Type 0 where
  pub within : at ≤ e
  pub long : (x : Ways bytes q e) → length (x.way e) ≡ k → length (x.way at) ≡ i
  pub low : (x : Ways bytes q e) → length (x.way e) ≡ k → (j : ℕ) → j < i → get_or (x.way at) j 0 ≡ get_or (x.way e) j 0
  pub written : (x : Ways bytes q e) → length (x.way e) ≡ k → (j : ℕ) → i ≤ j → j < k → get_or now j 0 ≡ get_or (x.way e) j 0
  pub shorter : i ≤ k
  pub high : Above was now k

module _ {bytes was now : List ℕ} {q e k at i : ℕ} (g : Tracing bytes was now q e k at i) where
  -- while characters are left the entry is not the first
  pub tracing_some : (x : Ways bytes q e) → length (x.way e) ≡ k → 0 < i → 0 < at
  tracing_some x h left = by_cases (ℕ_discrete at 0)
      (λ z. absurd (omega (arith, g.long x h, ap (λ (at : ℕ). length (x.way at)) z, ap length x.root)))
      (λ n. omega (arith, n))

  pub tracing_more : (x : Ways bytes q e) → length (x.way e) ≡ k → 0 < i → k ≤ length now → (p : ℕ) → p ≡ from_at bytes q at → Tracing bytes was (set now (i - 1) (char_at bytes q at)) q e k p (i - 1)
  tracing_more x₀ h₀ positive room p back = record {
    within = omega (arith, g.within, (way_step x₀ at p some g.within back).0);
    long = shorter;
    low = λ x h j l. way_low x at p some g.within back j (omega (arith, shorter x h)) ∙ g.low x h j (omega arith);
    written = λ x h j l b. by_cases (ℕ_discrete j (i - 1)) (λ z. here x h j z) (λ z. get_or-set_other now (i - 1) j (char_at bytes q at) 0 z ∙ g.written x h j (omega arith) b);
    shorter = omega (arith, g.shorter);
    high = λ j l. get_or-set_other now (i - 1) j (char_at bytes q at) 0 (λ z. omega (arith, positive, g.shorter)) ∙ g.high j l;
  }
    where
      some : 0 < at
      some = tracing_some x₀ h₀ positive

      shorter : (x : Ways bytes q e) → length (x.way e) ≡ k → length (x.way p) ≡ i - 1
      shorter x h = omega (arith, g.long x h, (way_step x at p some g.within back).1)

      here : (x : Ways bytes q e) → length (x.way e) ≡ k → (j : ℕ) → j ≡ i - 1 → get_or (set now (i - 1) (char_at bytes q at)) j 0 ≡ get_or (x.way e) j 0
      here x h j z =
          ap (λ (j : ℕ). get_or (set now (i - 1) (char_at bytes q at)) j 0) z ∙ get_or-set_same now (i - 1) (char_at bytes q at) 0 (omega (arith, positive, g.shorter))
          ∙ way_last x at p some g.within back ∙ ap (λ (j : ℕ). get_or (x.way at) j 0) (shorter x h ∙ sym z) ∙ g.low x h j (omega (arith, positive))

  pub tracing_end : i ≤ 0 → WayWritten bytes was now q e k
  tracing_end z = record {
    chain = λ x h. ext_get_or 0 _ (x.way e) (cells-length now 0 k ∙ sym h) (λ j l. let b : j < k = omega (arith, cells-length now 0 k) in
        let y : 0 + j ≡ j = omega arith in
        cells_at now 0 k j b ∙ ap (λ (p : ℕ). get_or now p 0) y ∙ g.written x h j (omega arith) b);
    high = g.high;
  }
