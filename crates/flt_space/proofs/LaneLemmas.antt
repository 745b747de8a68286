-- Rows that are changed in their place, 32 samples at a time.
use Rattle.std.proofs.Common.{◌≡◌, ◌∙◌, ℕ, ◌+◌, ◌*◌, ◌-◌, ◌^◌, ◌<◌, ◌≤◌, min, max, Bool, cond, ltb, List, [], ◌∷◌, length, get_or, map, replicate, w8, ap, sym, refl, subst, arith, ⊎_elim}
use Rattle.std.proofs.lemmas.Bool.{cases_lt}
use Rattle.std.proofs.lemmas.List.{get_or-map, length-map}
use Rattle.std.proofs.lemmas.Simd.{length-chunk, get_or-chunk, length-put_chunk, get_or-put_chunk_below, get_or-put_chunk_at, get_or-put_chunk_above, tops_compared}
use Rattle.std.proofs.lemmas.Grind.{common_steps}
use Rattle.clip_term.specs.Space.{limited}
use lib.Lanes.{chunk, put_chunk, zip2, sel_l, top}
use mir.Val.{bits, hbits}

-- the first samples of a row are changed, and the others are what they were
pub record IsChanged (f : ℕ → ℕ) (old row : List ℕ) (count : ℕ) : Type 0 where
  pub long : length row ≡ length old
  pub done : (x : ℕ) → x < count → get_or row x 0 ≡ f (get_or old x 0)
  pub left : (x : ℕ) → count ≤ x → get_or row x 0 ≡ get_or old x 0

pub lanes_changed : (f : ℕ → ℕ) (old row lanes : List ℕ) (k : ℕ) → IsChanged f old row (32 * k) → 32 * k + 32 ≤ length row → lanes ≡ map f (chunk (32 * k) 32 row)
    → IsChanged f old (put_chunk (32 * k) row lanes) (32 * (k + 1))
lanes_changed f old row lanes k so room are =
    let samples = length-chunk (32 * k) 32 row room in
    let many : length lanes ≡ 32 = ap length are ∙ length-map (chunk (32 * k) 32 row) f ∙ samples in
    record {
      long = length-put_chunk (32 * k) row lanes ∙ so.long;
      done = λ x less. ⊎_elim
          (λ (before : x < 32 * k). get_or-put_chunk_below (32 * k) row lanes x 0 before ∙ so.done x before)
          (λ (here : 32 * k ≤ x).
          let m : ℕ = x - 32 * k in
          let is : 32 * k + m ≡ x = omega arith in
          ap (λ n. get_or (put_chunk (32 * k) row lanes) n 0) (sym is) ∙ get_or-put_chunk_at (32 * k) row lanes m 0 (omega (arith, many)) (omega (arith, many))
          ∙ ap (λ l. get_or l m 0) are ∙ get_or-map f (chunk (32 * k) 32 row) m 0 0 (omega (arith, samples))
          ∙ ap f (get_or-chunk (32 * k) 32 row m 0 (omega arith) ∙ ap (λ n. get_or row n 0) is ∙ so.left x here))
          (cases_lt x (32 * k));
      left = λ x after. get_or-put_chunk_above (32 * k) row lanes x 0 (omega (arith, many)) ∙ so.left x (omega arith);
    }

-- BOUNDS

greater : (sample bound : ℕ) → cond (ltb sample bound) bound sample ≡ max sample bound
greater sample bound = grind (arith, common_steps)

lesser : (sample bound : ℕ) → cond (ltb sample bound) sample bound ≡ min sample bound
lesser sample bound = grind (arith, common_steps)

-- where a mask tells which lanes are below a bound, either side may be chosen by it
abbrev masks : List ℕ → List ℕ → List Bool
masks a b = map (top (hbits w8)) (zip2 (λ x y. cond (ltb x y) (2 ^ bits w8 - 1) 0) a b)

abbrev pub limited_lanes : ℕ → ℕ → List ℕ → List ℕ
limited_lanes low high samples =
    let raised : List ℕ = sel_l (masks samples (replicate 32 low)) (replicate 32 low) samples in
    sel_l (masks raised (replicate 32 high)) raised (replicate 32 high)

-- of a bound for each lane
by_lanes : (low high : ℕ) (samples : List ℕ)
    → let lows : List ℕ = replicate (length samples) low in
    let highs : List ℕ = replicate (length samples) high in
    let raised : List ℕ = sel_l (zip2 ltb samples lows) lows samples in
    sel_l (zip2 ltb raised highs) raised highs ≡ map (limited low high) samples
by_lanes low high [] = refl
by_lanes low high (sample ∷ rest) =
    let first : ℕ = cond (ltb sample low) low sample in
    ap (λ l. cond (ltb first high) first high ∷ l) (by_lanes low high rest)
    ∙ ap (λ n. n ∷ map (limited low high) rest) (ap (λ n. cond (ltb n high) n high) (greater sample low) ∙ lesser (max sample low) high)

pub lanes_limited : (low high : ℕ) (samples : List ℕ) → length samples ≡ 32 → limited_lanes low high samples ≡ map (limited low high) samples
lanes_limited low high samples long =
    let lows : List ℕ = replicate 32 low in
    let highs : List ℕ = replicate 32 high in
    let raised : List ℕ = sel_l (zip2 ltb samples lows) lows samples in
    ap (λ ms. sel_l (masks (sel_l ms lows samples) highs) (sel_l ms lows samples) highs) (tops_compared w8 ltb samples lows)
    ∙ ap (λ ms. sel_l ms raised highs) (tops_compared w8 ltb raised highs)
    ∙ subst (λ (n : ℕ). sel_l (zip2 ltb (sel_l (zip2 ltb samples (replicate n low)) (replicate n low) samples) (replicate n high)) (sel_l (zip2 ltb samples (replicate n low)) (replicate n low) samples) (replicate n high) ≡ map (limited low high) samples)
    long (by_lanes low high samples)
