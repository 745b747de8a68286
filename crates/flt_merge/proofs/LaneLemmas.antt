-- Means of 32 samples and 32 others, in lanes of 16 bits.
use Rattle.std.proofs.Common.{◌≡◌, ◌∙◌, ℕ, ◌+◌, ◌*◌, ◌-◌, ◌/◌, ◌^◌, ◌<◌, ◌≤◌, List, [], ◌∷◌, Fits, w8, w16, length, get_or, map, replicate, ap, sym, refl, subst, arith, ⊎_elim}
use Rattle.std.proofs.lemmas.Bool.{cases_lt}
use Rattle.std.proofs.lemmas.Simd.{Each1-zip2, Each2-of, Each2-splat, length-chunk, get_or-chunk, length-zip2, get_or-zip2, get_or-put_chunk_below, get_or-put_chunk_at}
use Rattle.flt_merge.specs.Rows.{mean}
use lib.Lanes.{Each1, Each2, chunk, put_chunk, zip2}

-- the lanes of a sum, of that sum and 1, and of the mean, with as many ones as there are lanes
abbrev pub added : List ℕ → List ℕ → List ℕ
added a b = zip2 (λ x y. x + y) (map (λ s. s) a) (map (λ s. s) b)

abbrev pub raised : ℕ → List ℕ → List ℕ → List ℕ
raised n a b = zip2 (λ x y. x + y) (added a b) (replicate n 1)

abbrev pub halved : ℕ → List ℕ → List ℕ → List ℕ
halved n a b = zip2 (λ x y. x / 2 ^ y) (raised n a b) (replicate n 1)

-- SIZES

widened : (samples : List ℕ) → Each1 (Fits w8) samples → Each1 (Fits w8) (map (λ s. s) samples)
widened [] all = all
widened (sample ∷ rest) all = (all.0, widened rest all.1)

pairs : (R : ℕ → ℕ → Type 0) → ((x y : ℕ) → Fits w8 x → Fits w8 y → R x y) → (a b : List ℕ) → Each1 (Fits w8) a → Each1 (Fits w8) b → Each2 R (map (λ s. s) a) (map (λ s. s) b)
pairs R each a b fits_a fits_b = Each2-of (Fits w8) (Fits w8) R each (map (λ s. s) a) (map (λ s. s) b) (widened a fits_a) (widened b fits_b)

pub sums_fit : (a b : List ℕ) → Each1 (Fits w8) a → Each1 (Fits w8) b → Each2 (λ x y. Fits w16 (x + y)) (map (λ s. s) a) (map (λ s. s) b)
sums_fit a b fits_a fits_b = pairs (λ x y. Fits w16 (x + y)) (λ x y fits_x fits_y. omega (arith, fits_x, fits_y)) a b fits_a fits_b

pub raised_fit : (a b : List ℕ) → Each1 (Fits w8) a → Each1 (Fits w8) b → Each2 (λ x y. Fits w16 (x + y)) (added a b) (replicate 32 1)
raised_fit a b fits_a fits_b =
    Each2-splat (λ x y. Fits w16 (x + y)) (added a b) 32 1
    (Each1-zip2 (λ x y. x + y) (λ s. Fits w16 (s + 1)) (map (λ s. s) a) (map (λ s. s) b)
    (pairs (λ x y. Fits w16 (x + y + 1)) (λ x y fits_x fits_y. omega (arith, fits_x, fits_y)) a b fits_a fits_b))

pub means_fit : (a b : List ℕ) → Each1 (Fits w8) a → Each1 (Fits w8) b → Each1 (Fits w8) (halved 32 a b)
means_fit a b fits_a fits_b =
    Each1-zip2 (λ x y. x / 2 ^ y) (Fits w8) (raised 32 a b) (replicate 32 1)
    (Each2-splat (λ x y. Fits w8 (x / 2 ^ y)) (raised 32 a b) 32 1
    (Each1-zip2 (λ x y. x + y) (λ s. Fits w8 (s / 2 ^ 1)) (added a b) (replicate 32 1)
    (Each2-splat (λ x y. Fits w8 ((x + y) / 2 ^ 1)) (added a b) 32 1
    (Each1-zip2 (λ x y. x + y) (λ s. Fits w8 ((s + 1) / 2 ^ 1)) (map (λ s. s) a) (map (λ s. s) b)
    (pairs (λ x y. Fits w8 ((x + y + 1) / 2 ^ 1)) (λ x y fits_x fits_y. omega (arith, fits_x, fits_y)) a b fits_a fits_b)))))

-- VALUES

by_lanes : (a b : List ℕ) → map (λ s. s) (halved (length a) a b) ≡ zip2 mean a b
by_lanes [] b = refl
by_lanes (x ∷ a) [] = refl
by_lanes (x ∷ a) (y ∷ b) = ap (λ l. mean x y ∷ l) (by_lanes a b)

-- 32 more means
pub lanes_merged : (a b out : List ℕ) (k : ℕ) → 32 * k + 32 ≤ length out → length a ≡ length out → length b ≡ length out
    → ((x : ℕ) → x < 32 * k → get_or out x 0 ≡ mean (get_or a x 0) (get_or b x 0))
    → (x : ℕ) → x < 32 * (k + 1) → get_or (put_chunk (32 * k) out (map (λ s. s) (halved 32 (chunk (32 * k) 32 a) (chunk (32 * k) 32 b)))) x 0 ≡ mean (get_or a x 0) (get_or b x 0)
lanes_merged a b out k room same_a same_b done x less =
    let at : ℕ = 32 * k in
    let first : List ℕ = chunk at 32 a in
    let second : List ℕ = chunk at 32 b in
    let lanes : List ℕ = map (λ s. s) (halved 32 first second) in
    let long_a : length first ≡ 32 = length-chunk at 32 a (omega (arith, same_a)) in
    let long_b : length second ≡ 32 = length-chunk at 32 b (omega (arith, same_b)) in
    let are : lanes ≡ zip2 mean first second = subst (λ (n : ℕ). map (λ s. s) (halved n first second) ≡ zip2 mean first second) long_a (by_lanes first second) in
    let many : length lanes ≡ 32 = ap length are ∙ length-zip2 mean first second (long_a ∙ sym long_b) ∙ long_a in
    ⊎_elim
    (λ (before : x < at). get_or-put_chunk_below at out lanes x 0 before ∙ done x before)
    (λ (here : at ≤ x).
    let m : ℕ = x - at in
    let is : at + m ≡ x = omega arith in
    let below : m < 32 = omega arith in
    ap (λ n. get_or (put_chunk at out lanes) n 0) (sym is) ∙ get_or-put_chunk_at at out lanes m 0 (omega (arith, many)) (omega (arith, many))
    ∙ ap (λ l. get_or l m 0) are ∙ get_or-zip2 mean first second m 0 0 0 (omega (arith, long_a)) (omega (arith, long_b))
    ∙ ap (λ s. mean s (get_or second m 0)) (get_or-chunk at 32 a m 0 below ∙ ap (λ n. get_or a n 0) is)
    ∙ ap (λ s. mean (get_or a x 0) s) (get_or-chunk at 32 b m 0 below ∙ ap (λ n. get_or b n 0) is))
    (cases_lt x at)
