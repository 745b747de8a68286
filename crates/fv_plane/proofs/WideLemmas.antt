-- Samples of two bytes and their bytes.
use Rattle.std.proofs.Common.{◌≡◌, ℕ, zero, suc, ◌+◌, ◌*◌, ◌/◌, ◌%◌, ◌≤◌, ◌<◌, List, [], ◌∷◌, ◌++◌, length, get_or, take, drop, map, replicate, refl, sym, ◌∙◌, ap, arith, inl, inr}
use Rattle.std.specs.Prelude.{min}
use Rattle.std.proofs.lemmas.List.{ext_get_or, get_or_past, length-map}
use Rattle.std.proofs.lemmas.Bool.{cases_eq, cases_lt}
use Rattle.fv_plane.specs.Picture.{wide_bytes, wide_samples}

-- the samples of the bytes of samples
pub samples-bytes : (samples : List ℕ) → wide_samples (wide_bytes samples) ≡ samples
unfolding wide_bytes wide_samples
samples-bytes [] = refl
samples-bytes (s ∷ samples) =
    let whole : s % 256 + 256 * (s / 256) ≡ s = omega arith in
    ap (λ n. n ∷ wide_samples (wide_bytes samples)) whole ∙ ap (λ l. s ∷ l) (samples-bytes samples)

-- the bytes of the samples of bytes
pub bytes-samples : (n : ℕ) (bytes : List ℕ) → length bytes ≡ n * 2 → ((k : ℕ) → get_or bytes k 0 ≤ 255) → wide_bytes (wide_samples bytes) ≡ bytes
unfolding wide_bytes wide_samples
bytes-samples n [] long few = refl
bytes-samples zero (low ∷ bytes) long few = absurd (omega arith)
bytes-samples (suc n) (low ∷ []) long few = absurd (omega arith)
bytes-samples (suc n) (low ∷ high ∷ bytes) long few =
    let small : low ≤ 255 = few 0 in
    let front : (low + 256 * high) % 256 ≡ low = omega arith in
    let back : (low + 256 * high) / 256 ≡ high = omega arith in
    ap (λ k. k ∷ ((low + 256 * high) / 256) ∷ wide_bytes (wide_samples bytes)) front
    ∙ ap (λ k. low ∷ k ∷ wide_bytes (wide_samples bytes)) back
    ∙ ap (λ l. low ∷ high ∷ l) (bytes-samples n bytes (omega arith) (λ k. few (suc (suc k))))

pub length-wide_bytes : (samples : List ℕ) → length (wide_bytes samples) ≡ length samples * 2
unfolding wide_bytes
length-wide_bytes [] = refl
length-wide_bytes (s ∷ samples) = omega (arith, length-wide_bytes samples)

pub length-wide_samples : (n : ℕ) (bytes : List ℕ) → length bytes ≡ n * 2 → length (wide_samples bytes) ≡ n
unfolding wide_samples
length-wide_samples zero [] long = refl
length-wide_samples (suc n) [] long = absurd (omega arith)
length-wide_samples zero (low ∷ bytes) long = absurd (omega arith)
length-wide_samples (suc n) (low ∷ []) long = absurd (omega arith)
length-wide_samples (suc n) (low ∷ high ∷ bytes) long = ap suc (length-wide_samples n bytes (omega arith))

two_more : (x : ℕ) → suc x * 2 ≡ suc (suc (x * 2))
two_more x = omega arith

-- the samples from one on, and those before one
pub wide_samples-drop : (x : ℕ) (bytes : List ℕ) → wide_samples (drop (x * 2) bytes) ≡ drop x (wide_samples bytes)
unfolding wide_samples
wide_samples-drop zero bytes = refl
wide_samples-drop (suc x) [] = ap (λ n. wide_samples (drop n [])) (two_more x)
wide_samples-drop (suc x) (low ∷ []) = ap (λ n. wide_samples (drop n (low ∷ []))) (two_more x)
wide_samples-drop (suc x) (low ∷ high ∷ bytes) = ap (λ n. wide_samples (drop n (low ∷ high ∷ bytes))) (two_more x) ∙ wide_samples-drop x bytes

pub wide_samples-take : (x : ℕ) (bytes : List ℕ) → wide_samples (take (x * 2) bytes) ≡ take x (wide_samples bytes)
unfolding wide_samples
wide_samples-take zero bytes = refl
wide_samples-take (suc x) [] = ap (λ n. wide_samples (take n [])) (two_more x)
wide_samples-take (suc x) (low ∷ []) = ap (λ n. wide_samples (take n (low ∷ []))) (two_more x)
wide_samples-take (suc x) (low ∷ high ∷ bytes) =
    ap (λ n. wide_samples (take n (low ∷ high ∷ bytes))) (two_more x) ∙ ap (λ l. (low + 256 * high) ∷ l) (wide_samples-take x bytes)

pub wide_bytes-drop : (x : ℕ) (samples : List ℕ) → wide_bytes (drop x samples) ≡ drop (x * 2) (wide_bytes samples)
unfolding wide_bytes
wide_bytes-drop zero samples = refl
wide_bytes-drop (suc x) [] = sym (ap (λ n. drop n []) (two_more x))
wide_bytes-drop (suc x) (s ∷ samples) = wide_bytes-drop x samples ∙ sym (ap (λ n. drop n (wide_bytes (s ∷ samples))) (two_more x))

pub wide_bytes-take : (x : ℕ) (samples : List ℕ) → wide_bytes (take x samples) ≡ take (x * 2) (wide_bytes samples)
unfolding wide_bytes
wide_bytes-take zero samples = refl
wide_bytes-take (suc x) [] = sym (ap (λ n. take n []) (two_more x))
wide_bytes-take (suc x) (s ∷ samples) =
    ap (λ l. (s % 256) ∷ (s / 256) ∷ l) (wide_bytes-take x samples) ∙ sym (ap (λ n. take n (wide_bytes (s ∷ samples))) (two_more x))

pub wide_bytes-append : (a b : List ℕ) → wide_bytes (a ++ b) ≡ wide_bytes a ++ wide_bytes b
unfolding wide_bytes
wide_bytes-append [] b = refl
wide_bytes-append (s ∷ a) b = ap (λ l. (s % 256) ∷ (s / 256) ∷ l) (wide_bytes-append a b)

-- the samples of whole samples' bytes and of others after them
pub wide_samples-append : (n : ℕ) (front rest : List ℕ) → length front ≡ n * 2 → wide_samples (front ++ rest) ≡ wide_samples front ++ wide_samples rest
unfolding wide_samples
wide_samples-append n [] rest long = refl
wide_samples-append zero (low ∷ front) rest long = absurd (omega arith)
wide_samples-append (suc n) (low ∷ []) rest long = absurd (omega arith)
wide_samples-append (suc n) (low ∷ high ∷ front) rest long = ap (λ l. (low + 256 * high) ∷ l) (wide_samples-append n front rest (omega arith))

-- bytes of 0 are samples of 0
pub wide_samples-zero : (n : ℕ) → wide_samples (replicate (n * 2) 0) ≡ replicate n 0
unfolding wide_samples
wide_samples-zero zero = refl
wide_samples-zero (suc n) = ap (λ k. wide_samples (replicate k 0)) (two_more n) ∙ ap (λ l. 0 ∷ l) (wide_samples-zero n)

-- each sample has its two bytes
pub wide_bytes-at : (samples : List ℕ) (x : ℕ) → (get_or (wide_bytes samples) (2 * x) 0 ≡ get_or samples x 0 % 256) × (get_or (wide_bytes samples) (2 * x + 1) 0 ≡ get_or samples x 0 / 256)
unfolding wide_bytes
wide_bytes-at [] x = (refl, refl)
wide_bytes-at (s ∷ samples) zero = (refl, refl)
wide_bytes-at (s ∷ samples) (suc x) =
    let low : 2 * suc x ≡ suc (suc (2 * x)) = omega arith in
    let high : 2 * suc x + 1 ≡ suc (suc (2 * x + 1)) = omega arith in
    let rest = wide_bytes-at samples x in
    (ap (λ n. get_or (wide_bytes (s ∷ samples)) n 0) low ∙ rest.0, ap (λ n. get_or (wide_bytes (s ∷ samples)) n 0) high ∙ rest.1)

-- each two bytes are a sample
pub wide_samples-at : (bytes : List ℕ) (x : ℕ) → 2 * x + 1 < length bytes → get_or (wide_samples bytes) x 0 ≡ get_or bytes (2 * x) 0 + 256 * get_or bytes (2 * x + 1) 0
unfolding wide_samples
wide_samples-at [] x within = absurd (omega arith)
wide_samples-at (low ∷ []) x within = absurd (omega arith)
wide_samples-at (low ∷ high ∷ bytes) zero within = refl
wide_samples-at (low ∷ high ∷ bytes) (suc x) within =
    let first : 2 * suc x ≡ suc (suc (2 * x)) = omega arith in
    let second : 2 * suc x + 1 ≡ suc (suc (2 * x + 1)) = omega arith in
    wide_samples-at bytes x (omega arith)
    ∙ sym (ap (λ n. get_or (low ∷ high ∷ bytes) n 0 + 256 * get_or (low ∷ high ∷ bytes) (2 * suc x + 1) 0) first
    ∙ ap (λ n. get_or bytes (2 * x) 0 + 256 * get_or (low ∷ high ∷ bytes) n 0) second)

-- two bytes make at most 65535
pub wide_small : (bytes : List ℕ) → ((k : ℕ) → get_or bytes k 0 ≤ 255) → (x : ℕ) → get_or (wide_samples bytes) x 0 ≤ 65535
unfolding wide_samples
wide_small [] few x = omega arith
wide_small (low ∷ []) few x = omega arith
wide_small (low ∷ high ∷ bytes) few zero = (let a : low ≤ 255 = few 0 in let b : high ≤ 255 = few 1 in omega arith)
wide_small (low ∷ high ∷ bytes) few (suc x) = wide_small bytes (λ k. few (suc (suc k))) x

-- samples that are those of these bytes, one by one
pub samples_read : (bytes samples : List ℕ) → length bytes ≡ length samples * 2 → ((k : ℕ) → k < length samples → get_or samples k 0 ≡ get_or bytes (2 * k) 0 + 256 * get_or bytes (2 * k + 1) 0) → samples ≡ wide_samples bytes
samples_read bytes samples long each =
    ext_get_or 0 samples (wide_samples bytes) (sym (length-wide_samples (length samples) bytes long))
    (λ k within. each k within ∙ sym (wide_samples-at bytes k (omega arith)))

-- bytes that are those of these samples, two by two
pub bytes_written : (samples bytes : List ℕ) → length bytes ≡ length samples * 2 → ((k : ℕ) → k < length samples → get_or bytes (2 * k) 0 ≡ get_or samples k 0 % 256)
    → ((k : ℕ) → k < length samples → get_or bytes (2 * k + 1) 0 ≡ get_or samples k 0 / 256) → bytes ≡ wide_bytes samples
bytes_written samples bytes long even odd =
    ext_get_or 0 bytes (wide_bytes samples) (long ∙ sym (length-wide_bytes samples))
    (λ i within.
    let k : ℕ = i / 2 in
    let at = wide_bytes-at samples k in
    elim (cases_eq (i % 2) 0) [
      | inl is ↦ (let whole : i ≡ 2 * k = omega arith in rw whole (even k (omega arith) ∙ sym at.0))
      | inr other ↦ (let whole : i ≡ 2 * k + 1 = omega (arith, other) in rw whole (odd k (omega arith) ∙ sym at.1))
    ])

get_or-map-within : (f : ℕ → ℕ) (row : List ℕ) (k : ℕ) → k < length row → get_or (map f row) k 0 ≡ f (get_or row k 0)
get_or-map-within f [] k within = absurd (omega arith)
get_or-map-within f (s ∷ row) zero within = refl
get_or-map-within f (s ∷ row) (suc k) within = get_or-map-within f row k (omega arith)

-- the sample of two bytes
abbrev pub pair : List ℕ → ℕ → ℕ
pair bytes k = get_or bytes (2 * k) 0 + 256 * get_or bytes (2 * k + 1) 0

-- bytes whose samples were made no more than the largest, one by one
pub bytes_limited : (largest : ℕ) (old new : List ℕ) → length new ≡ length old → length old % 2 ≡ 0 → ((k : ℕ) → k < length old / 2 → get_or new (2 * k) 0 ≡ min (pair old k) largest % 256)
    → ((k : ℕ) → k < length old / 2 → get_or new (2 * k + 1) 0 ≡ min (pair old k) largest / 256) → new ≡ wide_bytes (map (λ s. min s largest) (wide_samples old))
bytes_limited largest old new same even_length even odd =
    let n : ℕ = length old / 2 in
    let long : length old ≡ n * 2 = omega arith in
    let samples : List ℕ = map (λ s. min s largest) (wide_samples old) in
    let count : length samples ≡ n = length-map (wide_samples old) (λ s. min s largest) ∙ length-wide_samples n old long in
    let at : (k : ℕ) → k < n → get_or samples k 0 ≡ min (pair old k) largest
    = λ k within. get_or-map-within (λ s. min s largest) (wide_samples old) k (omega (arith, length-wide_samples n old long)) ∙ ap (λ s. min s largest) (wide_samples-at old k (omega arith)) in
    bytes_written samples new (omega (arith, count))
    (λ k within. even k (omega (arith, count)) ∙ ap (λ s. s % 256) (sym (at k (omega (arith, count)))))
    (λ k within. odd k (omega (arith, count)) ∙ ap (λ s. s / 256) (sym (at k (omega (arith, count)))))

-- samples that are no more than one, pair by pair
pub pairs_bound : (bytes : List ℕ) (highest : ℕ) → length bytes % 2 ≡ 0 → ((k : ℕ) → k < length bytes / 2 → pair bytes k ≤ highest) → (x : ℕ) → get_or (wide_samples bytes) x 0 ≤ highest
pairs_bound bytes highest even high x =
    let n : ℕ = length bytes / 2 in
    let count : length (wide_samples bytes) ≡ n = length-wide_samples n bytes (omega arith) in
    elim (cases_lt x n) [
      | inl there ↦ omega (arith, wide_samples-at bytes x (omega arith), high x there)
      | inr past ↦ omega (arith, get_or_past (wide_samples bytes) x 0 (omega (arith, count)))
    ]
