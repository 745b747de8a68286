-- A block of 16 rows of 16 samples, transposed by four steps.
use Rattle.std.proofs.Common.{◌≡◌, ◌∙◌, ℕ, ◌+◌, ◌*◌, ◌-◌, ◌/◌, ◌%◌, ◌<◌, ◌≤◌, List, [], ◌∷◌, ◌++◌, length, take, drop, get_or, get_or-take, length-append, length-take-le, length-drop, ap, sym, refl, arith, ⊎_elim}
use Rattle.std.proofs.lemmas.Bool.{cases_lt}
use Rattle.std.proofs.lemmas.List.{get_or_append_left, get_or-append_right, take_all}
use Rattle.std.proofs.lemmas.Nat.{mul-le}
use Rattle.std.proofs.lemmas.Simd.{put_chunk_whole}
use Rattle.std.proofs.Math.Nat.{suc-mul}
use Rattle.std.proofs.lemmas.Grind.{common_steps}
use borrow.Author.Count.{below_none, below_more}
use borrow.Rule.Slice.PartMut.{put_mid}
use lib.Lanes.{put_chunk}

-- ---- sixteen samples and sixteen others, sample by sample in turn

abbrev pub low_of : List ℕ → List ℕ
low_of pair = get_or pair 0 0 ∷ get_or pair 16 0 ∷ get_or pair 1 0 ∷ get_or pair 17 0 ∷ get_or pair 2 0 ∷ get_or pair 18 0 ∷ get_or pair 3 0 ∷ get_or pair 19 0 ∷ get_or pair 4 0 ∷ get_or pair 20 0 ∷ get_or pair 5 0 ∷ get_or pair 21 0 ∷ get_or pair 6 0 ∷ get_or pair 22 0 ∷ get_or pair 7 0 ∷ get_or pair 23 0 ∷ []

abbrev pub high_of : List ℕ → List ℕ
high_of pair = get_or pair 8 0 ∷ get_or pair 24 0 ∷ get_or pair 9 0 ∷ get_or pair 25 0 ∷ get_or pair 10 0 ∷ get_or pair 26 0 ∷ get_or pair 11 0 ∷ get_or pair 27 0 ∷ get_or pair 12 0 ∷ get_or pair 28 0 ∷ get_or pair 13 0 ∷ get_or pair 29 0 ∷ get_or pair 14 0 ∷ get_or pair 30 0 ∷ get_or pair 15 0 ∷ get_or pair 31 0 ∷ []

even_lanes : (pair : List ℕ) (k : ℕ) → k < 16 → get_or (low_of pair ++ high_of pair) (2 * k) 0 ≡ get_or pair (k) 0
even_lanes pair =
    let P : ℕ → Type 0 = λ k. get_or (low_of pair ++ high_of pair) (2 * k) 0 ≡ get_or pair (k) 0 in
    below_more P 15 (below_more P 14 (below_more P 13 (below_more P 12 (below_more P 11 (below_more P 10 (below_more P 9 (below_more P 8 (below_more P 7 (below_more P 6 (below_more P 5 (below_more P 4 (below_more P 3 (below_more P 2 (below_more P 1 (below_more P 0 (below_none P) refl) refl) refl) refl) refl) refl) refl) refl) refl) refl) refl) refl) refl) refl) refl) refl

odd_lanes : (pair : List ℕ) (k : ℕ) → k < 16 → get_or (low_of pair ++ high_of pair) (2 * k + 1) 0 ≡ get_or pair (16 + k) 0
odd_lanes pair =
    let P : ℕ → Type 0 = λ k. get_or (low_of pair ++ high_of pair) (2 * k + 1) 0 ≡ get_or pair (16 + k) 0 in
    below_more P 15 (below_more P 14 (below_more P 13 (below_more P 12 (below_more P 11 (below_more P 10 (below_more P 9 (below_more P 8 (below_more P 7 (below_more P 6 (below_more P 5 (below_more P 4 (below_more P 3 (below_more P 2 (below_more P 1 (below_more P 0 (below_none P) refl) refl) refl) refl) refl) refl) refl) refl) refl) refl) refl) refl) refl) refl) refl) refl

pub record IsWoven (front back out : List ℕ) : Type 0 where
  pub whole : length out ≡ 32
  pub even : (k : ℕ) → k < 16 → get_or out (2 * k) 0 ≡ get_or front k 0
  pub odd : (k : ℕ) → k < 16 → get_or out (2 * k + 1) 0 ≡ get_or back k 0

pub woven : (start end front back : List ℕ) → length start ≡ 16 → length end ≡ 16 → length front ≡ 16 → length back ≡ 16
    → IsWoven front back (put_chunk 0 start (low_of (take 16 front ++ take 16 back)) ++ put_chunk 0 end (high_of (take 16 front ++ take 16 back)))
woven start end front back first last long same =
    let pair : List ℕ = take 16 front ++ take 16 back in
    let out : put_chunk 0 start (low_of pair) ++ put_chunk 0 end (high_of pair) ≡ low_of pair ++ high_of pair
    = ap (λ l. l ++ put_chunk 0 end (high_of pair)) (put_chunk_whole start (low_of pair) first) ∙ ap (λ l. low_of pair ++ l) (put_chunk_whole end (high_of pair) last) in
    let size : length (take 16 front) ≡ 16 = length-take-le 16 front (omega arith) in
    record {
      whole = ap length out;
      even = λ k less. ap (λ l. get_or l (2 * k) 0) out ∙ even_lanes pair k less
          ∙ get_or_append_left (take 16 front) (take 16 back) 0 k (omega (arith, size)) ∙ get_or-take 16 front k 0 less;
      odd = λ k less. ap (λ l. get_or l (2 * k + 1) 0) out ∙ odd_lanes pair k less
          ∙ get_or-append_right (take 16 front) (take 16 back) 16 (16 + k) 0 size (omega arith)
          ∙ ap (λ m. get_or (take 16 back) m 0) (omega arith) ∙ get_or-take 16 back k 0 less;
    }

-- ---- the samples in even places, and those in odd places

abbrev pub evens_of : List ℕ → List ℕ
evens_of pair = get_or pair 0 0 ∷ get_or pair 2 0 ∷ get_or pair 4 0 ∷ get_or pair 6 0 ∷ get_or pair 8 0 ∷ get_or pair 10 0 ∷ get_or pair 12 0 ∷ get_or pair 14 0 ∷ get_or pair 16 0 ∷ get_or pair 18 0 ∷ get_or pair 20 0 ∷ get_or pair 22 0 ∷ get_or pair 24 0 ∷ get_or pair 26 0 ∷ get_or pair 28 0 ∷ get_or pair 30 0 ∷ []

abbrev pub odds_of : List ℕ → List ℕ
odds_of pair = get_or pair 1 0 ∷ get_or pair 3 0 ∷ get_or pair 5 0 ∷ get_or pair 7 0 ∷ get_or pair 9 0 ∷ get_or pair 11 0 ∷ get_or pair 13 0 ∷ get_or pair 15 0 ∷ get_or pair 17 0 ∷ get_or pair 19 0 ∷ get_or pair 21 0 ∷ get_or pair 23 0 ∷ get_or pair 25 0 ∷ get_or pair 27 0 ∷ get_or pair 29 0 ∷ get_or pair 31 0 ∷ []

evens : (pair : List ℕ) (k : ℕ) → k < 16 → get_or (evens_of pair) k 0 ≡ get_or pair (2 * k) 0
evens pair =
    let P : ℕ → Type 0 = λ k. get_or (evens_of pair) k 0 ≡ get_or pair (2 * k) 0 in
    below_more P 15 (below_more P 14 (below_more P 13 (below_more P 12 (below_more P 11 (below_more P 10 (below_more P 9 (below_more P 8 (below_more P 7 (below_more P 6 (below_more P 5 (below_more P 4 (below_more P 3 (below_more P 2 (below_more P 1 (below_more P 0 (below_none P) refl) refl) refl) refl) refl) refl) refl) refl) refl) refl) refl) refl) refl) refl) refl) refl

odds : (pair : List ℕ) (k : ℕ) → k < 16 → get_or (odds_of pair) k 0 ≡ get_or pair (2 * k + 1) 0
odds pair =
    let P : ℕ → Type 0 = λ k. get_or (odds_of pair) k 0 ≡ get_or pair (2 * k + 1) 0 in
    below_more P 15 (below_more P 14 (below_more P 13 (below_more P 12 (below_more P 11 (below_more P 10 (below_more P 9 (below_more P 8 (below_more P 7 (below_more P 6 (below_more P 5 (below_more P 4 (below_more P 3 (below_more P 2 (below_more P 1 (below_more P 0 (below_none P) refl) refl) refl) refl) refl) refl) refl) refl) refl) refl) refl) refl) refl) refl) refl) refl

pub record IsUnwoven (samples first second : List ℕ) : Type 0 where
  pub even_whole : length first ≡ 16
  pub odd_whole : length second ≡ 16
  pub even : (k : ℕ) → k < 16 → get_or first k 0 ≡ get_or samples (2 * k) 0
  pub odd : (k : ℕ) → k < 16 → get_or second k 0 ≡ get_or samples (2 * k + 1) 0

pub unwoven : (front back even odd : List ℕ) → length front ≡ 16 → length back ≡ 16 → length even ≡ 16 → length odd ≡ 16
    → IsUnwoven (front ++ back) (put_chunk 0 even (evens_of (take 16 front ++ take 16 back))) (put_chunk 0 odd (odds_of (take 16 front ++ take 16 back)))
unwoven front back even odd first last even_long odd_long =
    let pair : List ℕ = take 16 front ++ take 16 back in
    let whole : pair ≡ front ++ back = ap (λ l. l ++ take 16 back) (take_all 16 front (omega arith)) ∙ ap (λ l. front ++ l) (take_all 16 back (omega arith)) in
    let evens_put = put_chunk_whole even (evens_of pair) even_long in
    let odds_put = put_chunk_whole odd (odds_of pair) odd_long in
    record {
      even_whole = ap length evens_put;
      odd_whole = ap length odds_put;
      even = λ k less. ap (λ l. get_or l k 0) evens_put ∙ evens pair k less ∙ ap (λ l. get_or l (2 * k) 0) whole;
      odd = λ k less. ap (λ l. get_or l k 0) odds_put ∙ odds pair k less ∙ ap (λ l. get_or l (2 * k + 1) 0) whole;
    }

-- the halves of a block, sample by sample in turn
pub record IsInterleaved (block out : List ℕ) : Type 0 where
  pub even : (k : ℕ) → k < 128 → get_or out (2 * k) 0 ≡ get_or block k 0
  pub odd : (k : ℕ) → k < 128 → get_or out (2 * k + 1) 0 ≡ get_or block (k + 128) 0

-- the last bit of a place comes from its front
sample_from : (block out : List ℕ) → IsInterleaved block out → (k bit to from : ℕ) → k < 128 → bit < 2 → to ≡ 2 * k + bit → from ≡ k + 128 * bit
    → get_or out to 0 ≡ get_or block from 0
sample_from block out is k bit to from inside two place origin = ⊎_elim
    (λ (l : bit < 1).
    let at : to ≡ 2 * k = omega (arith, place, l) in
    let of : k ≡ from = omega (arith, origin, l) in
    ap (λ n. get_or out n 0) at ∙ is.even k inside ∙ ap (λ n. get_or block n 0) of)
    (λ (l : 1 ≤ bit).
    let at : to ≡ 2 * k + 1 = omega (arith, place, l, two) in
    let of : k + 128 ≡ from = omega (arith, origin, l, two) in
    ap (λ n. get_or out n 0) at ∙ is.odd k inside ∙ ap (λ n. get_or block n 0) of)
    (cases_lt bit 1)

-- a number below 16 in its bits
record Bits (i : ℕ) : Type 0 where
  a : ℕ
  b : ℕ
  c : ℕ
  d : ℕ
  low : (a < 2) × (b < 2)
  high : (c < 2) × (d < 2)
  is : i ≡ a + 2 * b + 4 * c + 8 * d

bits_of : (i : ℕ) → i < 16 → Bits i
bits_of i less = record {
  a = i % 2;
  b = i / 2 % 2;
  c = i / 4 % 2;
  d = i / 8;
  low = (omega arith, omega arith);
  high = (omega arith, omega arith);
  is = omega arith;
}

pub transposed : (block first second third last : List ℕ) → IsInterleaved block first → IsInterleaved first second → IsInterleaved second third → IsInterleaved third last
    → (k i : ℕ) → k < 16 → i < 16 → get_or last (16 * k + i) 0 ≡ get_or block (16 * i + k) 0
transposed block first second third last p q r s k i below less =
    let bits = bits_of i less in
    let a : ℕ = bits.a in
    let b : ℕ = bits.b in
    let c : ℕ = bits.c in
    let d : ℕ = bits.d in
    let in_bits = bits.is in
    sample_from third last s (8 * k + b + 2 * c + 4 * d) a (16 * k + i) (8 * k + b + 2 * c + 4 * d + 128 * a) (omega arith) bits.low.0 (omega arith) (omega arith)
    ∙ sample_from second third r (4 * k + c + 2 * d + 64 * a) b _ (4 * k + c + 2 * d + 64 * a + 128 * b) (omega arith) bits.low.1 (omega arith) (omega arith)
    ∙ sample_from first second q (2 * k + d + 32 * a + 64 * b) c _ (2 * k + d + 32 * a + 64 * b + 128 * c) (omega arith) bits.high.0 (omega arith) (omega arith)
    ∙ sample_from block first p (k + 16 * a + 32 * b + 64 * c) d _ (16 * i + k) (omega arith) bits.high.1 (omega arith) (omega arith)

-- ---- a part of a list is written

pub length_part : (a k : ℕ) (xs : List ℕ) → a + k ≤ length xs → length (take k (drop a xs)) ≡ k
length_part a k xs fits = length-take-le k (drop a xs) (omega (arith, length-drop a xs))

module _ (a k : ℕ) (xs ys : List ℕ) (long : length ys ≡ k) (fits : a + k ≤ length xs) where
  pub length_written : length (put_mid a k xs ys) ≡ length xs
  length_written =
      omega (arith, length-append (take a xs) (ys ++ drop k (drop a xs)), length-append ys (drop k (drop a xs)), length-take-le a xs (omega arith), length-drop k (drop a xs), length-drop a xs)

  pub written_before : (n : ℕ) → n < a → get_or (put_mid a k xs ys) n 0 ≡ get_or xs n 0
  written_before n before = grind (arith, common_steps)

  after_taken : (n j : ℕ) → n ≡ a + j → get_or (put_mid a k xs ys) n 0 ≡ get_or (ys ++ drop k (drop a xs)) j 0
  after_taken n j place = search (arith, get_or-append_right, length-take-le)

  pub written_at : (n j : ℕ) → n ≡ a + j → j < k → get_or (put_mid a k xs ys) n 0 ≡ get_or ys j 0
  written_at n j place inside = after_taken n j place ∙ get_or_append_left ys (drop k (drop a xs)) 0 j (omega arith)

  pub written_past : (n : ℕ) → a + k ≤ n → get_or (put_mid a k xs ys) n 0 ≡ get_or xs n 0
  written_past n past = grind (arith, common_steps)

-- 16 more samples of a half of a block, each of which goes to its spot of two
pub woven_more : (out part : List ℕ) (want spot : ℕ → ℕ) (k a n : ℕ) → length out ≡ 256 → k < 8 → a ≡ 32 * k → n ≡ 32 → length part ≡ n
    → ((j : ℕ) → (2 * j ≤ spot j) × (spot j < 2 * j + 2)) → ((m : ℕ) → spot (16 * k + m) ≡ 32 * k + spot m)
    → ((m : ℕ) → m < 16 → get_or part (spot m) 0 ≡ want (16 * k + m))
    → ((j : ℕ) → j < 16 * k → get_or out (spot j) 0 ≡ want j)
    → (j : ℕ) → j < 16 * (k + 1) → get_or (put_mid a n out part) (spot j) 0 ≡ want j
woven_more out part want spot k a n size below at whole long near shift here before j less = ⊎_elim
    (λ (l : j < 16 * k). written_before a n out part long (omega arith) (spot j) (omega (arith, near j)) ∙ before j l)
    (λ (l : 16 * k ≤ j).
    let m : ℕ = j - 16 * k in
    let is : 16 * k + m ≡ j = omega arith in
    written_at a n out part long (omega arith) (spot j) (spot m) (omega (arith, ap spot is, shift m)) (omega (arith, near m)) ∙ here m (omega arith) ∙ ap want is)
    (cases_lt j (16 * k))

-- one more row of a block
pub block_more : (block part : List ℕ) (want : ℕ → ℕ → ℕ) (i a k : ℕ) → length block ≡ 256 → i < 16 → a ≡ 16 * i → k ≡ 16 → length part ≡ k
    → ((n : ℕ) → n < 16 → get_or part n 0 ≡ want n i)
    → ((n j : ℕ) → n < 16 → j < i → get_or block (16 * j + n) 0 ≡ want n j)
    → (n j : ℕ) → n < 16 → j < i + 1 → get_or (put_mid a k block part) (16 * j + n) 0 ≡ want n j
block_more block part want i a k size below at whole long here before n j less there = grind (arith, common_steps)

-- 16 more samples of one of the rows that lie side by side
pub place_fits : (count h x k a n size : ℕ) → k < count → x + 16 ≤ h → a ≡ k * h + x → n ≡ 16 → size ≡ count * h → a + n ≤ size
place_fits count h x k a n size below right at whole is = omega (arith, mul-le (k + 1) h count h (omega arith) (omega arith), suc-mul k h)

module _ (out part : List ℕ) (want : ℕ → ℕ → ℕ) (count h x k a n : ℕ) (size : length out ≡ count * h) (below : k < count) (right : x + 16 ≤ h)
    (at : a ≡ k * h + x) (whole : n ≡ 16) (long : length part ≡ n) where
  row_below : (j : ℕ) → j < k → j * h + h ≤ k * h
  row_below j less = omega (arith, mul-le (j + 1) h k h (omega arith) (omega arith), suc-mul j h)

  fits : a + n ≤ length out
  fits = place_fits count h x k a n (length out) below right at whole size

  pub row_done : ((i : ℕ) → i < 16 → get_or part i 0 ≡ want k (x + i))
      → ((j z : ℕ) → j < k → z < x + 16 → get_or out (j * h + z) 0 ≡ want j z)
      → ((j z : ℕ) → k ≤ j → j < count → z < x → get_or out (j * h + z) 0 ≡ want j z)
      → (j z : ℕ) → j < k + 1 → z < x + 16 → get_or (put_mid a n out part) (j * h + z) 0 ≡ want j z
  row_done here done left j z less inside = ⊎_elim
      (λ (l : j < k). written_before a n out part long fits (j * h + z) (omega (arith, row_below j l)) ∙ done j z l inside)
      (λ (l : k ≤ j).
      let same : j ≡ k = omega arith in
      let place : j * h + z ≡ k * h + z = ap (λ m. m * h + z) same in
      ⊎_elim
      (λ (b : z < x). written_before a n out part long fits (j * h + z) (omega (arith, place)) ∙ left j z l (omega arith) b)
      (λ (b : x ≤ z).
      let column : x + (z - x) ≡ z = omega arith in
      written_at a n out part long fits (j * h + z) (z - x) (omega (arith, place)) (omega arith) ∙ here (z - x) (omega arith)
      ∙ ap (want k) column ∙ ap (λ m. want m z) (sym same))
      (cases_lt z x))
      (cases_lt j k)

  pub row_left : ((j z : ℕ) → k ≤ j → j < count → z < x → get_or out (j * h + z) 0 ≡ want j z)
      → (j z : ℕ) → k + 1 ≤ j → j < count → z < x → get_or (put_mid a n out part) (j * h + z) 0 ≡ want j z
  row_left left j z past inside before =
      let beyond : k * h + h ≤ j * h = omega (arith, mul-le (k + 1) h j h past (omega arith), suc-mul k h) in
      written_past a n out part long fits (j * h + z) (omega (arith, beyond)) ∙ left j z (omega arith) inside before
