-- Sums of samples around a place, each times its weight.
use Rattle.std.proofs.Common.{◌≡◌, ℕ, zero, suc, ◌+◌, ◌-◌, ◌*◌, ◌/◌, ◌%◌, ◌<◌, ◌≤◌, ◌∙◌, List, [], ◌∷◌, ◌++◌, length, get_or, take, drop, replicate, refl, sym, ap, arith, inl, inr, min, true}
use Rattle.std.specs.Prelude.{ℤ, pos, negsuc, ◌+ℤ◌, ◌*ℤ◌, unsigned_abs, ◌||◌, ◌==◌}
use Rattle.std.proofs.lemmas.List.{get_or_append_left, get_or-append_right, get_or-replicate, length-replicate, get_or_past, drop_more}
use Rattle.std.proofs.lemmas.Bool.{and_parts, cases_lt}
use Rattle.std.proofs.lemmas.Bool.Decides.{nat_tests}
use Rattle.std.specs.List.{list_all}
use Rattle.std.proofs.lemmas.Int.{ints, unsigned_abs-mul}
use Rattle.std.proofs.lemmas.Nat.{mul-le}
use Rattle.fv_plane.specs.declared.format.Shape.{Shape}
use Rattle.fv_plane.specs.Format.{plane_width, plane_height}
use Rattle.fv_plane.specs.Picture.{Look}
use Rattle.clip_term.specs.Refusals.{is_weight}
use Rattle.clip_term.specs.Soft.{place, weighed, total}
use Rattle.clip_term.specs.Terms.{is_matrix}
use Rattle.clip_term.proofs.PassedLemmas.{all_at}
use Rattle.flt_rows.specs.Rows.{extended, weighed_three, weighed_five, IsBias, IsWeight, IsWithin, AreWeights, AreWithin}

-- a padded row shows each place brought into the row
pub extended_at : (count : ℕ) (row : List ℕ) (k : ℕ) → 0 < length row → k < length row + 2 * count → get_or (extended count row) k 0 ≡ get_or row (min (k - count) (length row - 1)) 0
extended_at count row k some inside =
    let first = get_or row 0 0 in
    let last = get_or row (length row - 1) 0 in
    let rest : List ℕ = row ++ replicate count last in
    elim (cases_lt k count) [
      | inl before ↦
          let at : min (k - count) (length row - 1) ≡ 0 = omega arith in
          get_or_append_left (replicate count first) rest 0 k (rw length-replicate before) ∙ get_or-replicate count k first 0 before ∙ sym (ap (λ z. get_or row z 0) at)
      | inr past ↦
          get_or-append_right (replicate count first) rest count k 0 (length-replicate count first) past
          ∙ elim (cases_lt (k - count) (length row)) [
            | inl within ↦
                let at : min (k - count) (length row - 1) ≡ k - count = omega arith in
                get_or_append_left row (replicate count last) 0 (k - count) within ∙ sym (ap (λ z. get_or row z 0) at)
            | inr after ↦
                let at : min (k - count) (length row - 1) ≡ length row - 1 = omega arith in
                get_or-append_right row (replicate count last) (length row) (k - count) 0 refl after
                ∙ get_or-replicate count (k - count - length row) last 0 (omega arith) ∙ sym (ap (λ z. get_or row z 0) at)
          ]
    ]

module _ (side : ℕ) (shape : Shape) (from : Look) (p x y : ℕ) where
  -- the sample under the entry of this number
  abbrev under : ℕ → ℕ
  under n = from p (place x (n % side) (side / 2) (plane_width shape p)) (place y (n / side) (side / 2) (plane_height shape p))

  -- one more entry
  weighed_suc : (k n : ℕ) (entries : List ℤ) → n < length entries
      → weighed side k (take (suc n) entries) shape from p x y ≡ weighed side k (take n entries) shape from p x y +ℤ get_or entries n (pos 0) *ℤ pos (under (k + n))
  weighed_suc k n [] h = absurd (omega arith)
  weighed_suc k zero (entry ∷ entries) h =
      let same : entry *ℤ pos (under (k + 0)) ≡ entry *ℤ pos (under k) = ap (λ n. entry *ℤ pos (under n)) (omega arith) in
      omega (arith, ints, same)
  weighed_suc k (suc n) (entry ∷ entries) h =
      let more = weighed_suc (k + 1) n entries (omega arith) in
      let same : get_or entries n (pos 0) *ℤ pos (under (k + 1 + n)) ≡ get_or entries n (pos 0) *ℤ pos (under (k + suc n)) = ap (λ m. get_or entries n (pos 0) *ℤ pos (under m)) (omega arith) in
      omega (arith, ints, more, same)

  pub weighed_more : (n m : ℕ) (entries : List ℤ) (row : List ℕ) (i j : ℕ) → n < length entries → m ≡ n + 1 → n % side ≡ j → n / side ≡ i → length row ≡ plane_width shape p → x < length row
      → j < side → 2 * (side / 2) + 1 ≡ side → ((z : ℕ) → get_or row z 0 ≡ from p z (place y i (side / 2) (plane_height shape p)))
      → weighed side 0 (take m entries) shape from p x y
      ≡ weighed side 0 (take n entries) shape from p x y +ℤ get_or entries n (pos 0) *ℤ pos (get_or (extended (side / 2) row) (x + j) 0)
  weighed_more n m entries row i j inside next column line long across few odd seen =
      let height = plane_height shape p in
      let half : ℕ = side / 2 in
      let at : ℕ → ℕ → ℕ = λ a b. from p (place x a half (plane_width shape p)) (place y b half height) in
      let zero_more : 0 + n ≡ n = omega arith in
      let is : under (0 + n) ≡ at j i = ap (λ z. under z) zero_more ∙ ap (λ a. at a (n / side)) column ∙ ap (λ b. at j b) line in
      let shown : get_or (extended half row) (x + j) 0 ≡ at j i
      = extended_at half row (x + j) (omega arith) (omega arith) ∙ seen (min (x + j - half) (length row - 1)) ∙ ap (λ w. from p (min (x + j - half) (w - 1)) (place y i half height)) long in
      let step : m ≡ suc n = omega arith in
      ap (λ k. weighed side 0 (take k entries) shape from p x y) step ∙ weighed_suc 0 n entries inside
      ∙ ap (λ s. weighed side 0 (take n entries) shape from p x y +ℤ get_or entries n (pos 0) *ℤ pos s) (is ∙ sym shown)

-- a row of a square of nine
pub nine_more : (shape : Shape) (from : Look) (p x y i : ℕ) (entries : List ℤ) (row : List ℕ) → length entries ≡ 9 → i < 3 → length row ≡ plane_width shape p → x < length row
    → ((z : ℕ) → get_or row z 0 ≡ from p z (place y i 1 (plane_height shape p)))
    → weighed 3 0 (take (3 * (i + 1)) entries) shape from p x y ≡ weighed 3 0 (take (3 * i) entries) shape from p x y
    +ℤ weighed_three (get_or entries (3 * i) (pos 0)) (get_or entries (3 * i + 1) (pos 0)) (get_or entries (3 * i + 2) (pos 0)) (extended 1 row) x
nine_more shape from p x y i entries row nine few long across seen =
    let more = λ (n m j : ℕ) (a : n < length entries) (b : m ≡ n + 1) (d : n % 3 ≡ j) (e : n / 3 ≡ i) (f : j < 3). weighed_more 3 shape from p x y n m entries row i j a b d e long across f refl seen in
    let first = more (3 * i) (3 * i + 1) 0 (omega arith) (omega arith) (omega arith) (omega arith) (omega arith) in
    let second = more (3 * i + 1) (3 * i + 2) 1 (omega arith) (omega arith) (omega arith) (omega arith) (omega arith) in
    let third = more (3 * i + 2) (3 * (i + 1)) 2 (omega arith) (omega arith) (omega arith) (omega arith) (omega arith) in
    let here : get_or entries (3 * i) (pos 0) *ℤ pos (get_or (extended 1 row) (x + 0) 0) ≡ get_or entries (3 * i) (pos 0) *ℤ pos (get_or (extended 1 row) x 0)
    = ap (λ z. get_or entries (3 * i) (pos 0) *ℤ pos (get_or (extended 1 row) z 0)) (omega arith) in
    omega (arith, ints, first, second, third, here)

-- a row of a square of 25
pub of_25_more : (shape : Shape) (from : Look) (p x y i : ℕ) (entries : List ℤ) (row : List ℕ) → length entries ≡ 25 → i < 5 → length row ≡ plane_width shape p → x < length row
    → ((z : ℕ) → get_or row z 0 ≡ from p z (place y i 2 (plane_height shape p)))
    → weighed 5 0 (take (5 * (i + 1)) entries) shape from p x y ≡ weighed 5 0 (take (5 * i) entries) shape from p x y
    +ℤ weighed_five (get_or entries (5 * i) (pos 0)) (get_or entries (5 * i + 1) (pos 0)) (get_or entries (5 * i + 2) (pos 0)) (get_or entries (5 * i + 3) (pos 0)) (get_or entries (5 * i + 4) (pos 0)) (extended 2 row) x
of_25_more shape from p x y i entries row all few long across seen =
    let more = λ (n m j : ℕ) (a : n < length entries) (b : m ≡ n + 1) (d : n % 5 ≡ j) (e : n / 5 ≡ i) (f : j < 5). weighed_more 5 shape from p x y n m entries row i j a b d e long across f refl seen in
    let first = more (5 * i) (5 * i + 1) 0 (omega arith) (omega arith) (omega arith) (omega arith) (omega arith) in
    let second = more (5 * i + 1) (5 * i + 2) 1 (omega arith) (omega arith) (omega arith) (omega arith) (omega arith) in
    let third = more (5 * i + 2) (5 * i + 3) 2 (omega arith) (omega arith) (omega arith) (omega arith) (omega arith) in
    let fourth = more (5 * i + 3) (5 * i + 4) 3 (omega arith) (omega arith) (omega arith) (omega arith) (omega arith) in
    let fifth = more (5 * i + 4) (5 * (i + 1)) 4 (omega arith) (omega arith) (omega arith) (omega arith) (omega arith) in
    let here : get_or entries (5 * i) (pos 0) *ℤ pos (get_or (extended 2 row) (x + 0) 0) ≡ get_or entries (5 * i) (pos 0) *ℤ pos (get_or (extended 2 row) x 0)
    = ap (λ z. get_or entries (5 * i) (pos 0) *ℤ pos (get_or (extended 2 row) z 0)) (omega arith) in
    omega (arith, ints, first, second, third, fourth, fifth, here)

-- SIZES

pub size_of_weight : (weight : ℤ) → IsWeight weight → unsigned_abs weight ≤ 1024
size_of_weight (pos n) is = omega (arith, ints, is.high)
size_of_weight (negsuc n) is = omega (arith, ints, is.low)

within_by : (most : ℕ) (z : ℤ) → unsigned_abs z ≤ most → IsWithin most z
within_by most (pos n) h = record { low = omega (arith, ints); high = omega (arith, ints) }
within_by most (negsuc n) h = record { low = omega (arith, ints); high = omega (arith, ints) }

pub times_few : (weight : ℤ) (sample : ℕ) → IsWeight weight → sample ≤ 65535 → unsigned_abs (weight *ℤ pos sample) ≤ 67107840
times_few weight sample is few =
    omega (arith, unsigned_abs-mul weight (pos sample), mul-le (unsigned_abs weight) sample 1024 65535 (size_of_weight weight is) few)

pub size_of_bias : (bias : ℤ) → IsBias bias → unsigned_abs bias ≤ 255
size_of_bias (pos n) is = omega (arith, ints, is.high)
size_of_bias (negsuc n) is = omega (arith, ints, is.low)

-- a bias, scaled
pub bias_within : (bias : ℤ) (s : ℕ) → IsBias bias → s ≤ 256 → IsWithin 65280 (bias *ℤ pos s)
bias_within bias s is few = within_by 65280 (bias *ℤ pos s) (omega (arith, unsigned_abs-mul bias (pos s), mul-le (unsigned_abs bias) s 255 256 (size_of_bias bias is) few))

-- so many entries, each times a sample of two bytes or of one
pub weighed_within : (side k n : ℕ) (entries : List ℤ) (shape : Shape) (from : Look) (p x y : ℕ) → AreWeights entries → ((a b : ℕ) → from p a b ≤ 65535)
    → IsWithin (67107840 * n) (weighed side k (take n entries) shape from p x y)
weighed_within side k zero entries shape from p x y are few = record { low = omega (arith, ints); high = omega (arith, ints) }
weighed_within side k (suc n) [] shape from p x y are few = record { low = omega (arith, ints); high = omega (arith, ints) }
weighed_within side k (suc n) (entry ∷ entries) shape from p x y are few =
    let column = place x (k % side) (side / 2) (plane_width shape p) in
    let line = place y (k / side) (side / 2) (plane_height shape p) in
    let one = within_by 67107840 (entry *ℤ pos (from p column line)) (times_few entry (from p column line) (are 0) (few column line)) in
    let rest = weighed_within side (k + 1) n entries shape from p x y (λ j. are (suc j)) few in
    record { low = omega (arith, ints, one.low, rest.low); high = omega (arith, ints, one.high, rest.high) }

-- sums that are within this in their places
pub sums_within : (sums : List ℤ) (least most : ℕ) → least ≤ most → ((x : ℕ) → x < length sums → IsWithin least (get_or sums x (pos 0))) → AreWithin most sums
sums_within sums least most few are x = elim (cases_lt x (length sums)) [
  | inl inside ↦ (let is = are x inside in record { low = omega (arith, ints, is.low); high = omega (arith, ints, is.high) })
  | inr past ↦ rw (get_or_past sums x (pos 0) past) (record { low = omega (arith, ints); high = omega (arith, ints) })
]

pub within_same : (most : ℕ) (a b : ℤ) → a ≡ b → IsWithin most b → IsWithin most a
within_same most a b e is = rw e is

-- one more weight
pub total_more : (weights : List ℤ) (i : ℕ) (d : ℤ) → i < length weights → total (drop i weights) ≡ get_or weights i d +ℤ total (drop (i + 1) weights)
total_more weights i d h = rw (drop_more weights i d h) refl

one_weight : (z : ℤ) → is_weight z ≡ true → IsWeight z
one_weight (pos n) e = record { low = grind (arith, ints, nat_tests); high = grind (arith, ints, nat_tests) }
one_weight (negsuc n) e = record { low = grind (arith, ints, nat_tests); high = grind (arith, ints, nat_tests) }

all_weights : (entries : List ℤ) → list_all is_weight entries ≡ true → AreWeights entries
all_weights [] e k = record { low = omega (arith, ints); high = omega (arith, ints) }
all_weights (entry ∷ entries) e zero = one_weight entry (all_at is_weight entry entries e).0
all_weights (entry ∷ entries) e (suc k) = all_weights entries (all_at is_weight entry entries e).1 k

-- the entries of a sound matrix are weights
pub weights_are : (entries : List ℤ) → is_matrix entries ≡ true → AreWeights entries
weights_are entries e = all_weights entries (and_parts (length entries == 9 || length entries == 25) (list_all is_weight entries) e).1
