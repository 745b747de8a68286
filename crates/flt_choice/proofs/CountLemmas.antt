-- Counts of samples, and the middle that they give.
use Rattle.std.proofs.Common.{◌≡◌, ℕ, zero, suc, ◌+◌, ◌*◌, ◌^◌, ◌<◌, ◌≤◌, List, [], ◌∷◌, ◌++◌, length, take, map, get_or, set, Bool, true, false, Some, None, ◌⊎◌, inl, inr, refl, ap, sym, ◌∙◌, subst, arith}
use Rattle.std.specs.Prelude.{◌==◌, nat_le, cond}
use Rattle.std.specs.List.{count_by, sum, find, range_with_len}
use Rattle.std.specs.Option.{unwrap_or}
use Rattle.std.proofs.lemmas.Bool.{cases_lt}
use Rattle.std.proofs.lemmas.Bool.Decides.{nat_tests}
use Rattle.std.proofs.lemmas.List.{take_more, append_assoc}
use Rattle.std.proofs.lemmas.List.FromFn.{get_or-map-range_with_len, length-map-range_with_len}
use Rattle.std.proofs.lemmas.List.Sums.{sum_by-cons, sum_by_more, count_by-le-length}
use Rattle.std.proofs.lemmas.Grind.{common_steps}
use Rattle.clip_term.specs.Expression.{is_half}
use Rattle.flt_choice.specs.Counts.{times_in, counted, HasRoom, AddsCounts, AreCounts, AreNone}

-- each of these is how many of the samples have that value
abbrev AreTimes : List ℕ → List ℕ → Type 0
AreTimes counts samples = (v : ℕ) → v < length counts → get_or counts v 0 ≡ times_in samples v

-- the counts of the first values, over the four tables
abbrev pub totals : ℕ → ℕ → List ℕ → List ℕ
totals size values counts = map (λ v. counted size counts v) (range_with_len 0 values)

total_at : (size values : ℕ) (counts : List ℕ) (v : ℕ) → v < values → get_or (totals size values counts) v 0 ≡ counted size counts v
total_at size values counts v inside = get_or-map-range_with_len (λ k. counted size counts k) 0 values v v 0 inside (omega arith)

length-totals : (size values : ℕ) (counts : List ℕ) → length (totals size values counts) ≡ values
length-totals size values counts = length-map-range_with_len (λ k. counted size counts k) 0 values

are_totals : (size values : ℕ) (counts samples : List ℕ) → values ≤ size → AreCounts size counts samples → AreTimes (totals size values counts) samples
are_totals size values counts samples within are = search (arith, length-totals, total_at)

-- one more value
pub total_more : (size values : ℕ) (counts : List ℕ) (v : ℕ) → v < values → sum (take (v + 1) (totals size values counts)) ≡ sum (take v (totals size values counts)) + counted size counts v
total_more size values counts v inside =
    sum_by_more (λ x. x) (totals size values counts) v 0 (omega (arith, length-totals size values counts)) ∙ ap (λ n. sum (take v (totals size values counts)) + n) (total_at size values counts v inside)

abbrev no_greater : ℕ → List ℕ → ℕ
no_greater v samples = count_by (λ s. nat_le s v) samples

abbrev one_if : Bool → ℕ
one_if t = cond t 1 0

one_more : (s v : ℕ) → one_if (nat_le s (suc v)) ≡ one_if (nat_le s v) + one_if (s == suc v)
one_more s v = grind (arith, nat_tests)

none_less : (s : ℕ) → one_if (nat_le s 0) ≡ one_if (s == 0)
none_less s = grind (arith, nat_tests)

greater_more : (v : ℕ) (samples : List ℕ) → no_greater (suc v) samples ≡ no_greater v samples + times_in samples (suc v)
greater_more v [] = refl
greater_more v (s ∷ samples) =
    let here = one_more s v in
    let later = greater_more v samples in
    omega (
      arith,
      here,
      later,
      sum_by-cons (λ x. one_if (nat_le x (suc v))) s samples,
      sum_by-cons (λ x. one_if (nat_le x v)) s samples,
      sum_by-cons (λ x. one_if (x == suc v)) s samples,
    )

greater_none : (samples : List ℕ) → no_greater 0 samples ≡ times_in samples 0
greater_none [] = refl
greater_none (s ∷ samples) =
    omega (arith, none_less s, greater_none samples, sum_by-cons (λ x. one_if (nat_le x 0)) s samples, sum_by-cons (λ x. one_if (x == 0)) s samples)

-- the first counts together
first_counts : (counts samples : List ℕ) → AreTimes counts samples → (v : ℕ) → v < length counts → sum (take (v + 1) counts) ≡ no_greater v samples
first_counts counts samples are zero inside = omega (arith, sum_by_more (λ x. x) counts 0 0 inside, are 0 inside, greater_none samples)
first_counts counts samples are (suc v) inside =
    let more : sum (take (suc v + 1) counts) ≡ sum (take (suc v) counts) + get_or counts (suc v) 0 = sum_by_more (λ x. x) counts (suc v) 0 inside in
    let next : suc v ≡ v + 1 = omega arith in
    let same : sum (take (suc v) counts) ≡ sum (take (v + 1) counts) = ap (λ n. sum (take n counts)) next in
    let before = first_counts counts samples are v (omega arith) in
    let here = are (suc v) inside in
    omega (arith, more, same, before, here, greater_more v samples)

-- the first number of a range that passes
found_by : (test : ℕ → Bool) (a n v : ℕ) → a ≤ v → v < a + n → ((k : ℕ) → k < v → test k ≡ false) → test v ≡ true → (t : Bool) → test a ≡ t → find test (range_with_len a n) ≡ Some v
found_by test a zero v least inside before passes t is = absurd (omega arith)
found_by test a (suc n) v least inside before passes true is =
    elim (cases_lt a v) [
      | inl less ↦ absurd (let none = before a less in let never : ⊥ = cc in never)
      | inr same ↦ (let here : a ≡ v = omega arith in rw is (ap Some here))
    ]
found_by test a (suc n) v least inside before passes false is =
    elim (cases_lt a v) [
      | inl less ↦ rw is (found_by test (a + 1) n v (omega arith) (omega arith) before passes (test (a + 1)) refl)
      | inr same ↦ absurd (let here : test a ≡ test v = ap test (omega arith) in let never : ⊥ = cc in never)
    ]

pub found : (test : ℕ → Bool) (n v : ℕ) → v < n → ((k : ℕ) → k < v → test k ≡ false) → test v ≡ true → unwrap_or (find test (range_with_len 0 n)) 0 ≡ v
found test n v inside before passes = rw (found_by test 0 n v (omega arith) (omega arith) before passes (test 0) refl) refl

none_by : (test : ℕ → Bool) (a n : ℕ) → ((k : ℕ) → k < a + n → test k ≡ false) → find test (range_with_len a n) ≡ None
none_by test a zero none = refl
none_by test a (suc n) none = rw (none a (omega arith)) (none_by test (a + 1) n (λ k h. none k (omega arith)))

pub not_found : (test : ℕ → Bool) (n : ℕ) → ((k : ℕ) → k < n → test k ≡ false) → unwrap_or (find test (range_with_len 0 n)) 0 ≡ 0
not_found test n none = rw (none_by test 0 n (λ k h. none k (omega arith))) refl

half_by : (samples : List ℕ) (total v counted : ℕ) → length samples ≡ total → counted ≡ no_greater v samples → total ≤ 2 * counted → is_half samples v ≡ true
half_by samples total v counted long same most = grind (arith, nat_tests)

less_by : (samples : List ℕ) (total v counted : ℕ) → length samples ≡ total → counted ≡ no_greater v samples → 2 * counted < total → is_half samples v ≡ false
less_by samples total v counted long same few = grind (arith, nat_tests)

-- at least half, by the counts
pub half_is : (size values : ℕ) (counts samples : List ℕ) (total v : ℕ) → values ≤ size → AreCounts size counts samples → length samples ≡ total → v < values → total ≤ 2 * sum (take (v + 1) (totals size values counts))
    → is_half samples v ≡ true
half_is size values counts samples total v within are long inside most = search (arith, first_counts, are_totals, length-totals, half_by)

pub less_is : (size values : ℕ) (counts samples : List ℕ) (total v : ℕ) → values ≤ size → AreCounts size counts samples → length samples ≡ total → v < values → 2 * sum (take (v + 1) (totals size values counts)) < total
    → is_half samples v ≡ false
less_is size values counts samples total v within are long inside few = search (arith, first_counts, are_totals, length-totals, less_by)

-- COUNTING

not_equal : (a b : ℕ) → (a ≡ b → ⊥) → (a == b) ≡ false
not_equal a b differ = grind (arith, nat_tests)

other_one : (a b : ℕ) → (a ≡ b → ⊥) → one_if (a == b) ≡ 0
other_one a b differ = rw (not_equal a b differ) refl

-- which of four places is this one
abbrev ones : ℕ → ℕ → ℕ → ℕ
ones size v p = one_if (v == p) + one_if (size + v == p) + one_if (2 * size + v == p) + one_if (3 * size + v == p)

-- the place of a sample in one of four tables
pub record IsPlace (size s p : ℕ) : Type 0 where
  pub which : (p ≡ s) ⊎ ((p ≡ size + s) ⊎ ((p ≡ 2 * size + s) ⊎ (p ≡ 3 * size + s)))

pub is_place : (size table s : ℕ) → table < 4 → IsPlace size s (table * size + s)
is_place size table s low =
    elim (cases_lt table 1) [
      | inl a ↦ (let t : table ≡ 0 = omega arith in record { which = inl (ap (λ k. k * size + s) t ∙ (omega arith)) })
      | inr b ↦ elim (cases_lt table 2) [
        | inl a ↦ (let t : table ≡ 1 = omega arith in record { which = inr (inl (ap (λ k. k * size + s) t ∙ (omega arith))) })
        | inr c ↦ elim (cases_lt table 3) [
          | inl a ↦ (let t : table ≡ 2 = omega arith in record { which = inr (inr (inl (ap (λ k. k * size + s) t))) })
          | inr d ↦ (let t : table ≡ 3 = omega arith in record { which = inr (inr (inr (ap (λ k. k * size + s) t))) })
        ]
      ]
    ]

pub place_inside : (size s p : ℕ) → s < size → IsPlace size s p → p < 4 * size
place_inside size s p h is = grind (arith, common_steps)

-- no count is greater than the four of its value
pub place_few : (size s p : ℕ) (counts : List ℕ) → IsPlace size s p → get_or counts p 0 ≤ counted size counts s
place_few size s p counts is = grind (arith, common_steps)

-- one sample
pub one_counted : (size s p : ℕ) (counts : List ℕ) → s < size → length counts ≡ 4 * size → IsPlace size s p → AddsCounts size counts (s ∷ []) (set counts p (get_or counts p 0 + 1))
one_counted size s p counts inside long is = grind (arith, common_steps)

-- the samples of two lists
pub counts_both : (size : ℕ) (old middle new front rest : List ℕ) → AddsCounts size old front middle → AddsCounts size middle rest new → AddsCounts size old (front ++ rest) new
counts_both size old middle new front rest first second = grind (arith, common_steps)

-- one more sample, and four
pub one_more_counted : (size : ℕ) (old middle new samples : List ℕ) (x s : ℕ) → AddsCounts size old (take x samples) middle → AddsCounts size middle (s ∷ []) new → x < length samples → s ≡ get_or samples x 0
    → AddsCounts size old (take (x + 1) samples) new
one_more_counted size old middle new samples x s first second inside is = grind (arith, common_steps)

pub four_more_counted : (size : ℕ) (old middle new samples : List ℕ) (x y a b c d : ℕ) → AddsCounts size old (take x samples) middle → AddsCounts size middle (a ∷ b ∷ c ∷ d ∷ []) new → x + 4 ≤ length samples → y ≡ x + 4
    → a ≡ get_or samples x 0 → b ≡ get_or samples (x + 1) 0 → c ≡ get_or samples (x + 2) 0 → d ≡ get_or samples (x + 3) 0 → AddsCounts size old (take y samples) new
four_more_counted size old middle new samples x y a b c d first second inside is a_is b_is c_is d_is =
    let front = take x samples in
    let one = take_more samples x 0 (omega arith) in
    let two : take (x + 2) samples ≡ take (x + 1) samples ++ (get_or samples (x + 1) 0 ∷ []) = ap (λ k. take k samples) (omega arith) ∙ take_more samples (x + 1) 0 (omega arith) in
    let three : take (x + 3) samples ≡ take (x + 2) samples ++ (get_or samples (x + 2) 0 ∷ []) = ap (λ k. take k samples) (omega arith) ∙ take_more samples (x + 2) 0 (omega arith) in
    let four : take y samples ≡ take (x + 3) samples ++ (get_or samples (x + 3) 0 ∷ []) = ap (λ k. take k samples) (omega arith) ∙ take_more samples (x + 3) 0 (omega arith) in
    let joined : take y samples ≡ front ++ (a ∷ b ∷ c ∷ d ∷ []) = rw (four, three, two, one, a_is, b_is, c_is, d_is) (simp append_assoc) in
    subst (λ (l : List ℕ). AddsCounts size old l new) (sym joined) (counts_both size old middle new front (a ∷ b ∷ c ∷ d ∷ []) first second)

-- room that is left
pub room_left : (size : ℕ) (old samples new : List ℕ) (more room : ℕ) → HasRoom size old room → AddsCounts size old samples new → length samples + more ≤ room → HasRoom size new more
room_left size old samples new more room has adds few = λ v low. omega (arith, has v low, adds.counts v low, count_by-le-length (λ s. s == v) samples)

none_there : (size : ℕ) (counts : List ℕ) → AreNone counts → (v : ℕ) → counted size counts v ≡ 0
none_there size counts none v = omega (arith, none v, none (size + v), none (2 * size + v), none (3 * size + v))

-- counts that began at 0 are those of the samples
pub counts_are : (size : ℕ) (old samples new : List ℕ) → AreNone old → AddsCounts size old samples new → AreCounts size new samples
counts_are size old samples new none adds = λ v low. omega (arith, none_there size old none v, adds.counts v low)

-- where they began at 0, there is room
pub none_room : (size : ℕ) (old samples new : List ℕ) (more : ℕ) → AreNone old → AddsCounts size old samples new → length samples + more < 2 ^ 32 → HasRoom size new more
none_room size old samples new more none adds few = λ v low. omega (arith, none_there size old none v, adds.counts v low, count_by-le-length (λ s. s == v) samples)
