-- What is made of rows of samples.
use Rattle.std.specs.Prelude.{ℕ, ◌+◌, ◌-◌, ◌*◌, ◌^◌, ◌<◌, ◌≤◌, ℤ, pos, negsuc, neg_ℤ, ◌+ℤ◌, ◌*ℤ◌, ◌≤ℤ◌, List, ◌++◌, length, replicate, slice_index, slice_index_or}

-- a row with its first and its last sample repeated before and after it
abbrev pub extended : ℕ → List ℕ → List ℕ
extended count row =
    replicate count (slice_index row 0) ++ (row ++ replicate count (slice_index row (length row - 1)))

-- three samples from a place on, each times its weight
abbrev pub weighed_three : ℤ → ℤ → ℤ → List ℕ → ℕ → ℤ
weighed_three a b c row x =
    a *ℤ pos (slice_index row x) +ℤ b *ℤ pos (slice_index row (x + 1)) +ℤ c *ℤ pos (slice_index row (x + 2))

-- and five
abbrev pub weighed_five : ℤ → ℤ → ℤ → ℤ → ℤ → List ℕ → ℕ → ℤ
weighed_five a b c d e row x =
    weighed_three a b c row x +ℤ (d *ℤ pos (slice_index row (x + 3)) +ℤ e *ℤ pos (slice_index row (x + 4)))

-- a weight is from -1,024 to 1,024
pub record IsWeight (weight : ℤ) : Type 0 where
  pub low : negsuc 1023 ≤ℤ weight
  pub high : weight ≤ℤ pos 1024

abbrev pub AreWeights : List ℤ → Type 0
AreWeights weights = (k : ℕ) → IsWeight (slice_index_or weights k (pos 0))

-- no further from 0 than this
pub record IsWithin (most : ℕ) (sum : ℤ) : Type 0 where
  pub low : neg_ℤ (pos most) ≤ℤ sum
  pub high : sum ≤ℤ pos most

abbrev pub AreWithin : ℕ → List ℤ → Type 0
AreWithin most sums = (x : ℕ) → IsWithin most (slice_index_or sums x (pos 0))

-- a bias is from -255 to 255
pub record IsBias (bias : ℤ) : Type 0 where
  pub low : negsuc 254 ≤ℤ bias
  pub high : bias ≤ℤ pos 255

-- a quotient by this divisor of a number below 2^31 is the number times the factor, without the lowest bits
pub record IsReciprocal (divisor factor bits : ℕ) : Type 0 where
  pub some : 0 < divisor
  pub few : bits < 64
  pub low : 2 ^ bits ≤ factor * divisor
  pub high : factor * divisor ≤ 2 ^ bits + divisor
  pub wide : 2 ^ 31 * divisor ≤ 2 ^ bits
