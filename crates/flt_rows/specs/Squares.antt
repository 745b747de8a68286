-- Squares of weights that are so small that 16 bits hold each sum.
use Rattle.std.specs.Prelude.{ℕ, ◌+◌, ◌*◌, ◌^◌, ◌<◌, ◌≤◌, ℤ, pos, ◌+ℤ◌, ◌-ℤ◌, ◌*ℤ◌, int_div, List, [], ◌∷◌, length, slice_index, unsigned_abs}
use Rattle.std.specs.List.{sum_by}
use Rattle.clip_term.specs.Soft.{place, sample_from}
use Rattle.flt_rows.specs.declared.narrow.Ending.{Ending}
use Rattle.flt_rows.specs.declared.narrow.Weights.{Weights}
use Rattle.flt_rows.specs.declared.narrow.Square.{Square}

-- the sizes of weights, added up
abbrev pub size_of_all : List ℤ → ℕ
size_of_all weights = sum_by unsigned_abs weights

abbrev pub size_of : Weights → ℕ
size_of weights = unsigned_abs weights.left + unsigned_abs weights.middle + unsigned_abs weights.right

abbrev pub size_of_square : Square → ℕ
size_of_square square = size_of square.above + size_of square.middle + size_of square.below

-- the weights of a square, row by row
abbrev pub entries_of : Square → List ℤ
entries_of square =
    square.above.left ∷ square.above.middle ∷ square.above.right
    ∷ square.middle.left ∷ square.middle.middle ∷ square.middle.right
    ∷ square.below.left ∷ square.below.middle ∷ square.below.right ∷ []

-- three samples of a row, each times its weight
abbrev pub weighed_at : Weights → List ℕ → ℕ → ℕ → ℕ → ℤ
weighed_at weights row left x right =
    weights.left *ℤ pos (slice_index row left) +ℤ weights.middle *ℤ pos (slice_index row x)
    +ℤ weights.right *ℤ pos (slice_index row right)

-- the same in three rows
abbrev pub weighed_square : Square → List ℕ → List ℕ → List ℕ → ℕ → ℕ → ℕ → ℤ
weighed_square square above row below left x right =
    weighed_at square.above above left x right +ℤ weighed_at square.middle row left x right
    +ℤ weighed_at square.below below left x right

-- the samples around a place; the first and the last stand for those beyond them
abbrev pub weighed_around : Square → List ℕ → List ℕ → List ℕ → ℕ → ℤ
weighed_around square above row below x =
    let width = length row in
    weighed_square square above row below (place x 0 1 width) (place x 1 1 width) (place x 2 1 width)

-- a sum, divided and raised, as a sample
abbrev pub shown : Ending → ℤ → ℕ
shown ending sum =
    sample_from ending.largest (int_div sum ending.divisor +ℤ (pos ending.more -ℤ pos ending.less))

-- no sample of a row is over this one
abbrev pub AreAtMost : ℕ → List ℕ → Type 0
AreAtMost largest row = (x : ℕ) → slice_index row x ≤ largest

-- a quotient by this divisor of a number below 2^15 is the number times the factor, without the lowest bits
pub record IsNarrowReciprocal (divisor factor bits : ℕ) : Type 0 where
  pub some : 0 < divisor
  pub few : bits < 16
  pub low : 2 ^ (15 + bits) ≤ factor * divisor
  pub high : factor * divisor ≤ 2 ^ (15 + bits) + divisor
  pub wide : 2 ^ 15 * divisor ≤ 2 ^ (15 + bits)

-- sums below 2^15 in size end as samples
pub record IsEnding (ending : Ending) : Type 0 where
  pub by : IsNarrowReciprocal (unsigned_abs ending.divisor) ending.by.factor ending.by.bits
  pub divisor : unsigned_abs ending.divisor ≤ 128
  pub more : ending.more < 2 ^ 15
  pub less : ending.less < 2 ^ 15
  pub largest : ending.largest < 2 ^ 15
