-- How often each value is among samples, counted in four tables.
use Rattle.std.specs.Prelude.{◌≡◌, ℕ, ◌+◌, ◌*◌, ◌^◌, ◌<◌, ◌≤◌, ◌==◌, List, length, slice_index}
use Rattle.std.specs.List.{count_by, find, range_with_len}
use Rattle.std.specs.Option.{unwrap_or}
use Rattle.fv_plane.specs.declared.format.Shape.{Shape}
use Rattle.fv_plane.specs.Format.{largest_sample}
use Rattle.clip_term.specs.Expression.{is_half}

abbrev pub times_in : List ℕ → ℕ → ℕ
times_in samples v = count_by (λ s. s == v) samples

-- the counts of a value in four tables of this size, one after the other
abbrev pub counted : ℕ → List ℕ → ℕ → ℕ
counted size counts v =
    slice_index counts v + slice_index counts (size + v) + slice_index counts (2 * size + v)
    + slice_index counts (3 * size + v)

-- so many more samples may be counted
abbrev pub HasRoom : ℕ → List ℕ → ℕ → Type 0
HasRoom size counts more = (v : ℕ) → v < size → counted size counts v + more < 2 ^ 32

abbrev pub AreNone : List ℕ → Type 0
AreNone counts = (v : ℕ) → slice_index counts v ≡ 0

-- the counts of each value are greater by the samples that have it
pub record AddsCounts (size : ℕ) (old samples new : List ℕ) : Type 0 where
  pub counts : (v : ℕ) → v < size → counted size new v ≡ counted size old v + times_in samples v
  pub long : length new ≡ length old

-- the counts of each value are how many of the samples have it
abbrev pub AreCounts : ℕ → List ℕ → List ℕ → Type 0
AreCounts size counts samples = (v : ℕ) → v < size → counted size counts v ≡ times_in samples v

-- tables for the samples of a shape
pub record AreTables (shape : Shape) (size : ℕ) (counts : List ℕ) : Type 0 where
  pub values : largest_sample shape < size
  pub narrow : shape.bits ≡ 8 → size ≡ 256
  pub few : size ≤ 65552
  pub long : length counts ≡ 4 * size

-- of values below this one, the least such that at least half of the samples are no greater
abbrev pub middle_of : ℕ → List ℕ → ℕ
middle_of count samples = unwrap_or (find (is_half samples) (range_with_len 0 count)) 0
