-- Rates in lowest terms.
use Rattle.std.proofs.Common.{◌≡◌, ℕ, ◌/◌, ◌^◌, ◌<◌, Some, refl, arith, ne_eqb}
use Rattle.std.proofs.Math.Nat.{div-le_self, one-dvd}
use Rattle.fv_plane.specs.Info.{gcd, IsRate}
use Rattle.fv_plane.proofs.GcdLemmas.{lowest_terms}
use Rattle.y4m_stream.specs.Head.{lowest}

pub default_rate : IsRate 25 1
default_rate = record { some_num = omega arith; some_den = omega arith; most_num = omega arith; most_den = omega arith; lowest = (one-dvd 25, one-dvd 1, λ d first second. second) }

-- the rate of two numbers that are not 0
pub lowest_is : (num den : ℕ) → 0 < num → 0 < den → lowest (num, den) ≡ Some (num / gcd num den, den / gcd num den)
lowest_is num den some more = rw (ne_eqb num 0 (omega arith), ne_eqb den 0 (omega arith)) refl

-- it is a rate, where the two are small
pub reduced : (num den : ℕ) → 0 < num → 0 < den → num < 2 ^ 31 → den < 2 ^ 31 → IsRate (num / gcd num den) (den / gcd num den)
reduced num den some more few small =
    lowest_terms num den some more (let less = div-le_self num (gcd num den) in omega arith) (let less = div-le_self den (gcd num den) in omega arith)
