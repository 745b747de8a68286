-- Numbers that filters take.
use Rattle.std.proofs.Common.{arith, ◌≡◌, ℕ, zero, suc, ◌<◌, ℤ, pos, negsuc, List, [], ◌∷◌, length, get_or, Bool, true, ◌&&◌, Some}
use Rattle.std.specs.Int.{w32}
use Rattle.std.specs.Int.RustNames.{FitsSigned}
use Rattle.std.proofs.lemmas.Bool.Decides.{nat_tests}
use Rattle.avs_values.specs.declared.value.Value.{Value}
use Rattle.avs_values.specs.declared.value.Value.TheVariants as v
use Rattle.avs_meaning.specs.Arguments.{number_at, is_filter_number, fits_filters, all_fit_filters}

left : (a b : Bool) → (a && b) ≡ true → a ≡ true
left a b is = grind arith

right : (a b : Bool) → (a && b) ≡ true → b ≡ true
right a b is = grind arith

-- a number at a place among values that fit
pub fits_at : (values : List Value) (place : ℕ) (n : ℤ) → all_fit_filters values ≡ true → number_at values place ≡ Some n → is_filter_number n ≡ true
fits_at [] place n fit is = absurd (cc)
fits_at (v.Int m ∷ values) zero n fit is = let same : m ≡ n = cc in rw same at (left (is_filter_number m) _ fit)
fits_at (_ ∷ values) zero n fit is = absurd (cc)
fits_at (x ∷ values) (suc place) n fit is = fits_at values place n (right (fits_filters x) _ fit) is

small : (n : ℤ) → is_filter_number n ≡ true → FitsSigned w32 n
small (pos n) fit = record { sfits = grind (arith, nat_tests) }
small (negsuc n) fit = record { sfits = grind (arith, nat_tests) }

-- a number at a place among values that fit has 32 bits
pub fits_in : (values : List Value) (place : ℕ) (d : Value) (n : ℤ) → all_fit_filters values ≡ true → place < length values → get_or values place d ≡ v.Int n → FitsSigned w32 n
fits_in [] place d n fit inside is = absurd (omega arith)
fits_in (x ∷ values) zero d n fit inside is = let same : x ≡ v.Int n = is in small n (rw same at (left (fits_filters x) _ fit))
fits_in (x ∷ values) (suc place) d n fit inside is = fits_in values place d n (right (fits_filters x) _ fit) (omega arith) is
