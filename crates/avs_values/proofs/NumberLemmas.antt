-- What `parse` and `from_str_radix` fail at.
use Rattle.std.proofs.Common.{◌≡◌, ℤ, pos, negsuc, ◌<◌, ◌≤◌, ◌^◌, [], ◌∷◌, length, drop, Bool, true, false, not, ◌&&◌, ◌==◌, nat_le, Err, arith, refl, if◌then◌else◌, cond, lit<}
use Rattle.std.specs.Char.{is_ascii_digit, is_ascii_hexdigit}
use Rattle.std.specs.Int.{w64}
use Rattle.std.specs.Int.RustNames.{FitsSigned}
use Rattle.std.specs.List.{list_all}
use Rattle.std.specs.Str.Parse.{AllDigits, IsNumeral, digits_value, signed_digits_value, starts_with_minus, without_leading_plus, without_leading_sign}
use Rattle.std.proofs.Math.Nat.{pow-le-pow_right}
use Rattle.std.proofs.lemmas.Bool.Decides.{nat_tests}
use Rattle.std.proofs.lemmas.Int.Digits.{digits_value-lt}
use Rattle.avs_values.specs.Functions.{is_decimal, is_hexadecimal}
use Rattle.avs_values.specs.Values.{number, is_number, Text}
use Rattle.avs_values.specs.Values as f

left : (a b : Bool) → (a && b) ≡ true → a ≡ true
left a b x = grind arith

right : (a b : Bool) → (a && b) ≡ true → b ≡ true
right a b x = grind arith

decimal_digits : (t : Text) → list_all is_ascii_digit t ≡ true → AllDigits 10 t
decimal_digits [] is = tt
decimal_digits (c ∷ cs) is = let digit : is_ascii_digit c ≡ true = left (is_ascii_digit c) _ is in (grind (arith, nat_tests), decimal_digits cs (right (is_ascii_digit c) _ is))

hexadecimal_digits : (t : Text) → list_all is_ascii_hexdigit t ≡ true → AllDigits 16 t
hexadecimal_digits [] is = tt
hexadecimal_digits (c ∷ cs) is = let digit : is_ascii_hexdigit c ≡ true = left (is_ascii_hexdigit c) _ is in (grind (arith, nat_tests), hexadecimal_digits cs (right (is_ascii_hexdigit c) _ is))

some_decimals : (ds : Text) → (not (length ds == 0) && list_all is_ascii_digit ds) ≡ true → IsNumeral 10 ds
some_decimals ds is = (grind (arith, nat_tests, left (not (length ds == 0)) _ is), decimal_digits ds (right (not (length ds == 0)) _ is))

-- text that begins with no `+` has none to leave out
decimal_without_plus : (t : Text) → list_all is_ascii_digit t ≡ true → without_leading_plus t ≡ t
decimal_without_plus [] is = refl
decimal_without_plus (c ∷ cs) is = let digit : is_ascii_digit c ≡ true = left (is_ascii_digit c) _ is in let none : (c == 43) ≡ false = grind (arith, nat_tests) in rw none

hexadecimal_without_plus : (t : Text) → list_all is_ascii_hexdigit t ≡ true → without_leading_plus t ≡ t
hexadecimal_without_plus [] is = refl
hexadecimal_without_plus (c ∷ cs) is = let digit : is_ascii_hexdigit c ≡ true = left (is_ascii_hexdigit c) _ is in let none : (c == 43) ≡ false = grind (arith, nat_tests) in rw none

signed_by : (t : Text) (minus : Bool) → (not (length (drop (if minus then 1 else 0) t) == 0) && list_all is_ascii_digit (drop (if minus then 1 else 0) t)) ≡ true
    → IsNumeral 10 (cond minus (drop 1 t) (without_leading_plus t))
signed_by t true is = some_decimals (drop 1 t) is
signed_by t false is = let same = decimal_without_plus t (right (not (length t == 0)) _ is) in rw same (some_decimals t is)

signed_numeral : (t : Text) → is_decimal t ≡ true → IsNumeral 10 (without_leading_sign t)
signed_numeral t is = signed_by t (starts_with_minus t) is

fits : (z : ℤ) → is_number z ≡ true → FitsSigned w64 z
fits (pos n) is = record { sfits = grind (arith, nat_tests) }
fits (negsuc n) is = record { sfits = grind (arith, nat_tests) }

overflows : (z : ℤ) (b : Bool) → is_number z ≡ b → ¬ (FitsSigned w64 z) → number z ≡ Err f.Overflow
overflows z true is unfit = absurd (unfit (fits z is))
overflows z false is unfit = rw is

-- A decimal number that `parse` does not read is outside 64 bits.
pub decimal_overflows : (t : Text) → is_decimal t ≡ true → ¬ (IsNumeral 10 (without_leading_sign t) × FitsSigned w64 (signed_digits_value 10 t)) → number (signed_digits_value 10 t) ≡ Err f.Overflow
decimal_overflows t is unfit = overflows (signed_digits_value 10 t) (is_number (signed_digits_value 10 t)) refl (λ fit. unfit (signed_numeral t is, fit))

-- `from_str_radix` reads each hexadecimal number of at most 16 digits.
pub hexadecimal_fits : (t : Text) → is_hexadecimal t ≡ true → IsNumeral 16 (without_leading_plus t) × (digits_value 16 (without_leading_plus t) < 2 ^ 64)
hexadecimal_fits t is =
    let sizes : (nat_le 1 (length t) && nat_le (length t) 16) ≡ true = left (nat_le 1 (length t) && nat_le (length t) 16) _ is in
    let some : nat_le 1 (length t) ≡ true = left (nat_le 1 (length t)) _ sizes in
    let few : nat_le (length t) 16 ≡ true = right (nat_le 1 (length t)) _ sizes in
    let digits : list_all is_ascii_hexdigit t ≡ true = right (nat_le 1 (length t) && nat_le (length t) 16) _ is in
    let bound : length t ≤ 16 = grind (arith, nat_tests) in
    let most : 16 ^ length t ≤ 16 ^ 16 = pow-le-pow_right (lit< tt) bound in
    rw (hexadecimal_without_plus t digits) ((grind (arith, nat_tests), hexadecimal_digits t digits), omega (arith, most, digits_value-lt 16 t (hexadecimal_digits t digits)))
