-- Digits that are read as a number.
use Rattle.std.proofs.Common.{◌≡◌, ℕ, zero, suc, ◌<◌, ◌≤◌, ◌^◌, ◌&&◌, List, [], ◌∷◌, Bool, true, false, refl, ap, length, Some, None, Result, Ok, Err, arith, rules, ⊎_elim, ◌∙◌}
use Rattle.std.specs.Prelude.{nat_le, nat_lt}
use Rattle.std.specs.Char.{is_ascii_digit}
use Rattle.std.specs.List.{list_all}
use Rattle.std.specs.Str.{IsUtf8, IsAscii}
use Rattle.std.specs.Str.Parse.{ParsesUnsigned, digits_value}
use Rattle.std.proofs.lemmas.Bool.{ltb-true, leb-true, le-leb, cases_lt, and_parts}
use Rattle.std.proofs.lemmas.Str.{IsUtf8-from_ascii}
use Rattle.std.proofs.lemmas.Str.Parse.{IsDigitsTest, IsNumeralModel, numerals_by_value, parse_digits}
use Rattle.fv_session.specs.Requests.{is_number, in_bounds}

tells : IsDigitsTest (λ ds. list_all is_ascii_digit ds ≡ true)
tells = search rules

digits : IsNumeralModel (λ ds. list_all is_ascii_digit ds ≡ true) (digits_value 10)
digits = numerals_by_value _ tells

parts : (word : List ℕ) → is_number word ≡ true → (0 < length word) × (list_all is_ascii_digit word ≡ true)
parts word number =
    let outer = and_parts (nat_lt 0 (length word) && nat_le (length word) 10) (list_all is_ascii_digit word) number in
    let inner = and_parts (nat_lt 0 (length word)) (nat_le (length word) 10) outer.0 in
    (ltb-true 0 (length word) inner.0, outer.1)

digit_ascii : (digit : ℕ) → is_ascii_digit digit ≡ true → digit < 128
digit_ascii digit is = search rules

digits_ascii : (ds : List ℕ) → list_all is_ascii_digit ds ≡ true → IsAscii ds
digits_ascii [] all i = omega arith
digits_ascii (digit ∷ ds) all zero = digit_ascii digit (and_parts (is_ascii_digit digit) (list_all is_ascii_digit ds) all).0
digits_ascii (digit ∷ ds) all (suc i) = digits_ascii ds (and_parts (is_ascii_digit digit) (list_all is_ascii_digit ds) all).1 i

pub number_utf8 : (word : List ℕ) → is_number word ≡ true → IsUtf8 word
number_utf8 word number = IsUtf8-from_ascii word (digits_ascii word (parts word number).1)

-- what was read is the number
pub read_is : {E : Type 0} (word : List ℕ) (n : ℕ) (r : Result ℕ E) → ParsesUnsigned 32 10 word r → is_number word ≡ true → r ≡ Ok n → Some n ≡ in_bounds (digits_value 10 word)
read_is {E} word n r parsed number is =
    let given : ((0 < length word) × (digits_value 10 word < 2 ^ 32)) × (n ≡ digits_value 10 word) = rw is at (parse_digits digits 32 word r parsed (parts word number).1) in
    let small : nat_le (digits_value 10 word) 4294967295 ≡ true = le-leb (digits_value 10 word) 4294967295 (omega (arith, given.0.1)) in
    ap (λ (m : ℕ). Some m) given.1 ∙ rw small refl

past : (n : ℕ) (test : Bool) → nat_le n 4294967295 ≡ test → 4294967295 < n → None ≡ in_bounds n
past n true is large = let le : n ≤ 4294967295 = leb-true n 4294967295 is in absurd (omega arith)
past n false is large = rw is refl

-- what was not read is too large
pub none_read : {E : Type 0} (word : List ℕ) (e : E) (r : Result ℕ E) → ParsesUnsigned 32 10 word r → is_number word ≡ true → r ≡ Err e → None ≡ in_bounds (digits_value 10 word)
none_read {E} word e r parsed number is =
    let refused : ((0 < length word) × (digits_value 10 word < 2 ^ 32)) → ⊥ = rw is at (parse_digits digits 32 word r parsed (parts word number).1) in
    let whole = (parts word number).0 in
    let large : 2 ^ 32 ≤ digits_value 10 word = ⊎_elim (λ lt. absurd (refused (whole, lt))) (λ ge. ge) (cases_lt (digits_value 10 word) (2 ^ 32)) in
    past (digits_value 10 word) (nat_le (digits_value 10 word) 4294967295) refl (omega (arith, large))
