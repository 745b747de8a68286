-- A number that a token wrote is written again.
use Rattle.std.proofs.Common.{◌≡◌, ◌∙◌, ℕ, suc, ◌+◌, ◌*◌, ◌<◌, ◌≤◌, ◌^◌, ◌/◌, ◌%◌, ap, sym, refl, subst, arith, rules, [], ◌∷◌, ◌++◌, length, drop, length-drop, true, fold, ℤ, pos, negsuc, inl, inr, lit<, Option, Some, None}
use Rattle.std.specs.List.{list_all}
use Rattle.std.specs.Fmt.{decimal}
use Rattle.std.specs.Char.{is_ascii_digit, is_ascii_hexdigit, digit_value}
use Rattle.std.specs.Int.{cast_signed, cast_unsigned, w64}
use Rattle.std.specs.Int.RustNames.{FitsSigned}
use Rattle.std.proofs.lemmas.Int.{to_z-of_z}
use Rattle.std.proofs.Math.Facts.{sfits_to_z}
use Rattle.std.proofs.lemmas.Str.Parse.{IsNumeralModel, numerals_by_fold}
use Rattle.std.proofs.lemmas.Fmt.{digits_decimal, digits_value-decimal, decimal_nonempty}
use Rattle.std.proofs.lemmas.Bool.Decides.{nat_tests}
use Rattle.avs_lex.specs.declared.token.TokenKind.{TokenKind}
use Rattle.avs_lex.specs.declared.token.TokenKind.TheVariants as k
use Rattle.avs_lex.specs.Spelling.{hexadecimal_digits, value, Spells, IsDecimal, IsHexadecimal, Text}
use Rattle.avs_lex.proofs.CallerLemmas.{hexdigit_value, sixteen_times, sixteen_digits}
use Rattle.avs_tree.specs.Lexeme.{said, symbol_by, word_of, keyword_of}
use Rattle.avs_tree.specs.declared.symbol.Symbol.TheVariants as s
use Rattle.avs_tree.specs.declared.words.Keyword.{Keyword}
use Rattle.avs_print.specs.Printed.{number, half, hexadecimal, hexadecimal_digit}
use Rattle.avs_print.proofs.Plain.{Fit, IsNumber}

-- ---- decimal digits

abbrev value_from : ℕ → Text → ℕ
value_from n digits = fold (λ n c. 10 * n + digit_value c) n digits

own : IsNumeralModel (λ digits. list_all is_ascii_digit digits ≡ true) (value_from 0)
own = numerals_by_fold _ (search rules) value_from (search rules)

-- the decimal digits of a number of 63 bits are a token of it
decimal_spelled : (n : ℕ) → n < 2 ^ 63 → IsDecimal (pos n) (decimal n)
decimal_spelled n small =
    let wide : n < 2 ^ 64 = omega arith in
    let written : value 10 (decimal n) ≡ n = digits_value-decimal own n wide in
    record {
      some = decimal_nonempty n wide;
      digits = digits_decimal own n wide;
      small = rw written (grind (arith, nat_tests));
      is = ap pos (sym written);
    }

-- ---- hexadecimal digits

hexadecimal_digit_is : (d : ℕ) → d < 16 → is_ascii_hexdigit (hexadecimal_digit d) ≡ true
hexadecimal_digit_is d low = grind (arith, nat_tests)

hexadecimal_digit_value : (d : ℕ) → d < 16 → digit_value (hexadecimal_digit d) ≡ d
hexadecimal_digit_value d low = grind (arith, nat_tests)

half_digits : (n : ℕ) (rest : Text) → list_all is_ascii_hexdigit rest ≡ true → list_all is_ascii_hexdigit (half n ++ rest) ≡ true
half_digits n rest more =
    let seven = hexadecimal_digit_is (n / 16 ^ 7 % 16) (omega arith) in
    let six = hexadecimal_digit_is (n / 16 ^ 6 % 16) (omega arith) in
    let five = hexadecimal_digit_is (n / 16 ^ 5 % 16) (omega arith) in
    let four = hexadecimal_digit_is (n / 16 ^ 4 % 16) (omega arith) in
    let three = hexadecimal_digit_is (n / 16 ^ 3 % 16) (omega arith) in
    let two = hexadecimal_digit_is (n / 16 ^ 2 % 16) (omega arith) in
    let one = hexadecimal_digit_is (n / 16 ^ 1 % 16) (omega arith) in
    let last = hexadecimal_digit_is (n / 16 ^ 0 % 16) (omega arith) in
    rw (seven, six, five, four, three, two, one, last) more

digits_there : (n : ℕ) → list_all is_ascii_hexdigit (hexadecimal n) ≡ true
unfolding hexadecimal
digits_there n = half_digits (n / 2 ^ 32) (half (n % 2 ^ 32)) (half_digits (n % 2 ^ 32) [] refl)

-- the 8 digits of 32 bits write those bits after the number before them
half_value : (before n : ℕ) → n < 2 ^ 32 → fold (λ n c. 16 * n + digit_value c) before (half n) ≡ 16 ^ 8 * before + n
half_value before n small =
    let seven = hexadecimal_digit_value (n / 16 ^ 7 % 16) (omega arith) in
    let six = hexadecimal_digit_value (n / 16 ^ 6 % 16) (omega arith) in
    let five = hexadecimal_digit_value (n / 16 ^ 5 % 16) (omega arith) in
    let four = hexadecimal_digit_value (n / 16 ^ 4 % 16) (omega arith) in
    let three = hexadecimal_digit_value (n / 16 ^ 3 % 16) (omega arith) in
    let two = hexadecimal_digit_value (n / 16 ^ 2 % 16) (omega arith) in
    let one = hexadecimal_digit_value (n / 16 ^ 1 % 16) (omega arith) in
    let last = hexadecimal_digit_value (n / 16 ^ 0 % 16) (omega arith) in
    rw (seven, six, five, four, three, two, one, last) (omega arith)

-- and the 16 digits of 64 bits write those bits
hexadecimal_value : (n : ℕ) → n < 2 ^ 64 → value 16 (hexadecimal n) ≡ n
unfolding hexadecimal
hexadecimal_value n small =
    let upper : value 16 (half (n / 2 ^ 32)) ≡ 16 ^ 8 * 0 + n / 2 ^ 32 = half_value 0 (n / 2 ^ 32) (omega arith) in
    let all : value 16 (hexadecimal n) ≡ 16 ^ 8 * value 16 (half (n / 2 ^ 32)) + n % 2 ^ 32 = half_value (value 16 (half (n / 2 ^ 32))) (n % 2 ^ 32) (omega arith) in
    omega (arith, upper, all)

digits_long : (n : ℕ) → length (hexadecimal n) ≡ 16
unfolding hexadecimal
digits_long n = refl

-- and for a number below zero, they are those of its two's complement
hexadecimal_spelled : (n : ℕ) → n < 2 ^ 63 → IsHexadecimal (negsuc n) (number (negsuc n))
hexadecimal_spelled n small =
    let bits = cast_unsigned w64 (negsuc n) in
    let wide : bits < 2 ^ 64 = omega arith in
    let fits : FitsSigned w64 (negsuc n) = record { sfits = small } in
    record {
      some = omega (arith, digits_long bits);
      few = omega (arith, digits_long bits);
      opens = refl;
      digits = digits_there bits;
      is = sym (to_z-of_z w64 (negsuc n) fits) ∙ ap (cast_signed w64) (sym (hexadecimal_value bits wide));
    }

-- a number of 64 bits with a sign is written by what is printed of it
fitting : (n : ℤ) → FitsSigned w64 n → IsNumber n
fitting (pos n) fits = inl (decimal_spelled n fits.sfits)
fitting (negsuc n) fits = inr (hexadecimal_spelled n fits.sfits)

-- ---- the numbers of tokens

fits_decimal : (n : ℤ) (bytes : Text) → IsDecimal n bytes → FitsSigned w64 n
fits_decimal n bytes spelled =
    let small : value 10 bytes < 2 ^ 63 = grind (arith, nat_tests, spelled.small) in
    let fits : FitsSigned w64 (pos (value 10 bytes)) = record { sfits = small } in
    subst (FitsSigned w64) (sym spelled.is) fits

-- a number of n hexadecimal digits, and further digits after it
value_below : (digits : Text) (n i : ℕ) → list_all is_ascii_hexdigit digits ≡ true → n < 16 ^ i → fold (λ n c. 16 * n + digit_value c) n digits < 16 ^ (i + length digits)
value_below [] n i all low = let same : i + 0 ≡ i = omega arith in rw same low
value_below (d ∷ digits) n i all low =
    let here : is_ascii_hexdigit d ≡ true = grind arith in
    let later : list_all is_ascii_hexdigit digits ≡ true = grind arith in
    let more : i + suc (length digits) ≡ i + 1 + length digits = omega arith in
    rw more (value_below digits (16 * n + digit_value d) (i + 1) later (sixteen_times n (digit_value d) i low (hexdigit_value d here)))

cast_fits : (n : ℕ) → n < 2 ^ 64 → FitsSigned w64 (cast_signed w64 n)
cast_fits n wide = sfits_to_z (record { fits = wide })

fits_hexadecimal : (n : ℤ) (bytes : Text) → IsHexadecimal n bytes → FitsSigned w64 n
fits_hexadecimal n bytes spelled =
    let digits = drop 1 bytes in
    let few : length digits ≤ hexadecimal_digits = omega (arith, spelled.few, length-drop 1 bytes) in
    let low : value 16 digits < 16 ^ (0 + length digits) = value_below digits 0 0 spelled.digits (lit< tt) in
    let wide : value 16 digits < 2 ^ 64 = sixteen_digits (value 16 digits) (0 + length digits) low (omega arith) in
    subst (FitsSigned w64) (sym spelled.is) (cast_fits (value 16 digits) wide)

fits_spelled : (n : ℤ) (bytes : Text) → Spells (k.Int n) bytes → FitsSigned w64 n
fits_spelled n bytes spelled = elim spelled as (λ _. FitsSigned w64 n) [ inl one ↦ fits_decimal n bytes one | inr other ↦ fits_hexadecimal n bytes other ]

no_number : (word : Option Keyword) (n : ℤ) → s.Int n ≡ word_of word → ⊥
no_number None n is = cc
no_number (Some keyword) n is = cc

number_by : (kind : TokenKind) (n : ℤ) (bytes : Text) → Spells kind bytes → s.Int n ≡ symbol_by kind (said kind bytes) → IsNumber n
number_by (k.Int m) n bytes spelled symbol = let same : n ≡ m = cc in subst IsNumber (sym same) (fitting m (fits_spelled m bytes spelled))
number_by k.Ident n bytes spelled symbol = absurd (no_number (keyword_of bytes) n symbol)
number_by kind n bytes spelled symbol = cc

-- a token that the grammar sees as a number
pub number_written : (n : ℤ) (x : Text) (line : ℕ) → Fit (s.Int n, x, line) → IsNumber n
number_written n x line fit = number_by fit.kind n fit.bytes fit.spelled fit.symbol
