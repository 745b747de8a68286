-- Numbers in decimal digits.
use Rattle.std.proofs.Common.{◌≡◌, ℕ, zero, suc, ◌+◌, ◌<◌, ◌≤◌, ◌^◌, List, [], ◌∷◌, length, take, drop, true, false, Bool, nat_le, Some, None, Result, if◌then◌else◌, refl, sym, ◌∙◌, ap, arith, rules}
use Rattle.std.specs.List.{list_all, position, position_or_len, before_first, after_first}
use Rattle.std.specs.Char.{is_ascii_digit}
use Rattle.std.specs.Str.{IsUtf8, IsAscii}
use Rattle.std.specs.Str.Parse.{ParsesUnsigned}
use Rattle.std.specs.Result.{OkIff}
use Rattle.std.proofs.lemmas.Str.Parse.{IsNumeralModel, numerals_by_fold, parse_digits}
use Rattle.std.proofs.lemmas.Str.{IsUtf8-from_ascii}
use Rattle.std.specs.Fmt.{decimal}
use Rattle.std.proofs.lemmas.Fmt.{digits_decimal, digits_value-decimal, length-decimal-le, decimal_nonempty}
use Rattle.std.proofs.lemmas.List.{take_all, drop_all}
use Rattle.std.proofs.lemmas.Bool.{and_parts, lt-ltb, le-leb, leb-true, ltb-true}
use Rattle.y4m_stream.specs.Head.{digits_after, is_number, number, is_colon}
use Rattle.y4m_stream.proofs.PlaceLemmas.{none_at, some_at}

own : IsNumeralModel (λ ds. list_all is_ascii_digit ds ≡ true) (digits_after 0)
own = numerals_by_fold _ (search rules) digits_after (search rules)

digit_ascii : (digit : ℕ) → is_ascii_digit digit ≡ true → digit < 128
digit_ascii digit is = search rules

digits_ascii : (digits : List ℕ) → list_all is_ascii_digit digits ≡ true → IsAscii digits
digits_ascii [] all i = omega arith
digits_ascii (digit ∷ digits) all zero = digit_ascii digit (and_parts (is_ascii_digit digit) (list_all is_ascii_digit digits) all).0
digits_ascii (digit ∷ digits) all (suc i) = digits_ascii digits (and_parts (is_ascii_digit digit) (list_all is_ascii_digit digits) all).1 i

pub digits_utf8 : (digits : List ℕ) → list_all is_ascii_digit digits ≡ true → IsUtf8 digits
digits_utf8 digits all = IsUtf8-from_ascii digits (digits_ascii digits all)

-- what `parse` gives for digits
pub parsed : {E : Type 0} (digits : List ℕ) (result : Result ℕ E) → list_all is_ascii_digit digits ≡ true → ParsesUnsigned 32 10 digits result → OkIff result ((0 < length digits) × (digits_after 0 digits < 2 ^ 32)) (digits_after 0 digits)
parsed digits result all is = parse_digits own 32 digits result is all

-- these digits write a number
pub some_number : (digits : List ℕ) → list_all is_ascii_digit digits ≡ true → 0 < length digits → length digits ≤ 10 → digits_after 0 digits < 2 ^ 31 → number digits ≡ Some (digits_after 0 digits)
some_number digits all some few small = rw (all, le-leb 1 (length digits) some, le-leb (length digits) 10 few, lt-ltb (digits_after 0 digits) (2 ^ 31) small) refl

unless : (test : Bool) (n : ℕ) → (test ≡ true → ⊥) → (if test then Some n else None) ≡ None
unless true n never = absurd (never refl)
unless false n never = refl

-- a text that is no number
pub no_number : (text : List ℕ) → (list_all is_ascii_digit text ≡ true → 0 < length text → digits_after 0 text < 2 ^ 31 → ⊥) → number text ≡ None
no_number text never = unless (is_number text) (digits_after 0 text) λ is.
    let first = and_parts (list_all is_ascii_digit text) _ is in
    let second = and_parts (nat_le 1 (length text)) _ first.1 in
    let third = and_parts (nat_le (length text) 10) _ second.1 in
    never first.0 (leb-true 1 (length text) second.0) (ltb-true (digits_after 0 text) (2 ^ 31) third.1)

-- where the first colon is, and the bytes before and after it
pub around : (text : List ℕ) (colon : ℕ) → position is_colon text ≡ Some colon → (take colon text ≡ before_first is_colon text) × (drop (colon + 1) text ≡ after_first is_colon text)
around text colon is = let at = some_at is_colon text colon is in (ap (λ n. take n text) at.0, ap (λ n. drop (n + 1) text) at.0)

-- a text without a colon is all before it
pub no_colon : (text : List ℕ) → position is_colon text ≡ None → (text ≡ before_first is_colon text) × ([] ≡ after_first is_colon text)
no_colon text none =
    let past = none_at is_colon text none in
    (sym (take_all (position_or_len is_colon text) text past), sym (drop_all (position_or_len is_colon text + 1) text (omega arith)))

-- what is written of a number is read as that number
pub decimal_digits : (n : ℕ) → n < 2 ^ 31 → list_all is_ascii_digit (decimal n) ≡ true
decimal_digits n small = digits_decimal own n (omega arith)

pub number-decimal : (n : ℕ) → n < 2 ^ 31 → number (decimal n) ≡ Some n
number-decimal n small =
    let value : digits_after 0 (decimal n) ≡ n = digits_value-decimal own n (omega arith) in
    let few = length-decimal-le 10 n (omega arith) (omega arith) (omega arith) in
    some_number (decimal n) (decimal_digits n small) (decimal_nonempty n (omega arith)) few (omega (arith, value)) ∙ ap (λ (m : ℕ). Some m) value
