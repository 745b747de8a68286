-- Digits that are read as a number.
use Rattle.std.proofs.Common.{◌≡◌, ℕ, ◌<◌, ◌≤◌, ◌^◌, ◌&&◌, Bool, true, false, refl, sym, ap, length, None, Result, Ok, Err, arith, rules, ⊎_elim}
use Rattle.std.specs.Prelude.{nat_le, nat_lt}
use Rattle.std.specs.Char.{is_ascii_digit}
use Rattle.std.specs.List.{list_all}
use Rattle.std.specs.Str.Parse.{ParsesUnsigned, digits_value}
use Rattle.std.proofs.lemmas.Bool.{ltb-true, leb-true, cases_lt}
use Rattle.std.proofs.lemmas.Str.Parse.{IsDigitsTest, IsNumeralModel, numerals_by_value, parse_digits}
use Rattle.command_line.specs.Command.{Text, is_number, in_range, number_in}

tells : IsDigitsTest (λ ds. list_all is_ascii_digit ds ≡ true)
tells = search rules

digits : IsNumeralModel (λ ds. list_all is_ascii_digit ds ≡ true) (digits_value 10)
digits = numerals_by_value _ tells

both : (a b : Bool) → (a && b) ≡ true → (a ≡ true) × (b ≡ true)
both true b e = (refl, e)
both false b e = absurd (cc)

parts : (word : Text) → is_number word ≡ true → (0 < length word) × (list_all is_ascii_digit word ≡ true)
parts word number =
    let outer = both (nat_lt 0 (length word) && nat_le (length word) 10) (list_all is_ascii_digit word) number in
    let inner = both (nat_lt 0 (length word)) (nat_le (length word) 10) outer.0 in
    (ltb-true 0 (length word) inner.0, outer.1)

-- what was read is the number
pub read_is : {E : Type 0} (least most : ℕ) (word : Text) (n : ℕ) (r : Result ℕ E) → ParsesUnsigned 32 10 word r → is_number word ≡ true → r ≡ Ok n → in_range least most n ≡ number_in least most word
read_is {E} least most word n r parsed number is =
    let given : ((0 < length word) × (digits_value 10 word < 2 ^ 32)) × (n ≡ digits_value 10 word) = rw is at (parse_digits digits 32 word r parsed (parts word number).1) in
    rw number (ap (in_range least most) given.1)

past_most : (least most n : ℕ) → most < n → in_range least most n ≡ None
past_most least most n lt = go (nat_le least n && nat_le n most) refl
  where
    go : (b : Bool) → (nat_le least n && nat_le n most) ≡ b → in_range least most n ≡ None
    go true is = let le : n ≤ most = leb-true n most (both (nat_le least n) (nat_le n most) is).1 in absurd (omega arith)
    go false is = rw is refl

-- what was not read is too large
pub none_read : {E : Type 0} (least most : ℕ) (word : Text) (e : E) (r : Result ℕ E) → ParsesUnsigned 32 10 word r → is_number word ≡ true → r ≡ Err e → most < 2 ^ 32 → None ≡ number_in least most word
none_read {E} least most word e r parsed number is small =
    let refused : ((0 < length word) × (digits_value 10 word < 2 ^ 32)) → ⊥ = rw is at (parse_digits digits 32 word r parsed (parts word number).1) in
    let whole = (parts word number).0 in
    let large : 2 ^ 32 ≤ digits_value 10 word = ⊎_elim (λ lt. absurd (refused (whole, lt))) (λ ge. ge) (cases_lt (digits_value 10 word) (2 ^ 32)) in
    rw number (sym (past_most least most (digits_value 10 word) (omega arith)))
