-- A line is read as what its text is of, and no other text is read.
use Rattle.std.proofs.Common.{◌≡◌, ◌⊎◌, ℕ, zero, suc, ◌+◌, ◌<◌, ◌≤◌, ◌^◌, Bool, true, false, not, ◌&&◌, cond, List, [], ◌∷◌, ◌++◌, length, take, drop, get_or, Option, Some, None, IfNone, Result, refl, sym, ap, ◌∙◌, subst, inl, inr, ⊎_elim, arith, rules}
use Rattle.std.specs.Prelude.{◌==◌, nat_le, nat_lt, codes, if◌then◌else◌}
use Rattle.std.specs.Fmt.{decimal}
use Rattle.std.specs.Option.{option_and_then}
use Rattle.std.specs.List.{prefix_len, position, position_or_len, list_all}
use Rattle.std.proofs.lemmas.Option.{cond_some}
use Rattle.std.specs.Char.{is_ascii_digit}
use Rattle.std.specs.Str.{bytes_eq, IsUtf8, IsAscii}
use Rattle.std.specs.Result.{OkIff}
use Rattle.std.proofs.lemmas.Str.{IsUtf8-from_ascii}
use Rattle.std.specs.Str.Parse.{digits_value, ParsesUnsigned}
use Rattle.std.proofs.lemmas.List.{append-nil, take_at, drop_at, take-append-drop}
use Rattle.std.proofs.lemmas.Bool.{and_parts, le-leb, leb-true, lt-ltb, ne_eqb, eqb-true, or_cases, not-true, eqb-false, cond_both, cases_lt}
use Rattle.std.proofs.lemmas.Str.Parse.{IsNumeralModel, numerals_by_value, parse_digits}
use Rattle.std.proofs.lemmas.Fmt.{digits_decimal, digits_value-decimal, decimal_nonempty, first_decimal, decimal_digit, decimal-digits_value}
use Rattle.std.proofs.lemmas.Slice.Eq.{bytes_eq-Decides}
use Rattle.fv_plane.specs.declared.key.Key.{Key}
use Rattle.serve_machine.specs.declared.event.Event.{Event}
use Rattle.serve_machine.specs.declared.event.Event.TheVariants.{Hit, Claim, Enter, Leave, Evict, Publish, Abandon, Take, Deliver, Fail}
use Rattle.serve_machine.specs.declared.event.WindowStop.{WindowStop}
use Rattle.serve_machine.specs.declared.event.WindowStop.TheVariants.{Read, Changed, Memory}
use Rattle.run_text.specs.declared.line.Line.{Line}
use Rattle.run_text.specs.declared.line.Line.TheVariants.{Workers, Window, Did}
use Rattle.run_text.specs.Lines.{numbers, of_key, event_text, line_text, AreSmall, EventFits, LineFits}
use Rattle.run_text.specs.Reading.{digits_end, is_numeral, number_in, number_at, number_next, small, large, ended, one_number, two_numbers, three_numbers, change_of, word_end, word, after_word, key_of, stop_named, stop_next, failure_of, line_named, line_of}

-- FRONTS

-- a text is empty, or its first byte fails
abbrev Stops : (ℕ → Bool) → List ℕ → Type 0
Stops p [] = Unit {0}
Stops p (x ∷ xs) = p x ≡ false

prefix_len-append : (p : ℕ → Bool) (xs ys : List ℕ) → list_all p xs ≡ true → Stops p ys → prefix_len p (xs ++ ys) ≡ length xs
prefix_len-append p [] [] all stop = refl
prefix_len-append p [] (y ∷ ys) all stop = rw stop refl
prefix_len-append p (x ∷ xs) ys all stop =
    let parts = and_parts (p x) (list_all p xs) all in
    let ih = prefix_len-append p xs ys parts.1 stop in
    rw parts.0 (omega arith)

pub front_passes : (p : ℕ → Bool) (xs : List ℕ) → list_all p (take (prefix_len p xs) xs) ≡ true
front_passes p [] = refl
front_passes p (x ∷ xs) = ⊎_elim
    (λ (h : p x ≡ true). let n : 1 + prefix_len p xs ≡ suc (prefix_len p xs) = omega arith in rw h (rw n (rw h (front_passes p xs))))
    (λ (h : p x ≡ false). rw h refl) (test (p x))
  where
    test : (b : Bool) → (b ≡ true) ⊎ (b ≡ false)
    test true = inl refl
    test false = inr refl

-- where a front ends, by a first place
pub end_at : (p : ℕ → Bool) (xs : List ℕ) (end : ℕ) → position p xs ≡ Some end → end ≡ position_or_len p xs
end_at p xs end is = let found = cond_some (nat_lt (position_or_len p xs) (length xs)) (position_or_len p xs) end is in sym found.1

inside : (p : ℕ → Bool) (xs : List ℕ) → prefix_len p xs ≤ length xs
inside p [] = omega arith
inside p (x ∷ xs) = let ih = inside p xs in cond_both (p x) (1 + prefix_len p xs) 0 (λ n. n ≤ suc (length xs)) (λ h. omega arith) (λ h. omega arith)

pub end_past : (p : ℕ → Bool) (xs : List ℕ) → position p xs ≡ None → length xs ≡ position_or_len p xs
end_past p xs is =
    let most = inside (λ x. not (p x)) xs in
    ⊎_elim (λ (less : position_or_len p xs < length xs). let bad : Some (position_or_len p xs) ≡ None = rw (lt-ltb (position_or_len p xs) (length xs) less) at is in absurd (cc))
    (λ (past : length xs ≤ position_or_len p xs). omega arith) (cases_lt (position_or_len p xs) (length xs))

pub end_inside : (p : ℕ → Bool) (xs : List ℕ) → position_or_len p xs ≤ length xs
end_inside p xs = inside (λ x. not (p x)) xs

pub digits_by : (text : List ℕ) → position_or_len (λ byte. not (is_ascii_digit byte)) text ≡ digits_end text
digits_by [] = refl
digits_by (x ∷ xs) = go (is_ascii_digit x) (digits_by xs)
  where
    go : (b : Bool) → prefix_len (λ y. not (not (is_ascii_digit y))) xs ≡ prefix_len is_ascii_digit xs → cond (not (not b)) (1 + prefix_len (λ y. not (not (is_ascii_digit y))) xs) 0 ≡ cond b (1 + prefix_len is_ascii_digit xs) 0
    go true h = ap (λ n. 1 + n) h
    go false h = refl

-- NUMBERS

own : IsNumeralModel (λ ds. list_all is_ascii_digit ds ≡ true) (digits_value 10)
own = numerals_by_value (λ ds. list_all is_ascii_digit ds ≡ true) (search rules)

digit_ascii : (digit : ℕ) → is_ascii_digit digit ≡ true → digit < 128
digit_ascii digit is = search rules

digits_ascii : (digits : List ℕ) → list_all is_ascii_digit digits ≡ true → IsAscii digits
digits_ascii [] all i = omega arith
digits_ascii (digit ∷ digits) all zero = digit_ascii digit (and_parts (is_ascii_digit digit) (list_all is_ascii_digit digits) all).0
digits_ascii (digit ∷ digits) all (suc i) = digits_ascii digits (and_parts (is_ascii_digit digit) (list_all is_ascii_digit digits) all).1 i

pub digits_utf8 : (digits : List ℕ) → list_all is_ascii_digit digits ≡ true → IsUtf8 digits
digits_utf8 digits all = IsUtf8-from_ascii digits (digits_ascii digits all)

-- what `parse` gives for digits
pub parsed : {E : Type 0} (digits : List ℕ) (result : Result ℕ E) → list_all is_ascii_digit digits ≡ true → ParsesUnsigned 64 10 digits result → OkIff result ((0 < length digits) × (digits_value 10 digits < 2 ^ 64)) (digits_value 10 digits)
parsed digits result all is = parse_digits own 64 digits result is all

-- too large a number
pub too_large : (most : ℕ) (digits : List ℕ) → most < 2 ^ 64 → ((0 < length digits) × (digits_value 10 digits < 2 ^ 64) → ⊥) → number_in most digits ≡ None
unfolding number_in
too_large most digits few never = go (is_numeral digits) refl (nat_le (digits_value 10 digits) most) refl
  where
    go : (numeral : Bool) → is_numeral digits ≡ numeral → (fits : Bool) → nat_le (digits_value 10 digits) most ≡ fits → (if numeral && fits then Some (digits_value 10 digits) else None) ≡ None
    go true n true f = let le : digits_value 10 digits ≤ most = leb-true (digits_value 10 digits) most f in absurd (never (some n, omega arith))
      where
        some : is_numeral digits ≡ true → 0 < length digits
        some n = let other = eqb-false (length digits) 0 (not-true _ (and_parts (not (length digits == 0)) _ n).0) in omega (arith, other)
    go true n false f = refl
    go false n fits f = refl

numeral_of : (n : ℕ) → n < 2 ^ 64 → is_numeral (decimal n) ≡ true
numeral_of zero fits = rw (decimal_digit 0 (omega arith)) refl
numeral_of (suc n) fits =
    let some = decimal_nonempty (suc n) fits in
    let first = first_decimal (suc n) (omega arith) fits in
    rw (ne_eqb (length (decimal (suc n))) 0 (λ e. omega arith)) (rw (ne_eqb (get_or (decimal (suc n)) 0 0) 48 (λ e. omega arith)) refl)

number_in_of : (most n : ℕ) → n ≤ most → n < 2 ^ 64 → number_in most (decimal n) ≡ Some n
unfolding number_in
number_in_of most n fits small = rw (numeral_of n small) (rw (digits_value-decimal own n small) (rw (le-leb n most fits) refl))

-- a number is read that is written, where no digit follows
number_again : (most n : ℕ) (rest : List ℕ) → n ≤ most → most < 2 ^ 64 → Stops is_ascii_digit rest → number_at most (decimal n ++ rest) ≡ Some (n, rest)
unfolding number_at
number_again most n rest fits few stop =
    let end : digits_end (decimal n ++ rest) ≡ length (decimal n) = prefix_len-append is_ascii_digit (decimal n) rest (digits_decimal own n (omega arith)) stop in
    let front : take (digits_end (decimal n ++ rest)) (decimal n ++ rest) ≡ decimal n = take_at (decimal n) rest _ (sym end) in
    let back : drop (digits_end (decimal n ++ rest)) (decimal n ++ rest) ≡ rest = drop_at (decimal n) rest _ (sym end) in
    rw (front, back, number_in_of most n fits (omega arith)) refl

next_again : (most n : ℕ) (rest : List ℕ) → n ≤ most → most < 2 ^ 64 → Stops is_ascii_digit rest → number_next most (codes " " ++ (decimal n ++ rest)) ≡ Some (n, rest)
unfolding number_next
next_again most n rest fits few stop = number_again most n rest fits few stop

bound : {A B : Type 0} (o : Option A) (f : A → Option B) (y : B) → option_and_then f o ≡ Some y → (x : A) × (o ≡ Some x) × (f x ≡ Some y)
bound None f y h = absurd (cc)
bound (Some x) f y h = (x, refl, h)

given : {A : Type 0} (b : Bool) (x y : A) → (if b then Some x else None) ≡ Some y → (b ≡ true) × (x ≡ y)
given true x y h = (refl, cc)
given false x y h = absurd (cc)

first_only : (digits : List ℕ) → is_numeral digits ≡ true → (0 < length digits) × (get_or digits 0 0 ≡ 48 → length digits ≡ 1)
first_only digits h =
    let parts = and_parts (not (length digits == 0)) _ h in
    let some = eqb-false (length digits) 0 (not-true _ parts.0) in (
      omega (arith, some),
      λ zero. ⊎_elim
          (λ (other : not (get_or digits 0 0 == 48) ≡ true). absurd (eqb-false (get_or digits 0 0) 48 (not-true _ other) zero))
          (λ (one : (length digits == 1) ≡ true). eqb-true (length digits) 1 one) (or_cases _ _ parts.1),
    )

-- a number that is read is written there
number_written : (most : ℕ) (text : List ℕ) (p : ℕ × List ℕ) → most < 2 ^ 64 → number_at most text ≡ Some p → (text ≡ decimal p.0 ++ p.1) × (p.0 ≤ most)
unfolding number_at number_in
number_written most text p few h =
    let digits = take (digits_end text) text in
    let inner = bound (number_in most digits) (λ n. Some (n, drop (digits_end text) text)) p h in
    let read = given (is_numeral digits && nat_le (digits_value 10 digits) most) (digits_value 10 digits) inner.0 inner.1 in
    let tests = and_parts (is_numeral digits) (nat_le (digits_value 10 digits) most) read.0 in
    let fits : digits_value 10 digits ≤ most = leb-true (digits_value 10 digits) most tests.1 in
    let only = first_only digits tests.0 in
    let same : decimal (digits_value 10 digits) ≡ digits = decimal-digits_value own digits (front_passes is_ascii_digit text) only.0 only.1 (omega arith) in
    let p0 : inner.0 ≡ p.0 = ap (λ (o : Option (ℕ × List ℕ)). number_of o) inner.2 in
    let p1 : drop (digits_end text) text ≡ p.1 = ap (λ (o : Option (ℕ × List ℕ)). rest_of o) inner.2 in
    let value : digits_value 10 digits ≡ p.0 = read.1 ∙ p0 in
    (sym (take-append-drop (digits_end text) text) ∙ ap (λ (l : List ℕ). l ++ drop (digits_end text) text) (sym same) ∙ ap (λ (l : List ℕ). decimal (digits_value 10 digits) ++ l) p1 ∙ ap (λ n. decimal n ++ p.1) value, omega arith)
  where
    number_of : Option (ℕ × List ℕ) → ℕ
    number_of None = 0
    number_of (Some q) = q.0

    rest_of : Option (ℕ × List ℕ) → List ℕ
    rest_of None = []
    rest_of (Some q) = q.1

next_written : (most : ℕ) (text : List ℕ) (p : ℕ × List ℕ) → most < 2 ^ 64 → number_next most text ≡ Some p → (text ≡ codes " " ++ (decimal p.0 ++ p.1)) × (p.0 ≤ most)
unfolding number_next
next_written most [] p few h = absurd (cc)
next_written most (byte ∷ text) p few h = ⊎_elim
    (λ (is : (byte == 32) ≡ true).
    let read = number_written most text p few (rw is at h) in
    (ap (λ b. b ∷ text) (eqb-true byte 32 is) ∙ ap (λ l. 32 ∷ l) read.0, read.1))
    (λ (other : (byte == 32) ≡ false). let none : None ≡ Some p = rw other at h in absurd (cc)) (test (byte == 32))
  where
    test : (b : Bool) → (b ≡ true) ⊎ (b ≡ false)
    test true = inl refl
    test false = inr refl

empty_text : (text : List ℕ) → (length text == 0) ≡ true → text ≡ []
empty_text [] h = refl
empty_text (byte ∷ text) h = let no : suc (length text) ≡ 0 = eqb-true (suc (length text)) 0 h in absurd (omega arith)

-- nothing was left
ended_parts : {A : Type 0} (x y : A) (text : List ℕ) → ended x text ≡ Some y → (text ≡ []) × (x ≡ y)
ended_parts x y text h = let parts = given (length text == 0) x y h in (empty_text text parts.0, parts.1)

-- one number more was written
more : (text rest tail : List ℕ) (n : ℕ) → text ≡ codes " " ++ (decimal n ++ rest) → rest ≡ tail → text ≡ codes " " ++ (decimal n ++ tail)
more text rest tail n is same = is ∙ ap (λ (l : List ℕ). codes " " ++ (decimal n ++ l)) same

pub one_again : (a : ℕ) → AreSmall (a ∷ []) → one_number (numbers (a ∷ [])) ≡ Some a
unfolding one_number
one_again a fits = let f0 = fits.0 in rw (next_again small a [] (omega arith) (omega arith) tt) refl

pub two_again : (a b : ℕ) → AreSmall (a ∷ b ∷ []) → two_numbers (numbers (a ∷ b ∷ [])) ≡ Some (a, b)
unfolding two_numbers
two_again a b fits =
    let f0 = fits.0 in let f1 = fits.1.0 in
    rw (next_again small a (numbers (b ∷ [])) (omega arith) (omega arith) refl) (rw (next_again small b [] (omega arith) (omega arith) tt) refl)

pub three_again : (a b c : ℕ) → AreSmall (a ∷ b ∷ c ∷ []) → three_numbers (numbers (a ∷ b ∷ c ∷ [])) ≡ Some (a, b, c)
unfolding three_numbers
three_again a b c fits =
    let f0 = fits.0 in let f1 = fits.1.0 in let f2 = fits.1.1.0 in
    rw (next_again small a (numbers (b ∷ c ∷ [])) (omega arith) (omega arith) refl)
    (rw (next_again small b (numbers (c ∷ [])) (omega arith) (omega arith) refl) (rw (next_again small c [] (omega arith) (omega arith) tt) refl))

pub one_written : (text : List ℕ) (n : ℕ) → one_number text ≡ Some n → (text ≡ numbers (n ∷ [])) × AreSmall (n ∷ [])
unfolding one_number
one_written text n h =
    let a = bound (number_next small text) _ n h in
    let is = next_written small text a.0 (omega arith) a.1 in
    let end = ended_parts a.0.0 n a.0.1 a.2 in
    let same : text ≡ numbers (a.0.0 ∷ []) = more text a.0.1 [] a.0.0 is.0 end.0 in
    let fits = is.1 in
    (same ∙ ap (λ m. numbers (m ∷ [])) end.1, (subst (λ m. m < 2 ^ 32) end.1 (omega arith), tt))

pub two_written : (text : List ℕ) (p : ℕ × ℕ) → two_numbers text ≡ Some p → (text ≡ numbers (p.0 ∷ p.1 ∷ [])) × AreSmall (p.0 ∷ p.1 ∷ [])
unfolding two_numbers
two_written text p h =
    let a = bound (number_next small text) _ p h in
    let b = bound (number_next small a.0.1) _ p a.2 in
    let is_a = next_written small text a.0 (omega arith) a.1 in
    let is_b = next_written small a.0.1 b.0 (omega arith) b.1 in
    let end = ended_parts (a.0.0, b.0.0) p b.0.1 b.2 in
    let last : a.0.1 ≡ numbers (b.0.0 ∷ []) = more a.0.1 b.0.1 [] b.0.0 is_b.0 end.0 in
    let all : text ≡ numbers (a.0.0 ∷ b.0.0 ∷ []) = more text a.0.1 _ a.0.0 is_a.0 last in
    let fa = is_a.1 in let fb = is_b.1 in
    subst (λ (q : ℕ × ℕ). (text ≡ numbers (q.0 ∷ q.1 ∷ [])) × AreSmall (q.0 ∷ q.1 ∷ [])) end.1 (all, (omega arith, (omega arith, tt)))

pub three_written : (text : List ℕ) (p : ℕ × ℕ × ℕ) → three_numbers text ≡ Some p → (text ≡ numbers (p.0 ∷ p.1 ∷ p.2 ∷ [])) × AreSmall (p.0 ∷ p.1 ∷ p.2 ∷ [])
unfolding three_numbers
three_written text p h =
    let a = bound (number_next small text) _ p h in
    let b = bound (number_next small a.0.1) _ p a.2 in
    let c = bound (number_next small b.0.1) _ p b.2 in
    let is_a = next_written small text a.0 (omega arith) a.1 in
    let is_b = next_written small a.0.1 b.0 (omega arith) b.1 in
    let is_c = next_written small b.0.1 c.0 (omega arith) c.1 in
    let end = ended_parts (a.0.0, b.0.0, c.0.0) p c.0.1 c.2 in
    let last : b.0.1 ≡ numbers (c.0.0 ∷ []) = more b.0.1 c.0.1 [] c.0.0 is_c.0 end.0 in
    let two : a.0.1 ≡ numbers (b.0.0 ∷ c.0.0 ∷ []) = more a.0.1 b.0.1 _ b.0.0 is_b.0 last in
    let all : text ≡ numbers (a.0.0 ∷ b.0.0 ∷ c.0.0 ∷ []) = more text a.0.1 _ a.0.0 is_a.0 two in
    let fa = is_a.1 in let fb = is_b.1 in let fc = is_c.1 in
    subst (λ (q : ℕ × ℕ × ℕ). (text ≡ numbers (q.0 ∷ q.1 ∷ q.2 ∷ [])) × AreSmall (q.0 ∷ q.1 ∷ q.2 ∷ [])) end.1 (all, (omega arith, (omega arith, (omega arith, tt))))

-- STOPS

-- the text of a stop, and what fits in it
abbrev stop_text : WindowStop → List ℕ
stop_text Memory = codes " memory"
stop_text (Read i) = codes " read" ++ numbers (i ∷ [])
stop_text (Changed i n want got) = codes " changed" ++ numbers (i ∷ n ∷ want ∷ got ∷ [])

abbrev StopFits : WindowStop → Type 0
StopFits Memory = Unit {0}
StopFits (Read i) = AreSmall (i ∷ [])
StopFits (Changed i n want got) = AreSmall (i ∷ n ∷ []) × (want < 2 ^ 64) × (got < 2 ^ 64)

change_again : (i n want got : ℕ) → StopFits (Changed i n want got) → change_of (numbers (i ∷ n ∷ want ∷ got ∷ [])) ≡ Some (Changed i n want got)
unfolding change_of
change_again i n want got fits =
    let f0 = fits.0.0 in let f1 = fits.0.1.0 in let f2 = fits.1 in let f3 = fits.2 in
    rw (next_again small i (numbers (n ∷ want ∷ got ∷ [])) (omega arith) (omega arith) refl)
    (rw (next_again small n (numbers (want ∷ got ∷ [])) (omega arith) (omega arith) refl)
    (rw (next_again large want (numbers (got ∷ [])) (omega arith) (omega arith) refl) (rw (next_again large got [] (omega arith) (omega arith) tt) refl)))

stop_again : (why : WindowStop) → StopFits why → stop_next (stop_text why) ≡ Some why
unfolding stop_next stop_named
stop_again Memory fits = refl
stop_again (Read i) fits = rw (one_again i fits) refl
stop_again (Changed i n want got) fits = change_again i n want got fits

change_written : (text : List ℕ) (why : WindowStop) → change_of text ≡ Some why → (codes " changed" ++ text ≡ stop_text why) × StopFits why
unfolding change_of
change_written text why h =
    let a = bound (number_next small text) _ why h in
    let b = bound (number_next small a.0.1) _ why a.2 in
    let c = bound (number_next large b.0.1) _ why b.2 in
    let d = bound (number_next large c.0.1) _ why c.2 in
    let is_a = next_written small text a.0 (omega arith) a.1 in
    let is_b = next_written small a.0.1 b.0 (omega arith) b.1 in
    let is_c = next_written large b.0.1 c.0 (omega arith) c.1 in
    let is_d = next_written large c.0.1 d.0 (omega arith) d.1 in
    let end = ended_parts (Changed a.0.0 b.0.0 c.0.0 d.0.0) why d.0.1 d.2 in
    let last : c.0.1 ≡ numbers (d.0.0 ∷ []) = more c.0.1 d.0.1 [] d.0.0 is_d.0 end.0 in
    let two : b.0.1 ≡ numbers (c.0.0 ∷ d.0.0 ∷ []) = more b.0.1 c.0.1 _ c.0.0 is_c.0 last in
    let three : a.0.1 ≡ numbers (b.0.0 ∷ c.0.0 ∷ d.0.0 ∷ []) = more a.0.1 b.0.1 _ b.0.0 is_b.0 two in
    let all : text ≡ numbers (a.0.0 ∷ b.0.0 ∷ c.0.0 ∷ d.0.0 ∷ []) = more text a.0.1 _ a.0.0 is_a.0 three in
    let fa = is_a.1 in let fb = is_b.1 in let fc = is_c.1 in let fd = is_d.1 in
    subst (λ (w : WindowStop). (codes " changed" ++ text ≡ stop_text w) × StopFits w) end.1 (ap (λ (l : List ℕ). codes " changed" ++ l) all, ((omega arith, (omega arith, tt)), omega arith, omega arith))

-- one word or others
either_word : {X G : Type 0} (name other : List ℕ) (x y : Option X) (z : X) → (name ≡ other → x ≡ Some z → G) → (y ≡ Some z → G) → (if bytes_eq name other then x else y) ≡ Some z → G
either_word name other x y z then_ else_ h = ⊎_elim
    (λ (is : bytes_eq name other ≡ true). then_ ((bytes_eq-Decides name other).0 is) (rw is at h))
    (λ (no : bytes_eq name other ≡ false). else_ (rw no at h)) (test (bytes_eq name other))
  where
    test : (b : Bool) → (b ≡ true) ⊎ (b ≡ false)
    test true = inl refl
    test false = inr refl

same_some : {A : Type 0} (x y : A) → Some x ≡ Some y → x ≡ y
same_some x y h = cc

stop_written : (name text : List ℕ) (why : WindowStop) → stop_named name text ≡ Some why → (codes " " ++ (name ++ text) ≡ stop_text why) × StopFits why
unfolding stop_named
stop_written name text why h =
    either_word name (codes "memory") _ _ why
    (λ is got. let end = ended_parts Memory why text got in
    subst (λ (w : WindowStop). (codes " " ++ (name ++ text) ≡ stop_text w) × StopFits w) end.1 (ap (λ (m : List ℕ). codes " " ++ (m ++ text)) is ∙ ap (λ (t : List ℕ). codes " memory" ++ t) end.0, tt))
    (λ got. either_word name (codes "read") _ _ why
    (λ is got. let n = bound (one_number text) _ why got in let all = one_written text n.0 n.1 in
    subst (λ (w : WindowStop). (codes " " ++ (name ++ text) ≡ stop_text w) × StopFits w) (same_some (Read n.0) why n.2) (ap (λ (m : List ℕ). codes " " ++ (m ++ text)) is ∙ ap (λ (t : List ℕ). codes " read" ++ t) all.0, all.1))
    (λ got. either_word name (codes "changed") _ _ why
    (λ is got. let all = change_written text why got in (ap (λ (m : List ℕ). codes " " ++ (m ++ text)) is ∙ all.0, all.1))
    (λ got. absurd (let no : ⊥ = cc in no)) got) got) h

next_stop_written : (text : List ℕ) (why : WindowStop) → stop_next text ≡ Some why → (text ≡ stop_text why) × StopFits why
unfolding stop_next
next_stop_written [] why h = absurd (cc)
next_stop_written (byte ∷ text) why h = ⊎_elim
    (λ (is : (byte == 32) ≡ true).
    let read = stop_written (word text) (after_word text) why (rw is at h) in
    (ap (λ b. b ∷ text) (eqb-true byte 32 is) ∙ ap (λ l. 32 ∷ l) (sym (take-append-drop (word_end text) text)) ∙ read.0, read.1))
    (λ (other : (byte == 32) ≡ false). let none : None ≡ Some why = rw other at h in absurd (cc)) (test (byte == 32))
  where
    test : (b : Bool) → (b ≡ true) ⊎ (b ≡ false)
    test true = inl refl
    test false = inr refl

fail_text : (w : ℕ) (why : WindowStop) → event_text (Fail w why) ≡ codes "fail" ++ (numbers (w ∷ []) ++ stop_text why)
fail_text w Memory = refl
fail_text w (Read i) = refl
fail_text w (Changed i n want got) = refl

fail_fits : (w : ℕ) (why : WindowStop) → EventFits (Fail w why) → AreSmall (w ∷ []) × StopFits why
fail_fits w Memory fits = (fits, tt)
fail_fits w (Read i) fits = ((fits.0, tt), fits.1)
fail_fits w (Changed i n want got) fits = ((fits.0.0, tt), (fits.0.1, fits.1, fits.2))

fits_fail : (w : ℕ) (why : WindowStop) → AreSmall (w ∷ []) → StopFits why → EventFits (Fail w why)
fits_fail w Memory one why = one
fits_fail w (Read i) one why = (one.0, why)
fits_fail w (Changed i n want got) one why = ((one.0, why.0), why.1, why.2)

stop_stops : (why : WindowStop) → Stops is_ascii_digit (stop_text why)
stop_stops Memory = refl
stop_stops (Read i) = refl
stop_stops (Changed i n want got) = refl

spaced : (w : ℕ) (rest : List ℕ) → numbers (w ∷ []) ++ rest ≡ codes " " ++ (decimal w ++ rest)
spaced w rest = ap (λ (l : List ℕ). codes " " ++ (l ++ rest)) (append-nil (decimal w))

failure_again : (w : ℕ) (why : WindowStop) → EventFits (Fail w why) → failure_of (numbers (w ∷ []) ++ stop_text why) ≡ Some (Fail w why)
unfolding failure_of
failure_again w why fits =
    let both = fail_fits w why fits in
    let f0 = both.0.0 in
    rw (spaced w (stop_text why)) (rw (next_again small w (stop_text why) (omega arith) (omega arith) (stop_stops why)) (rw (stop_again why both.1) refl))

failure_written : (text : List ℕ) (event : Event) → failure_of text ≡ Some event → (codes "fail" ++ text ≡ event_text event) × EventFits event
unfolding failure_of
failure_written text event h =
    let w = bound (number_next small text) _ event h in
    let why = bound (stop_next w.0.1) _ event w.2 in
    let is_w = next_written small text w.0 (omega arith) w.1 in
    let is_why = next_stop_written w.0.1 why.0 why.1 in
    let same : text ≡ numbers (w.0.0 ∷ []) ++ stop_text why.0 = is_w.0 ∙ ap (λ (l : List ℕ). codes " " ++ (decimal w.0.0 ++ l)) is_why.0 ∙ sym (spaced w.0.0 (stop_text why.0)) in
    let f = is_w.1 in
    subst (λ (e : Event). (codes "fail" ++ text ≡ event_text e) × EventFits e) (same_some (Fail w.0.0 why.0) event why.2)
    (ap (λ (l : List ℕ). codes "fail" ++ l) same ∙ sym (fail_text w.0.0 why.0), fits_fail w.0.0 why.0 (omega arith, tt) is_why.1)

-- LINES

key_again : (w : ℕ) (k : Key) → AreSmall (w ∷ k.node ∷ k.n ∷ []) → key_of (of_key w k) ≡ Some (w, k)
unfolding key_of
key_again w k fits = rw (three_again w k.node k.n fits) refl

key_written : (text : List ℕ) (p : ℕ × Key) → key_of text ≡ Some p → (text ≡ of_key p.0 p.1) × AreSmall (p.0 ∷ p.1.node ∷ p.1.n ∷ [])
unfolding key_of
key_written text p h =
    let q = bound (three_numbers text) _ p h in
    let is = three_written text q.0 q.1 in
    subst (λ (r : ℕ × Key). (text ≡ of_key r.0 r.1) × AreSmall (r.0 ∷ r.1.node ∷ r.1.n ∷ [])) (same_some _ p q.2) is

event_again : (event : Event) → EventFits event → line_of (event_text event) ≡ Some (Did event)
unfolding line_of line_named
event_again (Hit w k) fits = rw (key_again w k fits) refl
event_again (Claim w k) fits = rw (key_again w k fits) refl
event_again (Enter w i j) fits = rw (three_again w i j fits) refl
event_again (Leave w i j) fits = rw (three_again w i j fits) refl
event_again (Evict w k) fits = rw (key_again w k fits) refl
event_again (Publish w k) fits = rw (key_again w k fits) refl
event_again (Abandon w k) fits = rw (key_again w k fits) refl
event_again (Take w n) fits = rw (two_again w n fits) refl
event_again (Deliver w n) fits = rw (two_again w n fits) refl
event_again (Fail w why) fits = rw (fail_text w why) (rw (failure_again w why fits) refl)

-- each line is read again
pub line_again : (line : Line) → LineFits line → line_of (line_text line) ≡ Some line
unfolding line_of line_named
line_again (Workers n) fits = rw (one_again n fits) refl
line_again (Window first count) fits = rw (two_again first count fits) refl
line_again (Did event) fits = event_again event fits

-- what is read is a line's text
abbrev IsTextOf : List ℕ → List ℕ → Line → Type 0
IsTextOf name text line = (name ++ text ≡ line_text line) × LineFits line

by_key : (make : ℕ → Key → Event) (other name text : List ℕ) (line : Line) → ((w : ℕ) (k : Key) → event_text (make w k) ≡ other ++ of_key w k) → ((w : ℕ) (k : Key) → AreSmall (w ∷ k.node ∷ k.n ∷ []) → EventFits (make w k))
    → name ≡ other → option_and_then (λ (p : ℕ × Key). Some (Did (make p.0 p.1))) (key_of text) ≡ Some line → IsTextOf name text line
by_key make other name text line spelt fit is got =
    let p = bound (key_of text) _ line got in
    let all = key_written text p.0 p.1 in
    subst (IsTextOf name text) (same_some (Did (make p.0.0 p.0.1)) line p.2) (ap (λ (n : List ℕ). n ++ text) is ∙ ap (λ (t : List ℕ). other ++ t) all.0 ∙ sym (spelt p.0.0 p.0.1), fit p.0.0 p.0.1 all.1)

by_three : (make : ℕ → ℕ → ℕ → Event) (other name text : List ℕ) (line : Line) → ((a b c : ℕ) → event_text (make a b c) ≡ other ++ numbers (a ∷ b ∷ c ∷ [])) → ((a b c : ℕ) → AreSmall (a ∷ b ∷ c ∷ []) → EventFits (make a b c))
    → name ≡ other → option_and_then (λ (p : ℕ × ℕ × ℕ). Some (Did (make p.0 p.1 p.2))) (three_numbers text) ≡ Some line → IsTextOf name text line
by_three make other name text line spelt fit is got =
    let p = bound (three_numbers text) _ line got in
    let all = three_written text p.0 p.1 in
    subst (IsTextOf name text) (same_some (Did (make p.0.0 p.0.1 p.0.2)) line p.2) (ap (λ (n : List ℕ). n ++ text) is ∙ ap (λ (t : List ℕ). other ++ t) all.0 ∙ sym (spelt p.0.0 p.0.1 p.0.2), fit p.0.0 p.0.1 p.0.2 all.1)

by_two : (make : ℕ → ℕ → Line) (other name text : List ℕ) (line : Line) → ((a b : ℕ) → line_text (make a b) ≡ other ++ numbers (a ∷ b ∷ [])) → ((a b : ℕ) → AreSmall (a ∷ b ∷ []) → LineFits (make a b))
    → name ≡ other → option_and_then (λ (p : ℕ × ℕ). Some (make p.0 p.1)) (two_numbers text) ≡ Some line → IsTextOf name text line
by_two make other name text line spelt fit is got =
    let p = bound (two_numbers text) _ line got in
    let all = two_written text p.0 p.1 in
    subst (IsTextOf name text) (same_some (make p.0.0 p.0.1) line p.2) (ap (λ (n : List ℕ). n ++ text) is ∙ ap (λ (t : List ℕ). other ++ t) all.0 ∙ sym (spelt p.0.0 p.0.1), fit p.0.0 p.0.1 all.1)

named_written : (name text : List ℕ) (line : Line) → line_named name text ≡ Some line → IsTextOf name text line
unfolding line_named
named_written name text line h =
    either_word name (codes "hit") _ _ line (by_key Hit (codes "hit") name text line (λ w k. refl) (λ w k f. f))
    (either_word name (codes "claim") _ _ line (by_key Claim (codes "claim") name text line (λ w k. refl) (λ w k f. f))
    (either_word name (codes "publish") _ _ line (by_key Publish (codes "publish") name text line (λ w k. refl) (λ w k f. f))
    (either_word name (codes "evict") _ _ line (by_key Evict (codes "evict") name text line (λ w k. refl) (λ w k f. f))
    (either_word name (codes "abandon") _ _ line (by_key Abandon (codes "abandon") name text line (λ w k. refl) (λ w k f. f))
    (either_word name (codes "enter") _ _ line (by_three Enter (codes "enter") name text line (λ a b c. refl) (λ a b c f. f))
    (either_word name (codes "leave") _ _ line (by_three Leave (codes "leave") name text line (λ a b c. refl) (λ a b c f. f))
    (either_word name (codes "take") _ _ line (by_two (λ a b. Did (Take a b)) (codes "take") name text line (λ a b. refl) (λ a b f. f))
    (either_word name (codes "deliver") _ _ line (by_two (λ a b. Did (Deliver a b)) (codes "deliver") name text line (λ a b. refl) (λ a b f. f))
    (either_word name (codes "window") _ _ line (by_two Window (codes "window") name text line (λ a b. refl) (λ a b f. f))
    (either_word name (codes "workers") _ _ line
    (λ is got. let n = bound (one_number text) _ line got in let all = one_written text n.0 n.1 in
    subst (IsTextOf name text) (same_some (Workers n.0) line n.2) (ap (λ (m : List ℕ). m ++ text) is ∙ ap (λ (t : List ℕ). codes "workers" ++ t) all.0, all.1))
    (either_word name (codes "fail") _ _ line
    (λ is got. let e = bound (failure_of text) _ line got in let all = failure_written text e.0 e.1 in
    subst (IsTextOf name text) (same_some (Did e.0) line e.2) (ap (λ (m : List ℕ). m ++ text) is ∙ all.0, all.1))
    (λ got. absurd (let no : ⊥ = cc in no))))))))))))) h

pub line_written : (text : List ℕ) (line : Line) → line_of text ≡ Some line → (text ≡ line_text line) × LineFits line
unfolding line_of
line_written text line h =
    let all = named_written (word text) (after_word text) line h in
    (sym (take-append-drop (word_end text) text) ∙ all.0, all.1)

-- what is not read is no line's text
pub line_unread : (text : List ℕ) → line_of text ≡ None → (line : Line) → LineFits line → text ≡ line_text line → ⊥
line_unread text none line fits is = let again : line_of text ≡ Some line = ap line_of is ∙ line_again line fits in let no : ⊥ = cc in no

pub none_read : (text : List ℕ) (o : Option Line) → o ≡ line_of text → IfNone o ((line : Line) → LineFits line → text ≡ line_text line → ⊥)
none_read text None is = line_unread text (sym is)
none_read text (Some line) is = tt
