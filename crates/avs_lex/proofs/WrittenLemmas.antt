-- What is written word by word is read word by word.
use Rattle.std.proofs.Common.{◌≡◌, ◌≢◌, ◌∙◌, inl, inr, ℕ, zero, suc, ◌+◌, ◌<◌, ◌≤◌, ap, sym, refl, arith, [], ◌∷◌, ◌++◌, length, take, drop, get_or, Bool, true, false, ◌&&◌, ◌==◌, nat_le, nat_eq, Some, get_or-take, codes, lit<, ℤ}
use Rattle.std.specs.Int.{cast_signed, w64}
use Rattle.std.proofs.lemmas.List.Sums.{prefix_len_is}
use Rattle.std.proofs.lemmas.List.{get_or-drop, get_or_append_left, take_at, drop-append-le}
use Rattle.avs_lex.proofs.WordLemmas.{starts_with_at, starts_with_more, starts_with_long, starts_with_take, through_more}
use Rattle.std.specs.List.{list_all, starts_with, prefix_len}
use Rattle.std.specs.Char.{is_ascii_digit, is_ascii_hexdigit}
use Rattle.std.proofs.lemmas.Bool.Decides.{nat_tests}
use Rattle.avs_lex.specs.declared.piece.Piece.TheVariants.{Blank, One, Fault}
use Rattle.avs_lex.specs.declared.fault.LexKind.TheVariants.{BadChar}
use Rattle.avs_lex.specs.declared.token.TokenKind.{TokenKind}
use Rattle.avs_lex.specs.declared.token.TokenKind.TheVariants.{Ident, Int, Str, Newline, End}
use Rattle.avs_lex.specs.Spelling.{Text, newline, quote, dollar, dot, backslash, is_blank, begins_name, continues_name, hexadecimal_digits, spelling, through, value, triple, quotes_of, IsName, IsDecimal, IsHexadecimal, IsQuoted, Spells}
use Rattle.avs_lex.specs.Piece.{front, joined, decimal, hexadecimal, string, is_end_line, ends_line, without_blanks}
use Rattle.avs_lex.proofs.TestLemmas.{either}
use Rattle.avs_lex.proofs.SpellingLemmas.{is_punctuation}

-- a blank or a newline is first
pub data BeginsBlank : Text → Type 0 where
  space : (rest : Text) → BeginsBlank (32 ∷ rest)
  line : (rest : Text) → BeginsBlank (newline ∷ rest)

-- a class that has no blank and no newline ends there
ends_run : (p : ℕ → Bool) (bytes rest : Text) → p 32 ≡ false → p newline ≡ false → BeginsBlank rest → list_all p bytes ≡ true → prefix_len p (bytes ++ rest) ≡ length bytes
ends_run p [] rest no_space no_line (space r) all = rw no_space refl
ends_run p [] rest no_space no_line (line r) all = rw no_line refl
ends_run p (c ∷ bytes) rest no_space no_line blank all =
    let here : p c ≡ true = grind arith in
    let later : list_all p bytes ≡ true = grind arith in
    let run = ends_run p bytes rest no_space no_line blank later in
    rw (here, run) (omega arith)

-- punctuation before a newline or a blank
punctuation_space : (kind : TokenKind) (open_parentheses : ℕ) (rest : Text) → is_punctuation kind ≡ true → front open_parentheses (spelling kind ++ 32 ∷ rest) ≡ One kind (length (spelling kind))
unfolding front
punctuation_space Ident open_parentheses rest is = cc
punctuation_space (Int n) open_parentheses rest is = cc
punctuation_space Str open_parentheses rest is = cc
punctuation_space Newline open_parentheses rest is = cc
punctuation_space End open_parentheses rest is = cc
punctuation_space kind open_parentheses rest is = refl

punctuation_line : (kind : TokenKind) (open_parentheses : ℕ) (rest : Text) → is_punctuation kind ≡ true → front open_parentheses (spelling kind ++ newline ∷ rest) ≡ One kind (length (spelling kind))
unfolding front
punctuation_line Ident open_parentheses rest is = cc
punctuation_line (Int n) open_parentheses rest is = cc
punctuation_line Str open_parentheses rest is = cc
punctuation_line Newline open_parentheses rest is = cc
punctuation_line End open_parentheses rest is = cc
punctuation_line kind open_parentheses rest is = refl

name_front : (open_parentheses : ℕ) (bytes rest : Text) → IsName bytes → BeginsBlank rest → front open_parentheses (bytes ++ rest) ≡ One Ident (length bytes)
unfolding front
name_front open_parentheses [] rest name blank = cc (name.begins)
name_front open_parentheses (c ∷ bytes) rest name blank =
    let run = ends_run continues_name (c ∷ bytes) rest refl refl blank name.continues in
    rw name.begins (ap (One Ident) run)

first_of_blank : (bytes rest : Text) → BeginsBlank rest → (get_or (bytes ++ rest) (length bytes) 0 == dot) ≡ false
first_of_blank [] rest (space r) = refl
first_of_blank [] rest (line r) = refl
first_of_blank (c ∷ bytes) rest blank = first_of_blank bytes rest blank

decimal_word : (n : ℤ) (bytes rest : Text) → IsDecimal n bytes → BeginsBlank rest → decimal (bytes ++ rest) ≡ One (Int n) (length bytes)
decimal_word n bytes rest number blank =
    let size = ends_run is_ascii_digit bytes rest refl refl blank number.digits in
    let taken : take (length bytes) (bytes ++ rest) ≡ bytes = take_at bytes rest (length bytes) refl in
    rw (size, first_of_blank bytes rest blank, taken, number.small, number.is) refl

pub front_decimal : (open_parentheses : ℕ) (text : Text) → begins_name (get_or text 0 0) ≡ false → is_ascii_digit (get_or text 0 0) ≡ true → front open_parentheses text ≡ decimal text
unfolding front
front_decimal open_parentheses text other digit = rw (other, digit) refl

decimal_front : (n : ℤ) (open_parentheses : ℕ) (bytes rest : Text) → IsDecimal n bytes → BeginsBlank rest → front open_parentheses (bytes ++ rest) ≡ One (Int n) (length bytes)
decimal_front n open_parentheses [] rest number blank = absurd (omega (arith, number.some))
decimal_front n open_parentheses (c ∷ bytes) rest number blank =
    let digit : is_ascii_digit c ≡ true = grind (arith, number.digits) in
    let other : begins_name c ≡ false = grind (arith, nat_tests) in
    front_decimal open_parentheses (c ∷ (bytes ++ rest)) other digit ∙ decimal_word n (c ∷ bytes) rest number blank

hexadecimal_word : (n : ℤ) (digits rest : Text) → 0 < length digits → length digits ≤ hexadecimal_digits → list_all is_ascii_hexdigit digits ≡ true → n ≡ cast_signed w64 (value 16 digits) → BeginsBlank rest
    → hexadecimal (dollar ∷ (digits ++ rest)) ≡ One (Int n) (1 + length digits)
hexadecimal_word n digits rest some few all is blank =
    let size = ends_run is_ascii_hexdigit digits rest refl refl blank all in
    let taken : take (length digits) (digits ++ rest) ≡ digits = take_at digits rest (length digits) refl in
    let any : (length digits == 0) ≡ false = grind (arith, nat_tests) in
    let short : nat_le (length digits) hexadecimal_digits ≡ true = grind (arith, nat_tests) in
    rw (size, any, short, taken, is) refl

hexadecimal_front : (n : ℤ) (open_parentheses : ℕ) (bytes rest : Text) → IsHexadecimal n bytes → BeginsBlank rest → front open_parentheses (bytes ++ rest) ≡ One (Int n) (length bytes)
unfolding front
hexadecimal_front n open_parentheses [] rest number blank = absurd (omega (arith, number.some))
hexadecimal_front n open_parentheses (c ∷ digits) rest number blank =
    let size : 1 + length digits ≡ length (c ∷ digits) = omega arith in
    let few : length digits ≤ hexadecimal_digits = omega (arith, number.few) in
    let some : 0 < length digits = omega (arith, number.some) in
    rw number.opens (hexadecimal_word n digits rest some few number.digits number.is blank ∙ ap (One (Int n)) size)

pub front_string : (open_parentheses : ℕ) (text : Text) → get_or text 0 0 ≡ quote → front open_parentheses text ≡ string text
unfolding front
front_string open_parentheses text first = rw first refl

-- two quotes, and no third after them
not_triple : (bytes rest : Text) → 2 ≤ length bytes → starts_with nat_eq bytes triple ≡ false → BeginsBlank rest → starts_with nat_eq (bytes ++ rest) triple ≡ false
not_triple [] rest long is blank = absurd (omega arith)
not_triple (a ∷ []) rest long is blank = absurd (omega arith)
not_triple (a ∷ b ∷ []) rest long is (space r) = is
not_triple (a ∷ b ∷ []) rest long is (line r) = is
not_triple (a ∷ b ∷ c ∷ bytes) rest long is blank = is

string_front : (open_parentheses : ℕ) (bytes rest : Text) → IsQuoted bytes → BeginsBlank rest → front open_parentheses (bytes ++ rest) ≡ One Str (length bytes)
string_front open_parentheses bytes rest quoted blank =
    either (starts_with nat_eq bytes triple) (front open_parentheses (bytes ++ rest) ≡ One Str (length bytes))
    (λ e.
    let long = starts_with_long bytes triple e in
    let more : starts_with nat_eq (bytes ++ rest) triple ≡ true = starts_with_more bytes triple rest long ∙ e in
    let first = starts_with_at (bytes ++ rest) triple 0 more (lit< tt) in
    let of : quotes_of bytes ≡ 3 = rw e refl in
    let found : through triple 3 (drop 3 bytes) ≡ Some (length bytes) = rw of at quoted.ends in
    let after : drop 3 (bytes ++ rest) ≡ drop 3 bytes ++ rest = drop-append-le 3 bytes rest long in
    front_string open_parentheses (bytes ++ rest) first ∙ rw (more, after, through_more triple 3 (drop 3 bytes) rest (length bytes) found) refl)
    (λ e.
    let of : quotes_of bytes ≡ 1 = rw e refl in
    let long : 2 ≤ length bytes = rw of at quoted.long in
    let opens : take 1 bytes ≡ quote ∷ [] = rw of at quoted.opens in
    let found : through (quote ∷ []) 1 (drop 1 bytes) ≡ Some (length bytes) = rw of at quoted.ends in
    let other : starts_with nat_eq (bytes ++ rest) triple ≡ false = not_triple bytes rest long e blank in
    let first : get_or (bytes ++ rest) 0 0 ≡ quote = get_or_append_left bytes rest 0 0 (omega arith) ∙ sym (get_or-take 1 bytes 0 0 (lit< tt)) ∙ ap (λ t. get_or t 0 0) opens in
    let after : drop 1 (bytes ++ rest) ≡ drop 1 bytes ++ rest = drop-append-le 1 bytes rest (omega arith) in
    front_string open_parentheses (bytes ++ rest) first ∙ rw (other, after, through_more (quote ∷ []) 1 (drop 1 bytes) rest (length bytes) found) refl)

punctuation_front : (kind : TokenKind) (open_parentheses : ℕ) (bytes rest : Text) → is_punctuation kind ≡ true → bytes ≡ spelling kind → BeginsBlank rest → front open_parentheses (bytes ++ rest) ≡ One kind (length bytes)
punctuation_front kind open_parentheses bytes rest is spelled (space r) = rw spelled (punctuation_space kind open_parentheses r is)
punctuation_front kind open_parentheses bytes rest is spelled (line r) = rw spelled (punctuation_line kind open_parentheses r is)

pub word_front : (kind : TokenKind) (open_parentheses : ℕ) (bytes rest : Text) → Spells kind bytes → kind ≢ Newline → kind ≢ End → BeginsBlank rest → front open_parentheses (bytes ++ rest) ≡ One kind (length bytes)
word_front Ident open_parentheses bytes rest spelled no_line no_end blank = name_front open_parentheses bytes rest spelled blank
word_front (Int n) open_parentheses bytes rest spelled no_line no_end blank = elim spelled as (λ _. front open_parentheses (bytes ++ rest) ≡ One (Int n) (length bytes)) [
  | inl number ↦ decimal_front n open_parentheses bytes rest number blank
  | inr number ↦ hexadecimal_front n open_parentheses bytes rest number blank
]
word_front Str open_parentheses bytes rest spelled no_line no_end blank = string_front open_parentheses bytes rest spelled blank
word_front Newline open_parentheses bytes rest spelled no_line no_end blank = absurd (no_line refl)
word_front End open_parentheses bytes rest spelled no_line no_end blank = absurd (no_end refl)
word_front kind open_parentheses bytes rest spelled no_line no_end blank = punctuation_front kind open_parentheses bytes rest refl spelled blank

-- A token other than a newline begins with no blank, no `\` and no first byte of U+FEFF, and no end line begins there that isn't that token.
pub front_blank : (open_parentheses : ℕ) (text : Text) → is_blank (get_or text 0 0) ≡ true → front open_parentheses text ≡ Blank 1
unfolding front
front_blank open_parentheses text is =
    let name : begins_name (get_or text 0 0) ≡ false = grind (arith, nat_tests) in
    let digit : is_ascii_digit (get_or text 0 0) ≡ false = grind (arith, nat_tests) in
    rw (name, digit, is) refl

pub front_joined : (open_parentheses : ℕ) (text : Text) → get_or text 0 0 ≡ backslash → front open_parentheses text ≡ joined text
unfolding front
front_joined open_parentheses text is = rw is refl

pub front_name : (open_parentheses : ℕ) (text : Text) → begins_name (get_or text 0 0) ≡ true → front open_parentheses text ≡ One Ident (prefix_len continues_name text)
unfolding front
front_name open_parentheses text is = rw is refl

pub front_byte_order_mark : (open_parentheses : ℕ) (text : Text) → front open_parentheses (239 ∷ text) ≡ Fault BadChar
unfolding front
front_byte_order_mark open_parentheses text = refl

both_left : (a b : Bool) → (a && b) ≡ true → a ≡ true
both_left true b is = refl
both_left false b is = is

both_right : (a b : Bool) → (a && b) ≡ true → b ≡ true
both_right true b is = is
both_right false b is = cc

end_name : (k : ℕ) → k < 7 → continues_name (get_or (codes "__END__") k 0) ≡ true
end_name zero low = refl
end_name (suc zero) low = refl
end_name (suc (suc zero)) low = refl
end_name (suc (suc (suc zero))) low = refl
end_name (suc (suc (suc (suc zero)))) low = refl
end_name (suc (suc (suc (suc (suc zero))))) low = refl
end_name (suc (suc (suc (suc (suc (suc zero)))))) low = refl
end_name (suc (suc (suc (suc (suc (suc (suc k))))))) low = absurd (omega arith)

pub not_blank : (kind : TokenKind) (size open_parentheses : ℕ) (text : Text) → front open_parentheses text ≡ One kind size → is_blank (get_or text 0 0) ≡ false
not_blank kind size open_parentheses text word = either (is_blank (get_or text 0 0)) (is_blank (get_or text 0 0) ≡ false) (λ e. absurd (cc (word, front_blank open_parentheses text e))) (λ e. e)

joined_blank : (text : Text) (kind : TokenKind) (size : ℕ) → joined text ≡ One kind size → ⊥
joined_blank text kind size is =
    let blanks = prefix_len is_blank (drop 1 text) in
    either (length text == 1 + blanks) ⊥ (λ e. let same : Blank (1 + blanks) ≡ One kind size = rw e at is in cc same)
    (λ e. either (get_or text (1 + blanks) 0 == newline) ⊥
    (λ f. let same : Blank (2 + blanks) ≡ One kind size = rw (e, f) at is in cc same)
    (λ f. let same : Fault BadChar ≡ One kind size = rw (e, f) at is in cc same))

pub not_backslash : (kind : TokenKind) (size open_parentheses : ℕ) (text : Text) → front open_parentheses text ≡ One kind size → (get_or text 0 0 == backslash) ≡ false
not_backslash kind size open_parentheses text word = either (get_or text 0 0 == backslash) ((get_or text 0 0 == backslash) ≡ false)
    (λ e. absurd (joined_blank text kind size (sym (front_joined open_parentheses text (grind (arith, nat_tests))) ∙ word))) (λ e. e)

without_none : (text : Text) → is_blank (get_or text 0 0) ≡ false → without_blanks text ≡ text
without_none [] is = refl
without_none (c ∷ text) is = rw is refl

-- after the word of an end line its name ends
name_ends : (text : Text) → ends_line (without_blanks text) ≡ true → continues_name (get_or text 0 0) ≡ false
name_ends [] is = refl
name_ends (c ∷ text) is = either (is_blank c) (continues_name c ≡ false)
    (λ e. grind (arith, nat_tests))
    (λ e. let here : ends_line (c ∷ text) ≡ true = ap ends_line (sym (without_none (c ∷ text) e)) ∙ is in grind (arith, nat_tests))

end_line_name : (text : Text) → starts_with nat_eq text (codes "__END__") ≡ true → ends_line (without_blanks (drop 7 text)) ≡ true → prefix_len continues_name text ≡ 7
end_line_name text starts ends =
    let long = starts_with_long text (codes "__END__") starts in
    let last : continues_name (get_or text 7 0) ≡ false = ap continues_name (sym (get_or-drop 7 text 0 0)) ∙ name_ends (drop 7 text) ends in
    prefix_len_is continues_name text 7 0 long (λ k low. ap continues_name (starts_with_at text (codes "__END__") k starts low) ∙ end_name k low) (λ _. last)

is_end_line_parts : (text : Text) → is_blank (get_or text 0 0) ≡ false → is_end_line text ≡ true → (starts_with nat_eq text (codes "__END__") ≡ true) × (ends_line (without_blanks (drop 7 text)) ≡ true)
is_end_line_parts text is end =
    let same = without_none text is in
    let both : (starts_with nat_eq text (codes "__END__") && ends_line (without_blanks (drop 7 text))) ≡ true = rw same at end in
    (both_left (starts_with nat_eq text (codes "__END__")) (ends_line (without_blanks (drop 7 text))) both, both_right (starts_with nat_eq text (codes "__END__")) (ends_line (without_blanks (drop 7 text))) both)

pub no_end_line : (kind : TokenKind) (open_parentheses : ℕ) (bytes rest : Text) → front open_parentheses (bytes ++ rest) ≡ One kind (length bytes) → bytes ≢ codes "__END__" → is_end_line (bytes ++ rest) ≡ false
no_end_line kind open_parentheses bytes rest word other =
    let text = bytes ++ rest in
    either (is_end_line text) (is_end_line text ≡ false)
    (λ e.
    let parts = is_end_line_parts text (not_blank kind (length bytes) open_parentheses text word) e in
    let size = end_line_name text parts.0 parts.1 in
    let first : get_or text 0 0 ≡ 95 = starts_with_at text (codes "__END__") 0 parts.0 (lit< tt) in
    let name : front open_parentheses text ≡ One Ident (prefix_len continues_name text) = front_name open_parentheses text (rw first refl) in
    let long : length bytes ≡ prefix_len continues_name text = cc (name, word) in
    let same : bytes ≡ codes "__END__" = sym (take_at bytes rest 7 (long ∙ size)) ∙ starts_with_take text (codes "__END__") parts.0 in
    absurd (other same))
    (λ e. e)
