-- A BadChar is where no token, blank, comment or joined line begins.
use Rattle.std.proofs.Common.{◌≡◌, ◌≢◌, ◌⊎◌, ◌∙◌, ℕ, ℤ, pos, zero, suc, ◌+◌, ◌-◌, ◌<◌, ◌≤◌, ap, sym, refl, arith, List, [], ◌∷◌, ◌++◌, length, take, drop, get_or, Bool, true, false, ◌&&◌, ◌||◌, ◌==◌, nat_le, nat_eq, Option, Some, None, find, codes, lit<, length-drop, length-take-le, inl, inr}
use Rattle.std.specs.List.{list_all, starts_with, prefix_len, position_or_len}
use Rattle.std.specs.Char.{is_ascii_digit, is_ascii_hexdigit}
use Rattle.std.specs.Int.{cast_signed, w64}
use Rattle.std.proofs.lemmas.Bool.Decides.{nat_tests}
use Rattle.std.proofs.lemmas.List.{take-append-drop, drop-take}
use Rattle.std.proofs.lemmas.List.Sums.{prefix_len_passes}
use Rattle.avs_lex.specs.declared.piece.Piece.TheVariants.{Blank, One, EndOfScript, Fault}
use Rattle.avs_lex.specs.declared.fault.LexKind.TheVariants.{BadChar, FloatLiteral, IntRange}
use Rattle.avs_lex.specs.declared.token.TokenKind.{TokenKind}
use Rattle.avs_lex.specs.declared.token.TokenKind.TheVariants as k
use Rattle.avs_lex.specs.Spelling.{Text, newline, quote, hash, dollar, star, dot, slash, left_bracket, backslash, is_newline, is_blank, begins_name, is_number, hexadecimal_digits, spelling, pairs, singles, first_of, through, value, triple, IsDecimal, IsHexadecimal, Spells}
use Rattle.avs_lex.specs.Piece.{front, is_end_line, ends_line, decimal, hexadecimal, string, string_to, comment_to, nested_end, line_end, joined, punctuation, punctuation_of}
use Rattle.avs_lex.specs.Tokens.{begins_line, LexFault}
use Rattle.avs_lex.specs.BeginsNothing.{IsJoined, BeginsNothing}
use Rattle.avs_lex.proofs.TestLemmas.{either}
use Rattle.avs_lex.proofs.WordLemmas.{starts_with_at, starts_with_from}
use Rattle.avs_lex.proofs.SpellingLemmas.{is_punctuation}
use Rattle.avs_lex.proofs.WrittenLemmas.{front_name, front_decimal, front_string, front_blank, front_joined}
use Rattle.avs_lex.proofs.LongestLemmas.{run_long, first_of_take, front_hexadecimal, quoted_first}

-- ---- what each beginning gives is no BadChar

decimal_other : (rest : Text) → decimal rest ≢ Fault BadChar
decimal_other rest is =
    let size = prefix_len is_ascii_digit rest in
    either (get_or rest size 0 == dot) ⊥
    (λ e. let same : Fault FloatLiteral ≡ Fault BadChar = rw e at is in cc same)
    (λ e. either (is_number (pos (value 10 (take size rest)))) ⊥
    (λ f. let same : One (k.Int (pos (value 10 (take size rest)))) size ≡ Fault BadChar = rw (e, f) at is in cc same)
    (λ f. let same : Fault IntRange ≡ Fault BadChar = rw (e, f) at is in cc same))

hexadecimal_none : (rest : Text) → hexadecimal rest ≡ Fault BadChar → prefix_len is_ascii_hexdigit (drop 1 rest) ≡ 0
hexadecimal_none rest is =
    let size = prefix_len is_ascii_hexdigit (drop 1 rest) in
    either (size == 0) (size ≡ 0)
    (λ e. grind (arith, nat_tests))
    (λ e. either (nat_le size hexadecimal_digits) (size ≡ 0)
    (λ f. let same : One (k.Int (cast_signed w64 (value 16 (take size (drop 1 rest))))) (1 + size) ≡ Fault BadChar = rw (e, f) at is in cc same)
    (λ f. let same : Fault IntRange ≡ Fault BadChar = rw (e, f) at is in cc same))

string_to_other : (end : Option ℕ) → string_to end ≢ Fault BadChar
string_to_other None is = cc is
string_to_other (Some size) is = cc is

string_other : (rest : Text) → string rest ≢ Fault BadChar
string_other rest is =
    either (starts_with nat_eq rest triple) ⊥
    (λ e. string_to_other (through triple 3 (drop 3 rest)) (rw e at is))
    (λ e. string_to_other (through (quote ∷ []) 1 (drop 1 rest)) (rw e at is))

comment_to_other : (end : Option ℕ) → comment_to end ≢ Fault BadChar
comment_to_other None is = cc is
comment_to_other (Some size) is = cc is

line_end_other : (open_parentheses : ℕ) (rest : Text) → line_end open_parentheses rest ≢ Fault BadChar
line_end_other open_parentheses rest is =
    let blanks = prefix_len is_blank (drop 1 rest) in
    either (get_or rest (1 + blanks) 0 == backslash) ⊥
    (λ e. let same : Blank (2 + blanks) ≡ Fault BadChar = rw e at is in cc same)
    (λ e. either (open_parentheses == 0) ⊥
    (λ f. let same : One k.Newline 1 ≡ Fault BadChar = rw (e, f) at is in cc same)
    (λ f. let same : Blank 1 ≡ Fault BadChar = rw (e, f) at is in cc same))

front_newline : (open_parentheses : ℕ) (rest : Text) → get_or rest 0 0 ≡ newline → front open_parentheses rest ≡ line_end open_parentheses rest
unfolding front
front_newline open_parentheses rest first = rw first refl

front_hash : (open_parentheses : ℕ) (rest : Text) → get_or rest 0 0 ≡ hash → front open_parentheses rest ≡ Blank (position_or_len is_newline rest)
unfolding front
front_hash open_parentheses rest first = rw first refl

front_block : (open_parentheses : ℕ) (rest : Text) → get_or rest 0 0 ≡ slash → get_or rest 1 0 ≡ star → front open_parentheses rest ≡ comment_to (through (codes "*/") 2 (drop 2 rest))
unfolding front
front_block open_parentheses rest first second = rw (first, second) refl

front_nested : (open_parentheses : ℕ) (rest : Text) → get_or rest 0 0 ≡ left_bracket → get_or rest 1 0 ≡ star → front open_parentheses rest ≡ comment_to (nested_end 0 2 (drop 2 rest))
unfolding front
front_nested open_parentheses rest first second = rw (first, second) refl

-- ---- punctuation

find_none : (test : TokenKind → Bool) (kinds : List TokenKind) (i : ℕ) (d : TokenKind) → find test kinds ≡ None → i < length kinds → test (get_or kinds i d) ≡ false
find_none test [] i d is low = absurd (omega arith)
find_none test (kind ∷ kinds) zero d is low = either (test kind) (test kind ≡ false) (λ e. let no : Some kind ≡ None = rw e at is in cc no) (λ e. e)
find_none test (kind ∷ kinds) (suc i) d is low =
    either (test kind) (test (get_or kinds i d) ≡ false)
    (λ e. let no : Some kind ≡ None = rw e at is in cc no)
    (λ e. let later : find test kinds ≡ None = rw e at is in find_none test kinds i d later (omega arith))

-- where a punctuation is in its table
abbrev index_of : TokenKind → ℕ
index_of k.Equal = 0
index_of k.NotEqual = 1
index_of k.LessEqual = 2
index_of k.GreaterEqual = 3
index_of k.PlusPlus = 4
index_of k.AndAnd = 5
index_of k.OrOr = 6
index_of k.LeftParen = 7
index_of k.RightParen = 8
index_of k.LeftBrace = 9
index_of k.RightBrace = 10
index_of k.Comma = 11
index_of k.Dot = 12
index_of k.Assign = 13
index_of k.Less = 14
index_of k.Greater = 15
index_of k.Plus = 16
index_of k.Minus = 17
index_of k.Times = 18
index_of k.Divide = 19
index_of k.Remainder = 20
index_of k.Not = 21
index_of k.Question = 22
index_of k.Colon = 23
index_of _ = 0

index_is : (kind : TokenKind) → is_punctuation kind ≡ true → get_or (pairs ++ singles) (index_of kind) kind ≡ kind
index_is k.Ident is = cc
index_is (k.Int n) is = cc
index_is k.Str is = cc
index_is k.Newline is = cc
index_is k.End is = cc
index_is kind is = refl

index_low : (kind : TokenKind) → index_of kind < length (pairs ++ singles)
index_low k.Ident = lit< tt
index_low kind = lit< tt

punctuation_of_none : (found : Option TokenKind) → punctuation_of found ≡ Fault BadChar → found ≡ None
punctuation_of_none None is = refl
punctuation_of_none (Some kind) is = cc is

no_punctuation : (rest : Text) (kind : TokenKind) → is_punctuation kind ≡ true → punctuation rest ≡ Fault BadChar → starts_with nat_eq rest (spelling kind) ≡ false
no_punctuation rest kind one is =
    let test = λ (other : TokenKind). starts_with nat_eq rest (spelling other) in
    let none = punctuation_of_none (first_of (pairs ++ singles) rest) is in
    ap test (sym (index_is kind one)) ∙ find_none test (pairs ++ singles) (index_of kind) kind none (index_low kind)

-- where a punctuation begins, nothing but punctuation can be a BadChar
front_is : (kind : TokenKind) (open_parentheses : ℕ) (after : Text) → is_punctuation kind ≡ true → front open_parentheses (spelling kind ++ after) ≡ Fault BadChar → punctuation (spelling kind ++ after) ≡ Fault BadChar
unfolding front
front_is k.Ident open_parentheses after one is = cc
front_is (k.Int n) open_parentheses after one is = cc
front_is k.Str open_parentheses after one is = cc
front_is k.Newline open_parentheses after one is = cc
front_is k.End open_parentheses after one is = cc
front_is k.Divide open_parentheses after one is =
    either (get_or after 0 0 == star) (punctuation (slash ∷ after) ≡ Fault BadChar)
    (λ e. let second : get_or after 0 0 ≡ star = grind (arith, nat_tests) in absurd (comment_to_other (through (codes "*/") 2 (drop 1 after)) (sym (front_block open_parentheses (slash ∷ after) refl second) ∙ is)))
    (λ e. rw e at is)
front_is k.Dot open_parentheses after one is =
    either (is_ascii_digit (get_or after 0 0)) (punctuation (dot ∷ after) ≡ Fault BadChar)
    (λ e. let same : Fault FloatLiteral ≡ Fault BadChar = rw e at is in cc same)
    (λ e. rw e at is)
front_is kind open_parentheses after one is = is

not_punctuation : (kind : TokenKind) (open_parentheses : ℕ) (rest : Text) (size : ℕ) → is_punctuation kind ≡ true → front open_parentheses rest ≡ Fault BadChar → take size rest ≡ spelling kind → ⊥
not_punctuation kind open_parentheses rest size one is spelled =
    let after = drop size rest in
    let parts : spelling kind ++ after ≡ rest = ap (λ t. t ++ after) (sym spelled) ∙ take-append-drop size rest in
    let bad = front_is kind open_parentheses after one (ap (front open_parentheses) parts ∙ is) in
    cc (starts_with_from (spelling kind ++ after) (spelling kind) after refl, no_punctuation (spelling kind ++ after) kind one bad)

-- ---- tokens

not_decimal : (n : ℤ) (open_parentheses : ℕ) (rest : Text) (size : ℕ) → front open_parentheses rest ≡ Fault BadChar → 0 < size → size ≤ length rest → IsDecimal n (take size rest) → ⊥
not_decimal n open_parentheses rest size is some within number =
    let long = run_long is_ascii_digit rest size within number.digits in
    let first : is_ascii_digit (get_or rest 0 0) ≡ true = prefix_len_passes is_ascii_digit rest 0 0 (omega arith) in
    let other : begins_name (get_or rest 0 0) ≡ false = grind (arith, nat_tests) in
    decimal_other rest (sym (front_decimal open_parentheses rest other first) ∙ is)

not_hexadecimal : (n : ℤ) (open_parentheses : ℕ) (rest : Text) (size : ℕ) → front open_parentheses rest ≡ Fault BadChar → 0 < size → size ≤ length rest → IsHexadecimal n (take size rest) → ⊥
not_hexadecimal n open_parentheses rest size is some within number =
    let first : get_or rest 0 0 ≡ dollar = sym (first_of_take rest size some) ∙ number.opens in
    let upto : 1 + (size - 1) ≡ size = omega arith in
    let digits : drop 1 (take size rest) ≡ take (size - 1) (drop 1 rest) = ap (λ n. drop 1 (take n rest)) (sym upto) ∙ drop-take 1 (size - 1) rest in
    let all : list_all is_ascii_hexdigit (take (size - 1) (drop 1 rest)) ≡ true = rw digits at number.digits in
    let long = run_long is_ascii_hexdigit (drop 1 rest) (size - 1) (omega (arith, length-drop 1 rest)) all in
    let none = hexadecimal_none rest (sym (front_hexadecimal open_parentheses rest first) ∙ is) in
    let more : 1 < length (take size rest) = number.some in
    omega (arith, long, none, more, length-take-le size rest within)

no_token : (open_parentheses : ℕ) (rest : Text) → front open_parentheses rest ≡ Fault BadChar → (kind : TokenKind) (size : ℕ) → 0 < size → size ≤ length rest → Spells kind (take size rest) → ⊥
no_token open_parentheses rest is k.Ident size some within name =
    let first : begins_name (get_or rest 0 0) ≡ true = ap begins_name (sym (first_of_take rest size some)) ∙ name.begins in
    cc (is, front_name open_parentheses rest first)
no_token open_parentheses rest is (k.Int n) size some within spelled = elim spelled [
  | inl number ↦ not_decimal n open_parentheses rest size is some within number
  | inr number ↦ not_hexadecimal n open_parentheses rest size is some within number
]
no_token open_parentheses rest is k.Str size some within quoted =
    let first : get_or rest 0 0 ≡ quote = sym (first_of_take rest size some) ∙ quoted_first (take size rest) quoted in
    string_other rest (sym (front_string open_parentheses rest first) ∙ is)
no_token open_parentheses rest is k.Newline size some within spelled =
    let first : get_or rest 0 0 ≡ newline = sym (first_of_take rest size some) ∙ ap (λ t. get_or t 0 0) spelled in
    line_end_other open_parentheses rest (sym (front_newline open_parentheses rest first) ∙ is)
no_token open_parentheses rest is k.End size some within spelled = omega (arith, ap length spelled, length-take-le size rest within)
no_token open_parentheses rest is kind size some within spelled = not_punctuation kind open_parentheses rest size refl is spelled

-- ---- blanks, comments and joined lines

not_blank : (open_parentheses : ℕ) (rest : Text) → front open_parentheses rest ≡ Fault BadChar → is_blank (get_or rest 0 0) ≡ false
not_blank open_parentheses rest is = either (is_blank (get_or rest 0 0)) (is_blank (get_or rest 0 0) ≡ false) (λ e. absurd (cc (is, front_blank open_parentheses rest e))) (λ e. e)

not_comment : (open_parentheses : ℕ) (rest : Text) → front open_parentheses rest ≡ Fault BadChar → get_or rest 0 0 ≢ hash
not_comment open_parentheses rest is first = cc (is, front_hash open_parentheses rest first)

not_block : (open_parentheses : ℕ) (rest : Text) → front open_parentheses rest ≡ Fault BadChar → starts_with nat_eq rest (codes "/*") ≡ false
not_block open_parentheses rest is =
    either (starts_with nat_eq rest (codes "/*")) (starts_with nat_eq rest (codes "/*") ≡ false)
    (λ e. absurd (comment_to_other (through (codes "*/") 2 (drop 2 rest)) (sym (front_block open_parentheses rest (starts_with_at rest (codes "/*") 0 e (lit< tt)) (starts_with_at rest (codes "/*") 1 e (lit< tt))) ∙ is)))
    (λ e. e)

not_nested : (open_parentheses : ℕ) (rest : Text) → front open_parentheses rest ≡ Fault BadChar → starts_with nat_eq rest (codes "[*") ≡ false
not_nested open_parentheses rest is =
    either (starts_with nat_eq rest (codes "[*")) (starts_with nat_eq rest (codes "[*") ≡ false)
    (λ e. absurd (comment_to_other (nested_end 0 2 (drop 2 rest)) (sym (front_nested open_parentheses rest (starts_with_at rest (codes "[*") 0 e (lit< tt)) (starts_with_at rest (codes "[*") 1 e (lit< tt))) ∙ is)))
    (λ e. e)

line_first : (c : ℕ) (after : Text) → ends_line (c ∷ after) ≡ true → c ≡ newline
line_first c after ends = grind (arith, nat_tests)

blank_run : (blanks after : Text) → list_all is_blank blanks ≡ true → ends_line after ≡ true → prefix_len is_blank (blanks ++ after) ≡ length blanks
blank_run [] [] all ends = refl
blank_run [] (c ∷ after) all ends = rw (line_first c after ends) refl
blank_run (b ∷ blanks) after all ends =
    let here : is_blank b ≡ true = grind arith in
    let later : list_all is_blank blanks ≡ true = grind arith in
    let run = blank_run blanks after later ends in
    rw (here, run) (omega arith)

-- after the blanks is the end of the text or a newline
ends_there : (blanks after : Text) → ends_line after ≡ true → (length (blanks ++ after) ≡ length blanks) ⊎ (get_or (blanks ++ after) (length blanks) 0 ≡ newline)
ends_there [] [] ends = inl refl
ends_there [] (c ∷ after) ends = inr (line_first c after ends)
ends_there (b ∷ blanks) after ends = elim (ends_there blanks after ends) as (λ _. (length (b ∷ (blanks ++ after)) ≡ length (b ∷ blanks)) ⊎ (get_or (b ∷ (blanks ++ after)) (length (b ∷ blanks)) 0 ≡ newline)) [
  | inl is ↦ inl (ap suc is)
  | inr is ↦ inr is
]

joins : (blanks after : Text) → list_all is_blank blanks ≡ true → ends_line after ≡ true → joined (backslash ∷ (blanks ++ after)) ≢ Fault BadChar
joins blanks after all ends is =
    let text = backslash ∷ (blanks ++ after) in
    let run = blank_run blanks after all ends in
    let next : 1 + length blanks ≡ suc (length blanks) = omega arith in
    either (length text == 1 + length blanks) ⊥
    (λ e. let same : Blank (1 + length blanks) ≡ Fault BadChar = rw (run, e) at is in cc same)
    (λ e. either (get_or text (1 + length blanks) 0 == newline) ⊥
    (λ f. let same : Blank (2 + length blanks) ≡ Fault BadChar = rw (run, e, f) at is in cc same)
    (λ f. elim (ends_there blanks after ends) [
      | inl whole ↦ let long : suc (length (blanks ++ after)) ≡ 1 + length blanks = omega (arith, whole) in grind (arith, nat_tests, long)
      | inr line ↦ let found : get_or text (1 + length blanks) 0 ≡ newline = rw next line in grind (arith, nat_tests, found)
    ]))

not_joined : (open_parentheses : ℕ) (rest : Text) → front open_parentheses rest ≡ Fault BadChar → IsJoined rest → ⊥
not_joined open_parentheses rest is line =
    let first : get_or rest 0 0 ≡ backslash = ap (λ t. get_or t 0 0) line.is in
    joins line.blanks line.after line.all line.ends (ap joined (sym line.is) ∙ sym (front_joined open_parentheses rest first) ∙ is)

begins_nothing : (open_parentheses : ℕ) (rest : Text) → 0 < length rest → front open_parentheses rest ≡ Fault BadChar → BeginsNothing rest
begins_nothing open_parentheses rest some is = record {
  some = some;
  no_token = no_token open_parentheses rest is;
  no_blank = not_blank open_parentheses rest is;
  no_line_comment = not_comment open_parentheses rest is;
  no_block_comment = not_block open_parentheses rest is;
  no_nested_comment = not_nested open_parentheses rest is;
  no_joined_line = not_joined open_parentheses rest is;
}

pub bad_char : (text : Text) (line : ℕ) (fault : LexFault text BadChar line) → BeginsNothing (drop fault.offset text)
bad_char text line fault =
    let rest = drop fault.offset text in
    let begins = begins_line text fault.offset in
    either (length rest == 0 || (begins && is_end_line rest)) (BeginsNothing rest)
    (λ e. let same : EndOfScript ≡ Fault BadChar = rw e at fault.fails in cc same)
    (λ e.
    let some : 0 < length rest = grind (arith, nat_tests) in
    let here : front fault.open_parentheses rest ≡ Fault BadChar = rw e at fault.fails in
    begins_nothing fault.open_parentheses rest some here)
