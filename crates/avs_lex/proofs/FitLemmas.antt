-- A piece has characters, is within the rest, and ends where a character ends. A token is spelled as its kind says.
use Rattle.std.proofs.Common.{◌≡◌, ◌∙◌, ℕ, ◌+◌, ◌-◌, ◌<◌, ◌≤◌, sym, refl, ap, arith, [], ◌∷◌, ◌++◌, length, take, drop, get_or, replicate, Bool, true, false, not, ◌&&◌, ◌||◌, ◌==◌, nat_lt, nat_le, Option, Some, None, nat_eq, ◌⊎◌, inl, inr, length-take, length-drop, length-take-le, get_or-take, codes, lit<, pos}
use Rattle.std.specs.List.{starts_with, prefix_len, position_or_len}
use Rattle.std.specs.Char.{is_ascii_digit, is_ascii_hexdigit}
use Rattle.std.specs.Int.{cast_signed, w64}
use Rattle.std.proofs.lemmas.Bool.Decides.{nat_tests}
use Rattle.std.proofs.lemmas.List.{length-replicate, take-append-drop, get_or_past, get_or-drop, take-take, drop-take, drop-drop}
use Rattle.std.proofs.lemmas.List.Sums.{prefix_len-le-length, prefix_len_passes, passes_at_first}
use Rattle.avs_lex.specs.declared.piece.Piece.{Piece}
use Rattle.avs_lex.specs.declared.piece.Piece.TheVariants.{Blank, One, EndOfScript, Fault}
use Rattle.avs_lex.specs.declared.fault.LexKind.{LexKind}
use Rattle.avs_lex.specs.declared.token.TokenKind.{TokenKind}
use Rattle.avs_lex.specs.declared.token.TokenKind.TheVariants.{Ident}
use Rattle.avs_lex.specs.Spelling.{Text, newline, quote, hash, dollar, star, dot, slash, left_bracket, backslash, right_bracket, is_newline, is_blank, begins_name, continues_name, through, is_number, hexadecimal_digits, value, spelling, pairs, singles, first_of, triple, quotes_of, IsDecimal, IsHexadecimal, IsQuoted, Spells}
use Rattle.avs_lex.specs.Piece.{nested_end, comment_to, string_to, string, line_end, joined, decimal, hexadecimal, punctuation, punctuation_of, front, piece, is_end_line, IsWithin}
use Rattle.avs_lex.proofs.TestLemmas.{by_test, either}
use Rattle.avs_lex.proofs.NumberLemmas.{list_all-taken}
use Rattle.avs_lex.proofs.WordLemmas.{EndsAt, through_found, through_cut, starts_with_long, starts_with_at, starts_with_take, starts_with_from}
use Rattle.avs_lex.proofs.CommentLemmas.{nested_found}
use Rattle.avs_lex.proofs.SpellingLemmas.{IsPunctuationAt, first_of_punctuation, Spells-punctuation}

-- a size at which a character ends: an ASCII character is before or after it, or nothing is after it
pub record Ends (rest : Text) (size : ℕ) : Type 0 where
  pub some : 0 < size
  pub within : size ≤ length rest
  pub whole : (get_or rest (size - 1) 0 < 128) ⊎ (get_or rest size 0 < 128)

abbrev pub Fits : Text → Piece → Type 0
Fits rest (Blank size) = Ends rest size
Fits rest (One kind size) = Ends rest size × Spells kind (take size rest)
Fits rest EndOfScript = Unit {0}
Fits rest (Fault kind) = Unit {0}

pub record IsFit (rest : Text) (piece : Piece) : Type 0 where
  pub fits : Fits rest piece

fault : {rest : Text} {kind : LexKind} → IsFit rest (Fault kind)
fault = record { fits = tt }

-- the offset of a byte other than 0 is in the text
pub inside : (rest : Text) (offset c : ℕ) → get_or rest offset 0 ≡ c → 0 < c → offset < length rest
inside rest offset c is some = by_test (nat_lt offset (length rest)) (λ b. nat_lt offset (length rest) ≡ b → offset < length rest)
    (λ _ yes. grind (arith, nat_tests)) (λ _ no. let past : get_or rest offset 0 ≡ 0 = get_or_past rest offset 0 (grind (arith, nat_tests)) in absurd (omega arith)) refl

one : (rest : Text) (c : ℕ) → get_or rest 0 0 ≡ c → 0 < c → c < 128 → Ends rest 1
one rest c is some low = record { some = lit< tt; within = omega (arith, inside rest 0 c is some); whole = inl (omega arith) }

first_taken : (rest : Text) (c : ℕ) → get_or rest 0 0 ≡ c → 0 < c → take 1 rest ≡ c ∷ []
first_taken [] c is some = absurd (omega arith)
first_taken (d ∷ rest) c is some = rw is refl

-- up to the end of an ASCII character
up_to : (rest : Text) (offset c : ℕ) → get_or rest offset 0 ≡ c → 0 < c → c < 128 → Ends rest (1 + offset)
up_to rest offset c is some low =
    let there = inside rest offset c is some in
    let last : 1 + offset - 1 ≡ offset = omega arith in
    record { some = omega arith; within = omega arith; whole = inl (rw (last, is) low) }

further : (rest : Text) (blanks c : ℕ) → get_or rest (1 + blanks) 0 ≡ c → 0 < c → c < 128 → Ends rest (2 + blanks)
further rest blanks c is some low = let e : 1 + (1 + blanks) ≡ 2 + blanks = omega arith in rw e at (up_to rest (1 + blanks) c is some low)

taken : (p : ℕ → Bool) (rest : Text) → 0 < length rest → p (get_or rest 0 0) ≡ true → 0 < prefix_len p rest
taken p [] some first = absurd (omega arith)
taken p (c ∷ rest) some first = rw first (omega arith)

-- a run of ASCII characters
run : (p : ℕ → Bool) (rest : Text) → ((c : ℕ) → p c ≡ true → c < 128) → 0 < prefix_len p rest → Ends rest (prefix_len p rest)
run p rest ascii some = record { some = some; within = prefix_len-le-length p rest; whole = inl (ascii _ (prefix_len_passes p rest (prefix_len p rest - 1) 0 (omega arith))) }

name-ascii : (c : ℕ) → continues_name c ≡ true → c < 128
name-ascii c is = grind (arith, nat_tests)

name-starts : (c : ℕ) → begins_name c ≡ true → continues_name c ≡ true
name-starts c is = grind (arith, nat_tests)

digit-ascii : (c : ℕ) → is_ascii_digit c ≡ true → c < 128
digit-ascii c is = grind (arith, nat_tests)

hexdigit-ascii : (c : ℕ) → is_ascii_hexdigit c ≡ true → c < 128
hexdigit-ascii c is = grind (arith, nat_tests)

name : (rest : Text) → 0 < length rest → begins_name (get_or rest 0 0) ≡ true → IsFit rest (One Ident (prefix_len continues_name rest))
name rest some first =
    let size : 0 < prefix_len continues_name rest = taken continues_name rest some (name-starts (get_or rest 0 0) first) in
    let begins : begins_name (get_or (take (prefix_len continues_name rest) rest) 0 0) ≡ true = rw get_or-take first in
    record { fits = (run continues_name rest name-ascii size, record { begins = begins; continues = list_all-taken continues_name rest }) }

decimal_fits : (rest : Text) → 0 < length rest → is_ascii_digit (get_or rest 0 0) ≡ true → IsFit rest (decimal rest)
decimal_fits rest some first =
    let size = prefix_len is_ascii_digit rest in
    let number = pos (value 10 (take size rest)) in
    let ends = run is_ascii_digit rest digit-ascii (taken is_ascii_digit rest some first) in
    let goal = IsFit rest (decimal rest) in
    either (get_or rest size 0 == dot) goal
    (λ e. rw e fault)
    (λ e. either (is_number number) goal
    (λ f.
    let spelled : IsDecimal number (take size rest) = record { some = rw (length-take-le size rest ends.within) ends.some; digits = list_all-taken is_ascii_digit rest; small = f; is = refl } in
    rw (e, f) (record { fits = (ends, inl spelled) }))
    (λ f. rw (e, f) fault))

hexadecimal_fits : (rest : Text) → get_or rest 0 0 ≡ dollar → IsFit rest (hexadecimal rest)
hexadecimal_fits rest first =
    let digits = drop 1 rest in
    let size = prefix_len is_ascii_hexdigit digits in
    let goal = IsFit rest (hexadecimal rest) in
    either (size == 0) goal
    (λ e. rw e fault)
    (λ e. either (nat_le size hexadecimal_digits) goal
    (λ f.
    let positive : 0 < size = grind (arith, nat_tests) in
    let within : 1 + size ≤ length rest = omega (arith, prefix_len-le-length is_ascii_hexdigit digits, length-drop 1 rest) in
    let passes = prefix_len_passes is_ascii_hexdigit digits (size - 1) 0 (omega arith) in
    let at : 1 + (size - 1) ≡ 1 + size - 1 = omega arith in
    let last : get_or digits (size - 1) 0 ≡ get_or rest (1 + size - 1) 0 = get_or-drop 1 rest (size - 1) 0 ∙ ap (λ i. get_or rest i 0) at in
    let ends : Ends rest (1 + size) = record { some = omega arith; within = within; whole = inl (hexdigit-ascii (get_or rest (1 + size - 1) 0) (rw last at passes)) } in
    let long : length (take (1 + size) rest) ≡ 1 + size = length-take-le (1 + size) rest within in
    let opens : get_or (take (1 + size) rest) 0 0 ≡ dollar = get_or-take (1 + size) rest 0 0 (omega arith) ∙ first in
    let written : drop 1 (take (1 + size) rest) ≡ take size digits = drop-take 1 size rest in
    let spelled : IsHexadecimal (cast_signed w64 (value 16 (take size digits))) (take (1 + size) rest) =
    record { some = omega (arith, long); few = grind (arith, nat_tests); opens = opens; digits = rw written (list_all-taken is_ascii_hexdigit digits); is = rw written refl } in
    rw (e, f) (record { fits = (ends, inr spelled) }))
    (λ f. rw (e, f) fault))

line_end_fits : (open_parentheses : ℕ) (rest : Text) → get_or rest 0 0 ≡ newline → IsFit rest (line_end open_parentheses rest)
line_end_fits open_parentheses rest first =
    let blanks = prefix_len is_blank (drop 1 rest) in
    let goal = IsFit rest (line_end open_parentheses rest) in
    either (get_or rest (1 + blanks) 0 == backslash) goal
    (λ e.
    let found : get_or rest (1 + blanks) 0 ≡ backslash = grind (arith, nat_tests) in
    rw e (record { fits = further rest blanks backslash found (lit< tt) (lit< tt) }))
    (λ e. either (open_parentheses == 0) goal
    (λ f. rw (e, f) (record { fits = (one rest newline first (lit< tt) (lit< tt), first_taken rest newline first (lit< tt)) }))
    (λ f. rw (e, f) (record { fits = one rest newline first (lit< tt) (lit< tt) })))

joined_fits : (rest : Text) → get_or rest 0 0 ≡ backslash → IsFit rest (joined rest)
joined_fits rest first =
    let blanks = prefix_len is_blank (drop 1 rest) in
    let goal = IsFit rest (joined rest) in
    either (length rest == 1 + blanks) goal
    (λ e.
    let size : length rest ≡ 1 + blanks = grind (arith, nat_tests) in
    let past : get_or rest (1 + blanks) 0 ≡ 0 = get_or_past rest (1 + blanks) 0 (omega arith) in
    rw e (record { fits = record { some = omega arith; within = omega arith; whole = inr (rw past (lit< tt)) } }))
    (λ e. either (get_or rest (1 + blanks) 0 == newline) goal
    (λ f.
    let found : get_or rest (1 + blanks) 0 ≡ newline = grind (arith, nat_tests) in
    rw (e, f) (record { fits = further rest blanks newline found (lit< tt) (lit< tt) }))
    (λ f. rw (e, f) fault))

line_comment_fits : (rest : Text) → get_or rest 0 0 ≡ hash → IsFit rest (Blank (position_or_len is_newline rest))
line_comment_fits rest first =
    let size = position_or_len is_newline rest in
    let there = inside rest 0 hash first (lit< tt) in
    let other : not (is_newline (get_or rest 0 0)) ≡ true = rw first refl in
    let some : 0 < size = taken (λ c. not (is_newline c)) rest (omega arith) other in
    let within : size ≤ length rest = prefix_len-le-length (λ c. not (is_newline c)) rest in
    let next : get_or rest size 0 < 128 = either (nat_lt size (length rest)) (get_or rest size 0 < 128)
    (λ e. let found : is_newline (get_or rest size 0) ≡ true = passes_at_first is_newline rest 0 (grind (arith, nat_tests)) in grind (arith, nat_tests))
    (λ e. let past : get_or rest size 0 ≡ 0 = get_or_past rest size 0 (grind (arith, nat_tests)) in omega arith) in
    record { fits = record { some = some; within = within; whole = inr next } }

-- the end of a word, after an opening one
word_ends : (word : Text) (from : ℕ) (rest : Text) (end : ℕ) → EndsAt word from (drop from rest) end → 0 < length word → get_or word (length word - 1) 0 < 128 → from ≤ length rest → Ends rest end
word_ends word from rest end is some ascii opens =
    let at = end - from - length word in
    let last : get_or (drop at (drop from rest)) (length word - 1) 0 ≡ get_or word (length word - 1) 0 = starts_with_at (drop at (drop from rest)) word (length word - 1) is.starts (omega arith) in
    let offset : from + (at + (length word - 1)) ≡ end - 1 = omega (arith, is.after) in
    let same : get_or (drop at (drop from rest)) (length word - 1) 0 ≡ get_or rest (end - 1) 0 =
    get_or-drop at (drop from rest) (length word - 1) 0 ∙ get_or-drop from rest (at + (length word - 1)) 0 ∙ ap (λ i. get_or rest i 0) offset in
    let ascii_last : get_or rest (end - 1) 0 < 128 = omega (arith, last, same) in
    record { some = omega (arith, is.after); within = omega (arith, is.within, length-drop from rest); whole = inl ascii_last }

comment_to_fits : (rest : Text) (end : Option ℕ) → ((size : ℕ) → end ≡ Some size → Ends rest size) → IsFit rest (comment_to end)
comment_to_fits rest None ends = fault
comment_to_fits rest (Some size) ends = record { fits = ends size refl }

block_comment_fits : (rest : Text) → get_or rest 1 0 ≡ star → IsFit rest (comment_to (through (codes "*/") 2 (drop 2 rest)))
block_comment_fits rest second =
    let two : 2 ≤ length rest = inside rest 1 star second (lit< tt) in
    comment_to_fits rest (through (codes "*/") 2 (drop 2 rest))
    (λ size is. word_ends (codes "*/") 2 rest size (through_found (codes "*/") 2 (drop 2 rest) size is) (lit< tt) (lit< tt) two)

nested_comment_fits : (rest : Text) → get_or rest 1 0 ≡ star → IsFit rest (comment_to (nested_end 0 2 (drop 2 rest)))
nested_comment_fits rest second =
    let two : 2 ≤ length rest = inside rest 1 star second (lit< tt) in
    comment_to_fits rest (nested_end 0 2 (drop 2 rest))
    (λ size is.
    let found = nested_found 0 2 (drop 2 rest) size is in
    let offset : 2 + (size - 2 - 1) ≡ size - 1 = omega (arith, found.after) in
    let last : get_or rest (size - 1) 0 ≡ right_bracket = ap (λ i. get_or rest i 0) (sym offset) ∙ sym (get_or-drop 2 rest (size - 2 - 1) 0) ∙ found.last in
    record { some = omega (arith, found.after); within = omega (arith, found.within, length-drop 2 rest); whole = inl (omega (arith, last)) })

-- a string between quotes
quoted : (quotes : ℕ) (rest : Text) (end : ℕ) → 0 < quotes → through (replicate quotes quote) quotes (drop quotes rest) ≡ Some end → quotes_of (take end rest) ≡ quotes → starts_with nat_eq rest (replicate quotes quote) ≡ true → EndsAt (replicate quotes quote) quotes (drop quotes rest) end → quotes ≤ length rest
    → IsQuoted (take end rest)
quoted quotes rest end positive found of opens is some =
    let size : length (replicate quotes quote) ≡ quotes = length-replicate quotes quote in
    let within : end ≤ length rest = omega (arith, is.within, length-drop quotes rest) in
    let long : length (take end rest) ≡ end = length-take-le end rest within in
    let at : quotes + (end - quotes - length (replicate quotes quote)) ≡ end - quotes = omega (arith, is.after) in
    let upto : end - quotes + quotes ≡ end = omega (arith, is.after) in
    let further_on : quotes + (end - quotes) ≡ end = omega (arith, is.after) in
    let opening : take quotes rest ≡ replicate quotes quote = ap (λ n. take n rest) (sym size) ∙ starts_with_take rest (replicate quotes quote) opens in
    let cut : drop quotes (take end rest) ≡ take (end - quotes) (drop quotes rest) = ap (λ n. drop quotes (take n rest)) (sym further_on) ∙ drop-take quotes (end - quotes) rest in
    let closing : take quotes (drop (end - quotes) rest) ≡ replicate quotes quote =
    ap (λ n. take n (drop (end - quotes) rest)) (sym size) ∙ ap (take (length (replicate quotes quote))) (ap (λ n. drop n rest) (sym at) ∙ sym (drop-drop (end - quotes - length (replicate quotes quote)) quotes rest))
    ∙ starts_with_take (drop (end - quotes - length (replicate quotes quote)) (drop quotes rest)) (replicate quotes quote) is.starts in
    record {
      long = rw (of, long) (omega (arith, is.after));
      opens = rw of (take-take quotes end rest (omega (arith, is.after)) ∙ opening);
      ends = rw (of, long) (ap (λ t. through (replicate quotes quote) quotes t) cut ∙ through_cut (replicate quotes quote) quotes (drop quotes rest) end (end - quotes) found (omega arith) (omega (arith, is.after)));
      closes = rw (of, long) (ap (λ n. drop (end - quotes) (take n rest)) (sym upto) ∙ drop-take (end - quotes) quotes rest ∙ closing);
    }

string_to_fits : (rest : Text) (end : Option ℕ) → ((size : ℕ) → end ≡ Some size → Ends rest size × IsQuoted (take size rest)) → IsFit rest (string_to end)
string_to_fits rest None ends = fault
string_to_fits rest (Some size) ends = record { fits = ends size refl }

pub three_quotes : (rest : Text) (size : ℕ) → starts_with nat_eq rest triple ≡ true → 3 ≤ size → quotes_of (take size rest) ≡ 3
three_quotes rest size is long = rw (take-take 3 size rest long, is) refl

pub one_quote : (rest : Text) (size : ℕ) → starts_with nat_eq rest triple ≡ false → quotes_of (take size rest) ≡ 1
one_quote rest size is =
    either (starts_with nat_eq (take size rest) triple) (quotes_of (take size rest) ≡ 1)
    (λ e.
    let long : 3 ≤ size = omega (arith, starts_with_long (take size rest) triple e, length-take size rest) in
    let same : starts_with nat_eq rest triple ≡ true = rw (take-take 3 size rest long) at e in
    absurd (cc (same, is)))
    (λ e. rw e refl)

string_fits : (rest : Text) → get_or rest 0 0 ≡ quote → IsFit rest (string rest)
string_fits rest first =
    let goal = IsFit rest (string rest) in
    let here = inside rest 0 quote first (lit< tt) in
    either (starts_with nat_eq rest triple) goal
    (λ e. rw e (string_to_fits rest (through triple 3 (drop 3 rest)) (λ size is.
    let found = through_found triple 3 (drop 3 rest) size is in
    let long = starts_with_long rest triple e in
    (word_ends triple 3 rest size found (lit< tt) (lit< tt) long, quoted 3 rest size (lit< tt) is (three_quotes rest size e (omega (arith, found.after))) e found long))))
    (λ e. rw e (string_to_fits rest (through (quote ∷ []) 1 (drop 1 rest)) (λ size is.
    let found = through_found (quote ∷ []) 1 (drop 1 rest) size is in
    let opens : rest ≡ (quote ∷ []) ++ drop 1 rest = sym (take-append-drop 1 rest) ∙ ap (λ t. t ++ drop 1 rest) (first_taken rest quote first (lit< tt)) in
    (word_ends (quote ∷ []) 1 rest size found (lit< tt) (lit< tt) here, quoted 1 rest size (lit< tt) is (one_quote rest size e) (starts_with_from rest (quote ∷ []) (drop 1 rest) opens) found here))))

punctuation_of_fits : (rest : Text) (found : Option TokenKind) → ((kind : TokenKind) → found ≡ Some kind → IsPunctuationAt kind rest) → IsFit rest (punctuation_of found)
punctuation_of_fits rest None is = fault
punctuation_of_fits rest (Some kind) is =
    let at = is kind refl in
    let long = starts_with_long rest (spelling kind) at.starts in
    let some : 0 < length (spelling kind) = grind (arith, nat_tests, at.ascii) in
    let low : get_or (spelling kind) (length (spelling kind) - 1) 0 < 128 = grind (arith, nat_tests, at.ascii) in
    let last = starts_with_at rest (spelling kind) (length (spelling kind) - 1) at.starts (omega arith) in
    record { fits = (record { some = some; within = long; whole = inl (rw last low) }, Spells-punctuation kind (take (length (spelling kind)) rest) at.punctuation (starts_with_take rest (spelling kind) at.starts)) }

punctuation_fits : (rest : Text) → IsFit rest (punctuation rest)
punctuation_fits rest = punctuation_of_fits rest (first_of (pairs ++ singles) rest) (first_of_punctuation rest)

blank_fits : (rest : Text) → 0 < length rest → is_blank (get_or rest 0 0) ≡ true → IsFit rest (Blank 1)
blank_fits rest some is = let low : get_or rest 0 0 < 128 = grind (arith, nat_tests) in record { fits = record { some = lit< tt; within = omega arith; whole = inl low } }

pub front_fits : (open_parentheses : ℕ) (rest : Text) → 0 < length rest → IsFit rest (front open_parentheses rest)
unfolding front
front_fits open_parentheses rest some =
    let first = get_or rest 0 0 in
    let second = get_or rest 1 0 in
    let goal = IsFit rest (front open_parentheses rest) in
    either (begins_name first) goal (λ e1. rw e1 (name rest some e1))
    (λ e1. either (is_ascii_digit first) goal (λ e2. rw (e1, e2) (decimal_fits rest some e2))
    (λ e2. either (is_blank first) goal (λ e3. rw (e1, e2, e3) (blank_fits rest some e3))
    (λ e3. either (first == newline) goal (λ e4. rw (e1, e2, e3, e4) (line_end_fits open_parentheses rest (grind (arith, nat_tests))))
    (λ e4. either (first == backslash) goal (λ e5. rw (e1, e2, e3, e4, e5) (joined_fits rest (grind (arith, nat_tests))))
    (λ e5. either (first == hash) goal (λ e6. rw (e1, e2, e3, e4, e5, e6) (line_comment_fits rest (grind (arith, nat_tests))))
    (λ e6. either (first == slash && second == star) goal (λ e7. rw (e1, e2, e3, e4, e5, e6, e7) (block_comment_fits rest (grind (arith, nat_tests))))
    (λ e7. either (first == left_bracket && second == star) goal (λ e8. rw (e1, e2, e3, e4, e5, e6, e7, e8) (nested_comment_fits rest (grind (arith, nat_tests))))
    (λ e8. either (first == quote) goal (λ e9. rw (e1, e2, e3, e4, e5, e6, e7, e8, e9) (string_fits rest (grind (arith, nat_tests))))
    (λ e9. either (first == dollar) goal (λ e10. rw (e1, e2, e3, e4, e5, e6, e7, e8, e9, e10) (hexadecimal_fits rest (grind (arith, nat_tests))))
    (λ e10. either (first == dot && is_ascii_digit second) goal (λ e11. rw (e1, e2, e3, e4, e5, e6, e7, e8, e9, e10, e11) fault)
    (λ e11. rw (e1, e2, e3, e4, e5, e6, e7, e8, e9, e10, e11) (punctuation_fits rest))))))))))))

pub piece_fits : (begins_line : Bool) (open_parentheses : ℕ) (rest : Text) → IsFit rest (piece begins_line open_parentheses rest)
piece_fits begins_line open_parentheses rest =
    either (length rest == 0 || (begins_line && is_end_line rest)) (IsFit rest (piece begins_line open_parentheses rest))
    (λ e. rw e (record { fits = tt }))
    (λ e. let some : 0 < length rest = grind (arith, nat_tests) in rw e (front_fits open_parentheses rest some))

within_fit : (rest : Text) (p : Piece) → IsFit rest p → IsWithin rest p
within_fit rest (Blank size) fit = (fit.fits.some, fit.fits.within)
within_fit rest (One kind size) fit = (fit.fits.0.some, fit.fits.0.within)
within_fit rest EndOfScript fit = tt
within_fit rest (Fault kind) fit = tt

pub front_within : (open_parentheses : ℕ) (rest : Text) → 0 < length rest → IsWithin rest (front open_parentheses rest)
front_within open_parentheses rest some = within_fit rest (front open_parentheses rest) (front_fits open_parentheses rest some)

pub piece_within : (begins_line : Bool) (open_parentheses : ℕ) (rest : Text) → IsWithin rest (piece begins_line open_parentheses rest)
piece_within begins_line open_parentheses rest = within_fit rest (piece begins_line open_parentheses rest) (piece_fits begins_line open_parentheses rest)
