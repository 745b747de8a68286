-- The case of letters changes no piece.
use Rattle.std.proofs.Common.{◌≡◌, ◌∙◌, ◌⊎◌, inl, inr, ℕ, zero, suc, ◌+◌, ◌-◌, ◌*◌, ◌≤◌, ap, sym, refl, arith, [], ◌∷◌, ◌++◌, map, length, take, drop, get_or, Bool, true, false, not, ◌&&◌, ◌==◌, nat_eq, nat_le, nat_lt, fold, codes, cond}
use Rattle.std.specs.List.{list_all, starts_with, prefix_len}
use Rattle.std.specs.Cmp.Lexicographic.{pointwise}
use Rattle.std.specs.Char.{is_ascii_digit, is_ascii_hexdigit, is_ascii_alphabetic, to_ascii_lowercase, digit_value}
use Rattle.std.proofs.lemmas.Bool.Decides.{nat_tests}
use Rattle.std.proofs.lemmas.List.{take-map, drop-map, length-map}
use Rattle.avs_lex.specs.declared.piece.Piece.TheVariants.{Blank, One}
use Rattle.avs_lex.specs.declared.token.TokenKind.TheVariants as k
use Rattle.avs_lex.specs.Spelling.{Text, newline, quote, hash, dollar, star, dot, slash, left_bracket, right_bracket, backslash, is_newline, is_blank, begins_name, continues_name, pairs, singles, spelling, through, value, triple}
use Rattle.avs_lex.specs.Piece.{front, decimal, hexadecimal, string, string_to, comment_to, nested_end, line_end, joined, punctuation, punctuation_of}
use Rattle.avs_lex.proofs.TestLemmas.{either}
use Rattle.lex_laws.proofs.SameLemmas.{both_same, choice_same, find_same}

-- ---- characters

-- a letter in lower case, and any other character as it is
pub low : ℕ → ℕ
low c = to_ascii_lowercase c

pub low_text : (text : Text) → map low text ≡ map to_ascii_lowercase text
unfolding low
low_text text = refl

low_zero : low 0 ≡ 0
unfolding low
low_zero = refl

-- a large letter
record IsLarge (c : ℕ) : Type 0 where
  from : 65 ≤ c
  to : c ≤ 90
  is : low c ≡ c + 32

low_is : (c : ℕ) → (low c ≡ c) ⊎ IsLarge c
unfolding low
low_is c =
    either (nat_lt c 65) ((low c ≡ c) ⊎ IsLarge c) (λ e. inl (rw e refl))
    (λ e. either (nat_lt c 91) ((low c ≡ c) ⊎ IsLarge c)
    (λ f. inr (record { from = grind (arith, nat_tests); to = grind (arith, nat_tests); is = rw (e, f) refl }))
    (λ f. inl (rw (e, f) refl)))

-- what is the same for a large letter and its small one is the same for any character in lower case
same_low : {X : Type 0} (p : ℕ → X) → ((c : ℕ) → 65 ≤ c → c ≤ 90 → p (c + 32) ≡ p c) → (c : ℕ) → p (low c) ≡ p c
same_low p large c = elim (low_is c) as (λ _. p (low c) ≡ p c) [
  | inl is ↦ ap p is
  | inr is ↦ ap p is.is ∙ large c is.from is.to
]

begins_low : (c : ℕ) → begins_name (low c) ≡ begins_name c
begins_low = same_low begins_name (λ c from to. let a : begins_name (c + 32) ≡ true = grind (arith, nat_tests) in let b : begins_name c ≡ true = grind (arith, nat_tests) in a ∙ sym b)

continues_low : (c : ℕ) → continues_name (low c) ≡ continues_name c
continues_low = same_low continues_name (λ c from to. let a : continues_name (c + 32) ≡ true = grind (arith, nat_tests) in let b : continues_name c ≡ true = grind (arith, nat_tests) in a ∙ sym b)

digit_low : (c : ℕ) → is_ascii_digit (low c) ≡ is_ascii_digit c
digit_low = same_low is_ascii_digit (λ c from to. let a : is_ascii_digit (c + 32) ≡ false = grind (arith, nat_tests) in let b : is_ascii_digit c ≡ false = grind (arith, nat_tests) in a ∙ sym b)

hexdigit_large : (c : ℕ) → 65 ≤ c → c ≤ 90 → is_ascii_hexdigit (c + 32) ≡ is_ascii_hexdigit c
hexdigit_large c from to = either (nat_le c 70) (is_ascii_hexdigit (c + 32) ≡ is_ascii_hexdigit c)
    (λ e. let a : is_ascii_hexdigit (c + 32) ≡ true = grind (arith, nat_tests) in let b : is_ascii_hexdigit c ≡ true = grind (arith, nat_tests) in a ∙ sym b)
    (λ e. let a : is_ascii_hexdigit (c + 32) ≡ false = grind (arith, nat_tests) in let b : is_ascii_hexdigit c ≡ false = grind (arith, nat_tests) in a ∙ sym b)

hexdigit_low : (c : ℕ) → is_ascii_hexdigit (low c) ≡ is_ascii_hexdigit c
hexdigit_low = same_low is_ascii_hexdigit hexdigit_large

pub blank_low : (c : ℕ) → is_blank (low c) ≡ is_blank c
blank_low = same_low is_blank (λ c from to. let a : is_blank (c + 32) ≡ false = grind (arith, nat_tests) in let b : is_blank c ≡ false = grind (arith, nat_tests) in a ∙ sym b)

value_large : (c : ℕ) → 65 ≤ c → c ≤ 90 → digit_value (c + 32) ≡ digit_value c
value_large c from to =
    let t1 : nat_lt (c + 32) 97 ≡ false = grind (arith, nat_tests) in
    let t2 : nat_lt (c + 32) 123 ≡ true = grind (arith, nat_tests) in
    let t3 : nat_lt (c + 32) 48 ≡ false = grind (arith, nat_tests) in
    let t4 : nat_lt (c + 32) 58 ≡ false = grind (arith, nat_tests) in
    let t5 : nat_lt (c + 32) 65 ≡ false = grind (arith, nat_tests) in
    let t6 : nat_lt (c + 32) 91 ≡ false = grind (arith, nat_tests) in
    let s1 : nat_lt c 48 ≡ false = grind (arith, nat_tests) in
    let s2 : nat_lt c 58 ≡ false = grind (arith, nat_tests) in
    let s3 : nat_lt c 65 ≡ false = grind (arith, nat_tests) in
    let s4 : nat_lt c 91 ≡ true = grind (arith, nat_tests) in
    let one : digit_value (c + 32) ≡ c + 32 - 87 = rw (t1, t2, t3, t4, t5, t6) refl in
    let other : digit_value c ≡ c - 55 = rw (s1, s2, s3, s4) refl in
    let sub : c + 32 - 87 ≡ c - 55 = omega (arith, from) in
    one ∙ sub ∙ sym other

value_low : (c : ℕ) → digit_value (low c) ≡ digit_value c
value_low = same_low digit_value value_large

-- a character that is no letter is met where it was

is_low : (k : ℕ) → is_ascii_alphabetic k ≡ false → (c : ℕ) → (low c == k) ≡ (c == k)
is_low k other = same_low (λ c. c == k) (λ c from to. let a : (c + 32 == k) ≡ false = grind (arith, nat_tests) in let b : (c == k) ≡ false = grind (arith, nat_tests) in a ∙ sym b)

pub meets_low : (k : ℕ) → is_ascii_alphabetic k ≡ false → (c : ℕ) → nat_eq k (low c) ≡ nat_eq k c
meets_low k other = same_low (λ c. nat_eq k c) (λ c from to. let a : nat_eq k (c + 32) ≡ false = grind (arith, nat_tests) in let b : nat_eq k c ≡ false = grind (arith, nat_tests) in a ∙ sym b)

-- ---- texts

pub runs : (p : ℕ → Bool) → ((c : ℕ) → p (low c) ≡ p c) → (text : Text) → prefix_len p (map low text) ≡ prefix_len p text
runs p each [] = refl
runs p each (c ∷ text) = rw (each c, runs p each text) refl

at_low : (text : Text) (i : ℕ) → get_or (map low text) i 0 ≡ low (get_or text i 0)
at_low [] i = sym low_zero
at_low (c ∷ text) zero = refl
at_low (c ∷ text) (suc i) = at_low text i

test_at : (p : ℕ → Bool) → ((c : ℕ) → p (low c) ≡ p c) → (text : Text) (i : ℕ) → p (get_or (map low text) i 0) ≡ p (get_or text i 0)
test_at p each text i = ap p (at_low text i) ∙ each (get_or text i 0)

pub count_low : (p : ℕ → Bool) → ((c : ℕ) → p (low c) ≡ p c) → (n : ℕ) (text : Text) → fold (λ a c. a + cond (p c) 1 0) n (map low text) ≡ fold (λ a c. a + cond (p c) 1 0) n text
count_low p each n [] = refl
count_low p each n (c ∷ text) = ap (λ m. fold (λ a c. a + cond (p c) 1 0) m (map low text)) (ap (λ b. n + cond b 1 0) (each c)) ∙ count_low p each (n + cond (p c) 1 0) text

value_of_low : (base n : ℕ) (digits : Text) → fold (λ n c. base * n + digit_value c) n (map low digits) ≡ fold (λ n c. base * n + digit_value c) n digits
value_of_low base n [] = refl
value_of_low base n (c ∷ digits) = ap (λ m. fold (λ n c. base * n + digit_value c) m (map low digits)) (ap (λ v. base * n + v) (value_low c)) ∙ value_of_low base (base * n + digit_value c) digits

-- a word without letters
abbrev pub no_letters : Text → Bool
no_letters word = list_all (λ c. not (is_ascii_alphabetic c)) word

word_low : (word text : Text) → no_letters word ≡ true → pointwise nat_eq word (take (length word) (map low text)) ≡ pointwise nat_eq word (take (length word) text)
word_low [] text plain = refl
word_low (w ∷ word) [] plain = refl
word_low (w ∷ word) (c ∷ text) plain =
    let here : is_ascii_alphabetic w ≡ false = first_plain w word plain in
    let later : no_letters word ≡ true = grind arith in
    both_same (nat_eq w (low c)) (nat_eq w c) (pointwise nat_eq word (take (length word) (map low text))) (pointwise nat_eq word (take (length word) text)) (meets_low w here c) (word_low word text later)
  where
    first_plain : (w : ℕ) (word : Text) → no_letters (w ∷ word) ≡ true → is_ascii_alphabetic w ≡ false
    first_plain w word plain = either (is_ascii_alphabetic w) (is_ascii_alphabetic w ≡ false) (λ e. let other : false ≡ true = rw e at plain in absurd (cc (other))) (λ e. e)

pub starts_low : (word text : Text) → no_letters word ≡ true → starts_with nat_eq (map low text) word ≡ starts_with nat_eq text word
starts_low word text plain = word_low word text plain

through_low : (word : Text) (n : ℕ) (text : Text) → no_letters word ≡ true → through word n (map low text) ≡ through word n text
through_low word n [] plain = refl
through_low word n (c ∷ text) plain = rw (starts_low word (c ∷ text) plain, through_low word (n + 1) text plain) refl

pair_low : (k d c e : ℕ) → is_ascii_alphabetic k ≡ false → is_ascii_alphabetic d ≡ false → (low c == k && low e == d) ≡ (c == k && e == d)
pair_low k d c e one other = both_same (low c == k) (c == k) (low e == d) (e == d) (is_low k one c) (is_low d other e)

nested_low : (inner n : ℕ) (text : Text) → nested_end inner n (map low text) ≡ nested_end inner n text
nested_low inner n [] = refl
nested_low inner n (c ∷ []) = refl
nested_low inner n (c ∷ d ∷ text) =
    choice_same (low c == left_bracket && low d == star) (c == left_bracket && d == star) _ _ _ _ (pair_low left_bracket star c d refl refl) (nested_low (inner + 1) (n + 2) text)
    (choice_same (low c == star && low d == right_bracket) (c == star && d == right_bracket) _ _ _ _ (pair_low star right_bracket c d refl refl)
    (choice_same (inner == 0) (inner == 0) _ _ _ _ refl refl (nested_low (inner - 1) (n + 2) text))
    (nested_low inner (n + 1) (d ∷ text)))

-- ---- pieces

pub newline_low : (c : ℕ) → is_newline (low c) ≡ is_newline c
newline_low c = is_low newline refl c

other_low : (c : ℕ) → not (is_newline (low c)) ≡ not (is_newline c)
other_low c = ap not (newline_low c)

pub is_at : (k : ℕ) → is_ascii_alphabetic k ≡ false → (text : Text) (i : ℕ) → (get_or (map low text) i 0 == k) ≡ (get_or text i 0 == k)
is_at k plain text i = test_at (λ c. c == k) (is_low k plain) text i

decimal_low : (text : Text) → decimal (map low text) ≡ decimal text
decimal_low text =
    let size = prefix_len is_ascii_digit text in
    let digits : value 10 (take size (map low text)) ≡ value 10 (take size text) = ap (value 10) (take-map low size text) ∙ value_of_low 10 0 (take size text) in
    rw (runs is_ascii_digit digit_low text, is_at dot refl text size, digits) refl

hexadecimal_low : (text : Text) → hexadecimal (map low text) ≡ hexadecimal text
hexadecimal_low text =
    let rest = drop 1 text in
    let size = prefix_len is_ascii_hexdigit rest in
    let digits : value 16 (take size (map low rest)) ≡ value 16 (take size rest) = ap (value 16) (take-map low size rest) ∙ value_of_low 16 0 (take size rest) in
    rw (drop-map low 1 text, runs is_ascii_hexdigit hexdigit_low rest, digits) refl

line_end_low : (n : ℕ) (text : Text) → line_end n (map low text) ≡ line_end n text
line_end_low n text =
    let blanks = prefix_len is_blank (drop 1 text) in
    rw (drop-map low 1 text, runs is_blank blank_low (drop 1 text), is_at backslash refl text (1 + blanks)) refl

joined_low : (text : Text) → joined (map low text) ≡ joined text
joined_low text =
    let blanks = prefix_len is_blank (drop 1 text) in
    rw (drop-map low 1 text, runs is_blank blank_low (drop 1 text), length-map text low, is_at newline refl text (1 + blanks)) refl

string_low : (text : Text) → string (map low text) ≡ string text
string_low text =
    choice_same (starts_with nat_eq (map low text) triple) (starts_with nat_eq text triple) _ _ _ _ (starts_low triple text refl)
    (ap string_to (ap (through triple 3) (drop-map low 3 text) ∙ through_low triple 3 (drop 3 text) refl))
    (ap string_to (ap (through (quote ∷ []) 1) (drop-map low 1 text) ∙ through_low (quote ∷ []) 1 (drop 1 text) refl))

punctuation_low : (text : Text) → punctuation (map low text) ≡ punctuation text
punctuation_low text = ap punctuation_of (find_same (λ kind. starts_with nat_eq (map low text) (spelling kind)) (λ kind. starts_with nat_eq text (spelling kind)) (λ kind. no_letters (spelling kind)) (pairs ++ singles) (λ kind plain. starts_low (spelling kind) text plain) refl)

pub front_low : (n : ℕ) (text : Text) → front n (map low text) ≡ front n text
unfolding front
front_low n text =
    let slashes = both_same _ _ _ _ (is_at slash refl text 0) (is_at star refl text 1) in
    let brackets = both_same _ _ _ _ (is_at left_bracket refl text 0) (is_at star refl text 1) in
    let dots = both_same _ _ _ _ (is_at dot refl text 0) (test_at is_ascii_digit digit_low text 1) in
    choice_same _ _ _ _ _ _ (test_at begins_name begins_low text 0) (ap (One k.Ident) (runs continues_name continues_low text))
    (choice_same _ _ _ _ _ _ (test_at is_ascii_digit digit_low text 0) (decimal_low text)
    (choice_same _ _ _ _ _ _ (test_at is_blank blank_low text 0) refl
    (choice_same _ _ _ _ _ _ (is_at newline refl text 0) (line_end_low n text)
    (choice_same _ _ _ _ _ _ (is_at backslash refl text 0) (joined_low text)
    (choice_same _ _ _ _ _ _ (is_at hash refl text 0) (ap Blank (runs (λ c. not (is_newline c)) other_low text))
    (choice_same _ _ _ _ _ _ slashes (ap comment_to (ap (through (codes "*/") 2) (drop-map low 2 text) ∙ through_low (codes "*/") 2 (drop 2 text) refl))
    (choice_same _ _ _ _ _ _ brackets (ap comment_to (ap (nested_end 0 2) (drop-map low 2 text) ∙ nested_low 0 2 (drop 2 text)))
    (choice_same _ _ _ _ _ _ (is_at quote refl text 0) (string_low text)
    (choice_same _ _ _ _ _ _ (is_at dollar refl text 0) (hexadecimal_low text)
    (choice_same _ _ _ _ _ _ dots refl (punctuation_low text)))))))))))
