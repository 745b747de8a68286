-- What a text begins with where it has a fault.
use Rattle.std.proofs.Common.{◌≡◌, ◌≢◌, ◌∙◌, ◌⊎◌, inl, inr, ℕ, zero, suc, ◌+◌, ◌<◌, ◌≤◌, ◌^◌, ap, sym, subst, refl, arith, [], ◌∷◌, ◌++◌, length, take, drop, get_or, Bool, true, false, ◌&&◌, ◌==◌, nat_eq, nat_le, nat_lt, Option, Some, None, codes, lit<, pos, length-take-le, if◌then◌else◌}
use Rattle.std.specs.List.{starts_with, prefix_len}
use Rattle.std.specs.Char.{is_ascii_digit, is_ascii_hexdigit}
use Rattle.std.proofs.lemmas.Bool.Decides.{nat_tests}
use Rattle.std.proofs.lemmas.List.{take-append-drop, drop_more, get_or-drop, get_or_past}
use Rattle.std.proofs.lemmas.List.Sums.{prefix_len-le-length, prefix_len_stops}
use Rattle.avs_lex.specs.declared.piece.Piece.{Piece}
use Rattle.avs_lex.specs.declared.piece.Piece.TheVariants.{Blank, One, EndOfScript, Fault}
use Rattle.avs_lex.specs.declared.fault.LexKind.TheVariants.{FloatLiteral, IntRange, OpenString, OpenComment, BadChar}
use Rattle.avs_lex.specs.declared.token.TokenKind.{TokenKind}
use Rattle.avs_lex.specs.Spelling.{Text, newline, quote, hash, dollar, star, dot, slash, left_bracket, backslash, is_blank, begins_name, is_number, hexadecimal_digits, pairs, singles, first_of, through, value, triple}
use Rattle.avs_lex.specs.Piece.{front, decimal, hexadecimal, string, string_to, comment_to, nested_end, line_end, joined, punctuation_of}
use Rattle.avs_lex.proofs.TestLemmas.{either, by_test}
use Rattle.avs_lex.proofs.NumberLemmas.{list_all-taken}
use Rattle.avs_lex.proofs.WordLemmas.{starts_with_is}
use Rattle.avs_lex.proofs.FitLemmas.{inside}
use Rattle.avs_lex.proofs.NestedLemmas.{nested_comment_ends}
use Rattle.lex_laws.specs.Faults.{Lacks, IsFloat, IsLargeDecimal, IsLongHexadecimal, IsOpenString, of_three, of_one, IsOpenComment, block, nested}

-- what the front of a text says of a fault
abbrev pub Tells : Text → Piece → Type 0
Tells rest (Blank size) = Unit {0}
Tells rest (One kind size) = Unit {0}
Tells rest EndOfScript = Unit {0}
Tells rest (Fault FloatLiteral) = IsFloat rest
Tells rest (Fault IntRange) = IsLargeDecimal rest ⊎ IsLongHexadecimal rest
Tells rest (Fault OpenString) = IsOpenString rest
Tells rest (Fault OpenComment) = IsOpenComment rest
Tells rest (Fault BadChar) = get_or rest 0 0 ≢ quote

pub record IsTold (rest : Text) (piece : Piece) : Type 0 where
  pub tells : Tells rest piece

-- a word that is not found is nowhere
through_none : (word : Text) (n c : ℕ) (text : Text) → through word n (c ∷ text) ≡ None → (starts_with nat_eq (c ∷ text) word ≡ false) × (through word (n + 1) text ≡ None)
through_none word n c text is =
    by_test (starts_with nat_eq (c ∷ text) word)
    (λ b. (if b then Some (n + length word) else through word (n + 1) text) ≡ None → (b ≡ false) × (through word (n + 1) text ≡ None))
    (λ _ is. cc)
    (λ _ is. (refl, is)) is

pub none_lacks : (word : Text) (n : ℕ) (text : Text) → starts_with nat_eq [] word ≡ false → through word n text ≡ None → Lacks text word
none_lacks word n [] never is zero = never
none_lacks word n [] never is (suc k) = never
none_lacks word n (c ∷ text) never is zero = (through_none word n c text is).0
none_lacks word n (c ∷ text) never is (suc k) = none_lacks word (n + 1) text never (through_none word n c text is).1 k

pub drop_first : (n : ℕ) (text : Text) → get_or (drop n text) 0 0 ≡ get_or text n 0
drop_first n text = let e : n + 0 ≡ n = omega arith in get_or-drop n text 0 0 ∙ ap (λ i. get_or text i 0) e

-- where a run stops, its test fails
stops : (p : ℕ → Bool) (rest : Text) → p 0 ≡ false → p (get_or rest (prefix_len p rest) 0) ≡ false
stops p rest never =
    let size = prefix_len p rest in
    either (nat_lt size (length rest)) (p (get_or rest size 0) ≡ false)
    (λ e. prefix_len_stops p rest 0 (grind (arith, nat_tests)))
    (λ e. let past : get_or rest size 0 ≡ 0 = get_or_past rest size 0 (grind (arith, nat_tests)) in rw past never)

some_digit : (rest : Text) → is_ascii_digit (get_or rest 0 0) ≡ true → 0 < prefix_len is_ascii_digit rest
some_digit [] first = cc
some_digit (c ∷ rest) first = rw first (omega arith)

decimal_tells : (rest : Text) → is_ascii_digit (get_or rest 0 0) ≡ true → IsTold rest (decimal rest)
decimal_tells rest first =
    let size = prefix_len is_ascii_digit rest in
    let goal = IsTold rest (decimal rest) in
    let all = list_all-taken is_ascii_digit rest in
    let split = take-append-drop size rest in
    either (get_or rest size 0 == dot) goal
    (λ e.
    let found : get_or rest size 0 ≡ dot = grind (arith, nat_tests) in
    let next : drop size rest ≡ dot ∷ drop (size + 1) rest = drop_more rest size 0 (inside rest size dot found (lit< tt)) ∙ ap (λ c. c ∷ drop (size + 1) rest) found in
    let is : rest ≡ take size rest ++ dot ∷ drop (size + 1) rest = sym split ∙ ap (λ u. take size rest ++ u) next in
    let some : 0 < length (take size rest) = omega (arith, length-take-le size rest (prefix_len-le-length is_ascii_digit rest), some_digit rest first) in
    rw e (record { tells = record { digits = take size rest; after = drop (size + 1) rest; is = is; all = all; some = inl some } }))
    (λ e. either (is_number (pos (value 10 (take size rest)))) goal
    (λ f. rw (e, f) (record { tells = tt }))
    (λ f.
    let large : 2 ^ 63 ≤ value 10 (take size rest) = grind (arith, nat_tests) in
    let whole : is_ascii_digit (get_or (drop size rest) 0 0) ≡ false = rw (drop_first size rest) (stops is_ascii_digit rest refl) in
    let no_dot : get_or (drop size rest) 0 0 ≢ dot = λ d. let there : get_or rest size 0 ≡ dot = sym (drop_first size rest) ∙ d in grind (arith, nat_tests) in
    rw (e, f) (record { tells = inl (record { digits = take size rest; after = drop size rest; is = sym split; all = all; large = large; whole = whole; no_dot = no_dot }) })))

hexadecimal_tells : (t : Text) → IsTold (dollar ∷ t) (hexadecimal (dollar ∷ t))
hexadecimal_tells t =
    let size = prefix_len is_ascii_hexdigit t in
    let goal = IsTold (dollar ∷ t) (hexadecimal (dollar ∷ t)) in
    either (size == 0) goal
    (λ e. rw e (record { tells = λ (is : dollar ≡ quote). absurd (cc (is)) }))
    (λ e. either (nat_le size hexadecimal_digits) goal
    (λ f. rw (e, f) (record { tells = tt }))
    (λ f.
    let long : hexadecimal_digits < length (take size t) = grind (arith, nat_tests, length-take-le size t (prefix_len-le-length is_ascii_hexdigit t)) in
    let is : dollar ∷ t ≡ dollar ∷ (take size t ++ drop size t) = ap (λ u. dollar ∷ u) (sym (take-append-drop size t)) in
    rw (e, f) (record { tells = inr (record { digits = take size t; after = drop size t; is = is; all = list_all-taken is_ascii_hexdigit t; long = long }) })))

hexadecimal_here : (rest : Text) → get_or rest 0 0 ≡ dollar → IsTold rest (hexadecimal rest)
hexadecimal_here [] first = cc
hexadecimal_here (c ∷ t) first = rw first (hexadecimal_tells t)

string_to_tells : (rest : Text) (end : Option ℕ) → (end ≡ None → IsOpenString rest) → IsTold rest (string_to end)
string_to_tells rest None open_ = record { tells = open_ refl }
string_to_tells rest (Some size) open_ = record { tells = tt }

first_and_rest : (rest : Text) (c : ℕ) → get_or rest 0 0 ≡ c → 0 < c → rest ≡ c ∷ drop 1 rest
first_and_rest [] c first some = absurd (omega arith)
first_and_rest (d ∷ rest) c first some = ap (λ c. c ∷ rest) first

string_here : (rest : Text) → get_or rest 0 0 ≡ quote → IsTold rest (string rest)
string_here rest first =
    either (starts_with nat_eq rest triple) (IsTold rest (string rest))
    (λ e. rw e (string_to_tells rest (through triple 3 (drop 3 rest)) (λ is.
    subst IsOpenString (sym (starts_with_is rest triple e)) (of_three (drop 3 rest) (none_lacks triple 3 (drop 3 rest) refl is)))))
    (λ e. rw e (string_to_tells rest (through (quote ∷ []) 1 (drop 1 rest)) (λ is.
    subst IsOpenString (sym (first_and_rest rest quote first (lit< tt))) (of_one (drop 1 rest) (none_lacks (quote ∷ []) 1 (drop 1 rest) refl is)))))

comment_to_tells : (rest : Text) (end : Option ℕ) → (end ≡ None → IsOpenComment rest) → IsTold rest (comment_to end)
comment_to_tells rest None open_ = record { tells = open_ refl }
comment_to_tells rest (Some size) open_ = record { tells = tt }

block_here : (rest : Text) → get_or rest 0 0 ≡ slash → get_or rest 1 0 ≡ star → IsTold rest (comment_to (through (codes "*/") 2 (drop 2 rest)))
block_here [] first second = cc
block_here (c ∷ []) first second = cc
block_here (c ∷ d ∷ t) first second =
    rw (first, second) (comment_to_tells (slash ∷ star ∷ t) (through (codes "*/") 2 t) (λ is. block t (none_lacks (codes "*/") 2 t refl is)))

no_comment : (t : Text) (size : ℕ) → nested_end 0 2 t ≡ None → nested_end 0 2 t ≡ Some size → ⊥
no_comment t size is found = cc

nested_here : (rest : Text) → get_or rest 0 0 ≡ left_bracket → get_or rest 1 0 ≡ star → IsTold rest (comment_to (nested_end 0 2 (drop 2 rest)))
nested_here [] first second = cc
nested_here (c ∷ []) first second = cc
nested_here (c ∷ d ∷ t) first second =
    rw (first, second) (comment_to_tells (left_bracket ∷ star ∷ t) (nested_end 0 2 t) (λ is. nested t (λ size h. no_comment t size is ((nested_comment_ends t size).1 h))))

line_end_tells : (open_parentheses : ℕ) (rest : Text) → IsTold rest (line_end open_parentheses rest)
line_end_tells open_parentheses rest =
    let blanks = prefix_len is_blank (drop 1 rest) in
    let goal = IsTold rest (line_end open_parentheses rest) in
    either (get_or rest (1 + blanks) 0 == backslash) goal
    (λ e. rw e (record { tells = tt }))
    (λ e. either (open_parentheses == 0) goal (λ f. rw (e, f) (record { tells = tt })) (λ f. rw (e, f) (record { tells = tt })))

joined_tells : (rest : Text) → get_or rest 0 0 ≡ backslash → IsTold rest (joined rest)
joined_tells rest first =
    let blanks = prefix_len is_blank (drop 1 rest) in
    let goal = IsTold rest (joined rest) in
    either (length rest == 1 + blanks) goal
    (λ e. rw e (record { tells = tt }))
    (λ e. either (get_or rest (1 + blanks) 0 == newline) goal
    (λ f. rw (e, f) (record { tells = tt }))
    (λ f. rw (e, f) (record { tells = λ (is : get_or rest 0 0 ≡ quote). let same : backslash ≡ quote = sym first ∙ is in absurd (cc (same)) })))

punctuation_tells : (rest : Text) (found : Option TokenKind) → get_or rest 0 0 ≢ quote → IsTold rest (punctuation_of found)
punctuation_tells rest None other = record { tells = other }
punctuation_tells rest (Some kind) other = record { tells = tt }

float_here : (rest : Text) → get_or rest 0 0 ≡ dot → is_ascii_digit (get_or rest 1 0) ≡ true → IsTold rest (Fault FloatLiteral)
float_here [] first second = cc
float_here (c ∷ t) first second = record { tells = record { digits = []; after = t; is = ap (λ c. c ∷ t) first; all = refl; some = inr second } }

pub front_tells : (open_parentheses : ℕ) (rest : Text) → IsTold rest (front open_parentheses rest)
unfolding front
front_tells open_parentheses rest =
    let first = get_or rest 0 0 in
    let second = get_or rest 1 0 in
    let goal = IsTold rest (front open_parentheses rest) in
    either (begins_name first) goal (λ e1. rw e1 (record { tells = tt }))
    (λ e1. either (is_ascii_digit first) goal (λ e2. rw (e1, e2) (decimal_tells rest e2))
    (λ e2. either (is_blank first) goal (λ e3. rw (e1, e2, e3) (record { tells = tt }))
    (λ e3. either (first == newline) goal (λ e4. rw (e1, e2, e3, e4) (line_end_tells open_parentheses rest))
    (λ e4. either (first == backslash) goal (λ e5. rw (e1, e2, e3, e4, e5) (joined_tells rest (grind (arith, nat_tests))))
    (λ e5. either (first == hash) goal (λ e6. rw (e1, e2, e3, e4, e5, e6) (record { tells = tt }))
    (λ e6. either (first == slash && second == star) goal
    (λ e7. rw (e1, e2, e3, e4, e5, e6, e7) (block_here rest (grind (arith, nat_tests)) (grind (arith, nat_tests))))
    (λ e7. either (first == left_bracket && second == star) goal
    (λ e8. rw (e1, e2, e3, e4, e5, e6, e7, e8) (nested_here rest (grind (arith, nat_tests)) (grind (arith, nat_tests))))
    (λ e8. either (first == quote) goal (λ e9. rw (e1, e2, e3, e4, e5, e6, e7, e8, e9) (string_here rest (grind (arith, nat_tests))))
    (λ e9. either (first == dollar) goal (λ e10. rw (e1, e2, e3, e4, e5, e6, e7, e8, e9, e10) (hexadecimal_here rest (grind (arith, nat_tests))))
    (λ e10. either (first == dot && is_ascii_digit second) goal
    (λ e11. rw (e1, e2, e3, e4, e5, e6, e7, e8, e9, e10, e11) (float_here rest (grind (arith, nat_tests)) (grind (arith, nat_tests))))
    (λ e11.
    let other : first ≢ quote = λ is. grind (arith, nat_tests) in
    rw (e1, e2, e3, e4, e5, e6, e7, e8, e9, e10, e11) (punctuation_tells rest (first_of (pairs ++ singles) rest) other))))))))))))
