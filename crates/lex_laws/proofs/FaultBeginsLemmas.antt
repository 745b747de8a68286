-- Where a fault begins, the text can't be read on.
use Rattle.std.proofs.Common.{◌≡◌, ◌≢◌, ◌∙◌, ◌⊎◌, inl, inr, ℕ, suc, ◌+◌, ◌<◌, ◌≤◌, ◌^◌, ap, sym, subst, refl, arith, List, [], ◌∷◌, ◌++◌, length, take, drop, get_or, Bool, true, false, ◌&&◌, ◌==◌, nat_eq, nat_le, Option, Some, None, codes, lit<, pos, length-append, lit≤, append_assoc}
use Rattle.std.specs.List.{list_all, starts_with, prefix_len}
use Rattle.std.specs.Char.{is_ascii_digit, is_ascii_hexdigit}
use Rattle.std.specs.Int.{cast_signed, w64}
use Rattle.std.proofs.lemmas.Bool.Decides.{nat_tests}
use Rattle.std.proofs.lemmas.List.{take_at, take-append-drop}
use Rattle.avs_lex.specs.declared.piece.Piece.{Piece}
use Rattle.avs_lex.specs.declared.piece.Piece.TheVariants.{Blank, One, EndOfScript, Fault}
use Rattle.avs_lex.specs.declared.fault.LexKind.{LexKind}
use Rattle.avs_lex.specs.declared.fault.LexKind.TheVariants.{FloatLiteral, IntRange, OpenString, OpenComment, BadChar}
use Rattle.avs_lex.specs.declared.token.Token.{Token}
use Rattle.avs_lex.specs.declared.token.TokenKind.TheVariants as k
use Rattle.avs_lex.specs.Spelling.{Text, newline, quote, dollar, star, dot, slash, left_bracket, backslash, is_blank, begins_name, is_number, hexadecimal_digits, through, value, triple}
use Rattle.avs_lex.specs.BeginsNothing.{BeginsNothing}
use Rattle.avs_lex.specs.Piece.{front, piece, is_end_line, ends_line, without_blanks, decimal, nested_end, comment_to}
use Rattle.avs_lex.specs.Tokens.{begins_line, LexFault, Tokens}
use Rattle.avs_lex.proofs.TestLemmas.{either}
use Rattle.avs_lex.proofs.WordLemmas.{starts_with_at, starts_with_from}
use Rattle.avs_lex.proofs.FitLemmas.{IsFit, front_fits}
use Rattle.avs_lex.proofs.NestedLemmas.{nested_comment_ends}
use Rattle.avs_lex.proofs.WrittenLemmas.{front_name, front_decimal, front_string, front_blank}
use Rattle.avs_lex.proofs.LongestLemmas.{run_long, front_hexadecimal}
use Rattle.avs_lex.proofs.BadCharLemmas.{bad_char}
use Rattle.avs_lex.proofs.ReadingLemmas.{one_reading}
use Rattle.lex_laws.specs.Faults.{Lacks, IsFloat, IsOpenString, of_three, of_one, IsOpenComment, block, nested, FaultBegins, FailsAt, FaultsAreKnown, FaultsExclude, EachTextFailsOrNot}
use Rattle.lex_laws.specs.Gaps as g
use Rattle.lex_laws.proofs.FillingLemmas.{IsFilled, front_fills, front_of}
use Rattle.lex_laws.proofs.FaultLemmas.{IsTold, front_tells}
use Rattle.lex_laws.proofs.SameLemmas.{left_true, right_true, at_length}

-- ---- floats

-- a run ends where its test fails
run_ends : (p : ℕ → Bool) (xs after : Text) → p 0 ≡ false → list_all p xs ≡ true → p (get_or after 0 0) ≡ false → prefix_len p (xs ++ after) ≡ length xs
run_ends p [] [] never all ends = refl
run_ends p [] (c ∷ after) never all ends = rw ends refl
run_ends p (x ∷ xs) after never all ends =
    let here : p x ≡ true = grind arith in
    let later : list_all p xs ≡ true = grind arith in
    let run = run_ends p xs after never later ends in
    rw (here, run) (omega arith)

front_dot : (open_parentheses : ℕ) (after : Text) → is_ascii_digit (get_or after 0 0) ≡ true → front open_parentheses (dot ∷ after) ≡ Fault FloatLiteral
unfolding front
front_dot open_parentheses after second = rw second refl

first_digit : (c : ℕ) (digits : Text) → list_all is_ascii_digit (c ∷ digits) ≡ true → is_ascii_digit c ≡ true
first_digit c digits all = grind arith

no_name : (c : ℕ) → is_ascii_digit c ≡ true → begins_name c ≡ false
no_name c is = grind (arith, nat_tests)

float_digits : (open_parentheses : ℕ) (digits after : Text) → list_all is_ascii_digit digits ≡ true → (0 < length digits) ⊎ (is_ascii_digit (get_or after 0 0) ≡ true) → front open_parentheses (digits ++ dot ∷ after) ≡ Fault FloatLiteral
float_digits open_parentheses [] after all (inl some) = absurd (omega (arith, some))
float_digits open_parentheses [] after all (inr second) = front_dot open_parentheses after second
float_digits open_parentheses (c ∷ digits) after all some =
    let text = c ∷ (digits ++ dot ∷ after) in
    let first = first_digit c digits all in
    let size : prefix_len is_ascii_digit text ≡ length (c ∷ digits) = run_ends is_ascii_digit (c ∷ digits) (dot ∷ after) refl all refl in
    let next : get_or text (length (c ∷ digits)) 0 ≡ dot = at_length (c ∷ digits) (dot ∷ after) in
    front_decimal open_parentheses text (no_name c first) first ∙ dotted text (length (c ∷ digits)) size next
  where
    dotted : (text : Text) (n : ℕ) → prefix_len is_ascii_digit text ≡ n → get_or text n 0 ≡ dot → decimal text ≡ Fault FloatLiteral
    dotted text n size next = rw (size, next) refl

-- ---- numbers

large_decimal : (open_parentheses : ℕ) (digits after : Text) → list_all is_ascii_digit digits ≡ true → 2 ^ 63 ≤ value 10 digits → is_ascii_digit (get_or after 0 0) ≡ false → get_or after 0 0 ≢ dot
    → front open_parentheses (digits ++ after) ≡ Fault IntRange
large_decimal open_parentheses [] after all large whole no_dot = absurd (omega (arith, large))
large_decimal open_parentheses (c ∷ digits) after all large whole no_dot =
    let text = c ∷ (digits ++ after) in
    let first = first_digit c digits all in
    let size : prefix_len is_ascii_digit text ≡ length (c ∷ digits) = run_ends is_ascii_digit (c ∷ digits) after refl all whole in
    let next : get_or text (length (c ∷ digits)) 0 ≡ get_or after 0 0 = at_length (c ∷ digits) after in
    let other : (get_or text (length (c ∷ digits)) 0 == dot) ≡ false = rw next (no_dot_test (get_or after 0 0) no_dot) in
    let taken : take (length (c ∷ digits)) text ≡ c ∷ digits = take_at (c ∷ digits) after (length (c ∷ digits)) refl in
    front_decimal open_parentheses text (no_name c first) first ∙ too_large text (c ∷ digits) (length (c ∷ digits)) size other taken large
  where
    no_dot_test : (c : ℕ) → c ≢ dot → (c == dot) ≡ false
    no_dot_test c other = either (c == dot) ((c == dot) ≡ false) (λ e. absurd (other (grind (arith, nat_tests)))) (λ e. e)

    too_large : (text digits : Text) (n : ℕ) → prefix_len is_ascii_digit text ≡ n → (get_or text n 0 == dot) ≡ false → take n text ≡ digits → 2 ^ 63 ≤ value 10 digits → decimal text ≡ Fault IntRange
    too_large text digits n size other taken large =
        let test : is_number (pos (value 10 digits)) ≡ false = grind (arith, nat_tests) in
        rw (size, other, taken, test) refl

long_hexadecimal : (open_parentheses : ℕ) (digits after : Text) → list_all is_ascii_hexdigit digits ≡ true → hexadecimal_digits < length digits → front open_parentheses (dollar ∷ (digits ++ after)) ≡ Fault IntRange
long_hexadecimal open_parentheses digits after all long =
    let t = digits ++ after in
    let taken : take (length digits) t ≡ digits = take_at digits after (length digits) refl in
    let run : length digits ≤ prefix_len is_ascii_hexdigit t = run_long is_ascii_hexdigit t (length digits) (omega (arith, length-append digits after)) (rw taken all) in
    let some : (prefix_len is_ascii_hexdigit t == 0) ≡ false = grind (arith, nat_tests) in
    let many : nat_le (prefix_len is_ascii_hexdigit t) hexadecimal_digits ≡ false = grind (arith, nat_tests) in
    front_hexadecimal open_parentheses (dollar ∷ t) refl ∙ rw (some, many) refl

-- ---- strings and comments

lacks_none : (word : Text) (n : ℕ) (text : Text) → Lacks text word → through word n text ≡ None
lacks_none word n [] lacks = refl
lacks_none word n (c ∷ text) lacks = rw (lacks 0) (lacks_none word (n + 1) text (λ k. lacks (suc k)))

front_block : (open_parentheses : ℕ) (t : Text) → front open_parentheses (slash ∷ star ∷ t) ≡ comment_to (through (codes "*/") 2 t)
unfolding front
front_block open_parentheses t = refl

front_nested : (open_parentheses : ℕ) (t : Text) → front open_parentheses (left_bracket ∷ star ∷ t) ≡ comment_to (nested_end 0 2 t)
unfolding front
front_nested open_parentheses t = refl

second_quote : (inside : Text) → Lacks inside (quote ∷ []) → starts_with nat_eq (quote ∷ inside) triple ≡ true → ⊥
second_quote [] lacks is = cc
second_quote (c ∷ t) lacks is =
    let second : c ≡ quote = starts_with_at (quote ∷ c ∷ t) triple 1 is (lit< tt) in
    let found : starts_with nat_eq (c ∷ t) (quote ∷ []) ≡ true = starts_with_from (c ∷ t) (quote ∷ []) t (ap (λ c. c ∷ t) second) in
    let missed : starts_with nat_eq (c ∷ t) (quote ∷ []) ≡ false = lacks 0 in
    cc (found, missed)

open_string : (open_parentheses : ℕ) (text : Text) → IsOpenString text → front open_parentheses text ≡ Fault OpenString
open_string open_parentheses text (of_three inside lacks) = front_string open_parentheses (triple ++ inside) refl ∙ rw (lacks_none triple 3 inside lacks) refl
open_string open_parentheses text (of_one inside lacks) =
    either (starts_with nat_eq (quote ∷ inside) triple) (front open_parentheses (quote ∷ inside) ≡ Fault OpenString)
    (λ e. absurd (second_quote inside lacks e))
    (λ e. front_string open_parentheses (quote ∷ inside) refl ∙ rw (e, lacks_none (quote ∷ []) 1 inside lacks) refl)

no_end : (end : Option ℕ) → ((size : ℕ) → end ≡ Some size → ⊥) → comment_to end ≡ Fault OpenComment
no_end None never = refl
no_end (Some size) never = absurd (never size refl)

open_comment : (open_parentheses : ℕ) (text : Text) → IsOpenComment text → front open_parentheses text ≡ Fault OpenComment
open_comment open_parentheses text (block inside lacks) = front_block open_parentheses inside ∙ rw (lacks_none (codes "*/") 2 inside lacks) refl
open_comment open_parentheses text (nested inside none) =
    front_nested open_parentheses inside ∙ no_end (nested_end 0 2 inside) (λ size is. none size ((nested_comment_ends inside size).0 is))

-- ---- where nothing begins

digit_token : (c : ℕ) (t : Text) → is_ascii_digit c ≡ true → BeginsNothing (c ∷ t) → ⊥
digit_token c t is nothing =
    let small : is_number (pos (value 10 (c ∷ []))) ≡ true = grind (arith, nat_tests) in
    let all : list_all is_ascii_digit (c ∷ []) ≡ true = rw is refl in
    nothing.no_token (k.Int (pos (value 10 (c ∷ [])))) 1 (lit< tt) (omega arith) (inl (record { some = lit< tt; digits = all; small = small; is = refl }))

hexadecimal_token : (c : ℕ) (t : Text) → is_ascii_hexdigit c ≡ true → BeginsNothing (dollar ∷ c ∷ t) → ⊥
hexadecimal_token c t is nothing =
    let all : list_all is_ascii_hexdigit (c ∷ []) ≡ true = rw is refl in
    nothing.no_token (k.Int (cast_signed w64 (value 16 (c ∷ [])))) 2 (lit< tt) (omega arith) (inr (record { some = lit< tt; few = lit≤ tt; opens = refl; digits = all; is = refl }))

newline_token : (t : Text) → BeginsNothing (newline ∷ t) → ⊥
newline_token t nothing = nothing.no_token k.Newline 1 (lit< tt) (omega arith) refl

dot_token : (t : Text) → BeginsNothing (dot ∷ t) → ⊥
dot_token t nothing = nothing.no_token k.Dot 1 (lit< tt) (omega arith) refl

line_first : (t : Text) → ends_line (newline ∷ t) ≡ true
line_first t = let long : (suc (length t) == 0) ≡ false = grind (arith, nat_tests) in rw long refl

filling_begins : (n : ℕ) (piece after : Text) → g.IsFilling n piece after → BeginsNothing (piece ++ after) → ⊥
filling_begins n piece after (g.blank c is) nothing = cc (is, nothing.no_blank)
filling_begins n piece after (g.line_comment words all ends) nothing = nothing.no_line_comment refl
filling_begins n piece after (g.block_comment words is) nothing = cc (nothing.no_block_comment)
filling_begins n piece after (g.nested_comment words is) nothing = cc (nothing.no_nested_comment)
filling_begins n piece after (g.joined_after blanks all) nothing =
    nothing.no_joined_line (record { blanks = blanks; after = newline ∷ after; is = ap (λ t. backslash ∷ t) (append_assoc blanks (newline ∷ []) after); all = all; ends = line_first after })
filling_begins n piece after (g.joined_at_end blanks all) nothing = nothing.no_joined_line (record { blanks = blanks; after = []; is = refl; all = all; ends = refl })
filling_begins n piece after (g.joined_before blanks all) nothing = newline_token ((blanks ++ backslash ∷ []) ++ after) nothing
filling_begins n piece after (g.newline_inside open_) nothing = newline_token after nothing

float_begins : (rest digits after : Text) → rest ≡ digits ++ dot ∷ after → list_all is_ascii_digit digits ≡ true → BeginsNothing rest → ⊥
float_begins rest [] after is all nothing = dot_token after (subst BeginsNothing is nothing)
float_begins rest (c ∷ digits) after is all nothing = digit_token c (digits ++ dot ∷ after) (first_digit c digits all) (subst BeginsNothing is nothing)

large_begins : (rest digits after : Text) → rest ≡ digits ++ after → list_all is_ascii_digit digits ≡ true → 2 ^ 63 ≤ value 10 digits → BeginsNothing rest → ⊥
large_begins rest [] after is all large nothing = absurd (omega (arith, large))
large_begins rest (c ∷ digits) after is all large nothing = digit_token c (digits ++ after) (first_digit c digits all) (subst BeginsNothing is nothing)

long_begins : (rest digits after : Text) → rest ≡ dollar ∷ (digits ++ after) → list_all is_ascii_hexdigit digits ≡ true → hexadecimal_digits < length digits → BeginsNothing rest → ⊥
long_begins rest [] after is all long nothing = absurd (omega (arith, long))
long_begins rest (c ∷ digits) after is all long nothing = let first : is_ascii_hexdigit c ≡ true = grind arith in hexadecimal_token c (digits ++ after) first (subst BeginsNothing is nothing)

quote_first : (rest : Text) → IsOpenString rest → get_or rest 0 0 ≡ quote
quote_first rest (of_three inside lacks) = refl
quote_first rest (of_one inside lacks) = refl

comment_begins : (rest : Text) → IsOpenComment rest → BeginsNothing rest → ⊥
comment_begins rest (block inside lacks) nothing = cc (nothing.no_block_comment)
comment_begins rest (nested inside none) nothing = cc (nothing.no_nested_comment)

is_bad : (n : ℕ) (rest : Text) (p : Piece) → IsFit rest p → IsFilled n rest p → IsTold rest p → BeginsNothing rest → get_or rest 0 0 ≢ quote → p ≡ Fault BadChar
is_bad n rest (Blank size) fit filled told nothing other = absurd (filling_begins n (take size rest) (drop size rest) filled.fills (subst BeginsNothing (sym (take-append-drop size rest)) nothing))
is_bad n rest (One kind size) fit filled told nothing other = absurd (nothing.no_token kind size fit.fits.0.some fit.fits.0.within fit.fits.1)
is_bad n rest EndOfScript fit filled told nothing other = absurd filled.fills
is_bad n rest (Fault FloatLiteral) fit filled told nothing other = let float : IsFloat rest = told.tells in absurd (float_begins rest float.digits float.after float.is float.all nothing)
is_bad n rest (Fault IntRange) fit filled told nothing other = elim (told.tells) [
  | inl number ↦ absurd (large_begins rest number.digits number.after number.is number.all number.large nothing)
  | inr number ↦ absurd (long_begins rest number.digits number.after number.is number.all number.long nothing)
]
is_bad n rest (Fault OpenString) fit filled told nothing other = absurd (other (quote_first rest told.tells))
is_bad n rest (Fault OpenComment) fit filled told nothing other = absurd (comment_begins rest told.tells nothing)
is_bad n rest (Fault BadChar) fit filled told nothing other = refl

-- ---- all faults

at_front : (n : ℕ) (kind : LexKind) (rest : Text) → FaultBegins kind rest → front n rest ≡ Fault kind
at_front n FloatLiteral rest float = subst (λ t. front n t ≡ Fault FloatLiteral) (sym float.is) (float_digits n float.digits float.after float.all float.some)
at_front n IntRange rest number = elim number as (λ _. front n rest ≡ Fault IntRange) [
  | inl d ↦ subst (λ t. front n t ≡ Fault IntRange) (sym d.is) (large_decimal n d.digits d.after d.all d.large d.whole d.no_dot)
  | inr h ↦ subst (λ t. front n t ≡ Fault IntRange) (sym h.is) (long_hexadecimal n h.digits h.after h.all h.long)
]
at_front n OpenString rest open_ = open_string n rest open_
at_front n OpenComment rest open_ = open_comment n rest open_
at_front n BadChar rest bad = is_bad n rest (front n rest) (front_fits n rest bad.0.some) (front_fills n rest) (front_tells n rest) bad.0 bad.1

front_empty : (n : ℕ) → front n [] ≡ Fault BadChar
unfolding front
front_empty n = refl

not_empty : (kind : LexKind) (rest : Text) → FaultBegins kind rest → 0 < length rest
not_empty kind (c ∷ t) begins = omega arith
not_empty FloatLiteral [] begins = absurd (cc (front_empty 0, at_front 0 FloatLiteral [] begins))
not_empty IntRange [] begins = absurd (cc (front_empty 0, at_front 0 IntRange [] begins))
not_empty OpenString [] begins = absurd (cc (front_empty 0, at_front 0 OpenString [] begins))
not_empty OpenComment [] begins = absurd (cc (front_empty 0, at_front 0 OpenComment [] begins))
not_empty BadChar [] begins = begins.0.some

-- an end line begins with a blank or with `_`
end_line_first : (c : ℕ) (t : Text) → is_end_line (c ∷ t) ≡ true → (is_blank c ≡ true) ⊎ (c ≡ 95)
end_line_first c t is =
    either (is_blank c) ((is_blank c ≡ true) ⊎ (c ≡ 95)) (λ e. inl e)
    (λ e.
    let same : without_blanks (c ∷ t) ≡ c ∷ t = rw e refl in
    let whole : (starts_with nat_eq (c ∷ t) (codes "__END__") && ends_line (without_blanks (drop 7 (c ∷ t)))) ≡ true = rw same at is in
    inr (starts_with_at (c ∷ t) (codes "__END__") 0 (left_true (starts_with nat_eq (c ∷ t) (codes "__END__")) (ends_line (without_blanks (drop 7 (c ∷ t)))) whole) (lit< tt)))

no_end_line : (n : ℕ) (kind : LexKind) (rest : Text) → front n rest ≡ Fault kind → is_end_line rest ≡ true → ⊥
no_end_line n kind [] fails is = cc
no_end_line n kind (c ∷ t) fails is = elim (end_line_first c t is) [
  | inl blank ↦ cc (fails, front_blank n (c ∷ t) blank)
  | inr line ↦ let name : begins_name c ≡ true = rw line refl in cc (fails, front_name n (c ∷ t) name)
]

pub at_piece : (begins : Bool) (n : ℕ) (kind : LexKind) (rest : Text) → FaultBegins kind rest → piece begins n rest ≡ Fault kind
at_piece begins n kind rest fault =
    let here = at_front n kind rest fault in
    let some : (length rest == 0) ≡ false = not_zero (length rest) (not_empty kind rest fault) in
    either (begins && is_end_line rest) (piece begins n rest ≡ Fault kind)
    (λ e. absurd (no_end_line n kind rest here (right_true begins (is_end_line rest) e)))
    (λ e. rw (some, e) here)
  where
    not_zero : (n : ℕ) → 0 < n → (n == 0) ≡ false
    not_zero n some = grind (arith, nat_tests)

told_begins : (text : Text) (kind : LexKind) (line : ℕ) (fault : LexFault text kind line) → IsTold (drop fault.offset text) (Fault kind) → FaultBegins kind (drop fault.offset text)
told_begins text FloatLiteral line fault told = told.tells
told_begins text IntRange line fault told = told.tells
told_begins text OpenString line fault told = told.tells
told_begins text OpenComment line fault told = told.tells
told_begins text BadChar line fault told = (bad_char text line fault, told.tells)

fails : (text : Text) (kind : LexKind) (line : ℕ) → LexFault text kind line → FailsAt text kind line
fails text kind line fault =
    let rest = drop fault.offset text in
    let here = front_of (begins_line text fault.offset) fault.open_parentheses rest (Fault kind) fault.fails (λ is. absurd (cc (is))) in
    let told : IsTold rest (Fault kind) = subst (IsTold rest) here (front_tells fault.open_parentheses rest) in
    record { offset = fault.offset; open_parentheses = fault.open_parentheses; before = fault.before; read = fault.read; begins = told_begins text kind line fault told; is = fault.is }

is_fault : (text : Text) (kind : LexKind) (line : ℕ) → FailsAt text kind line → LexFault text kind line
is_fault text kind line at = record {
  offset = at.offset;
  open_parentheses = at.open_parentheses;
  before = at.before;
  read = at.read;
  fails = at_piece (begins_line text at.offset) at.open_parentheses kind (drop at.offset text) at.begins;
  is = at.is;
}

pub faults_are_known : FaultsAreKnown
faults_are_known text kind line = (fails text kind line, is_fault text kind line)

pub faults_exclude : FaultsExclude
faults_exclude text kind other one two =
    let same : Fault kind ≡ Fault other = sym (at_front 0 kind text one) ∙ at_front 0 other text two in cc same

pub fails_or_not : EachTextFailsOrNot
fails_or_not text =
    let reading = one_reading text in
    record {
      some = elim (reading.some) as (λ _. ((tokens : List Token) × Tokens text tokens) ⊎ ((kind : LexKind) × (line : ℕ) × FailsAt text kind line)) [
        | inl tokens ↦ inl tokens
        | inr fault ↦ inr (fault.0, fault.1, fails text fault.0 fault.1 fault.2)
      ];
      one = λ kind other line line' is also. reading.one_fault kind other line line' (is_fault text kind line is) (is_fault text other line' also);
      never_both = λ tokens kind line are is. reading.never_both tokens kind line are (is_fault text kind line is);
    }
