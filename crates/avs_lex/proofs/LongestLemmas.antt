-- A token is the longest at its offset.
use Rattle.std.proofs.Common.{◌≡◌, ◌∙◌, inl, inr, ℕ, ℤ, pos, zero, suc, ◌+◌, ◌-◌, ◌<◌, ◌≤◌, ap, sym, refl, arith, List, [], ◌∷◌, ◌++◌, length, take, drop, get_or, Bool, true, false, ◌&&◌, ◌==◌, nat_le, nat_eq, Option, Some, None, length-drop, length-take-le, get_or-take, lit<, lit≤, ◌||◌}
use Rattle.std.specs.List.{list_all, starts_with, prefix_len}
use Rattle.std.specs.Char.{is_ascii_digit, is_ascii_hexdigit}
use Rattle.std.specs.Int.{cast_signed, w64}
use Rattle.std.proofs.lemmas.Bool.Decides.{nat_tests}
use Rattle.std.proofs.lemmas.List.{take-append-drop, drop-append-le, drop-take, length_push, get_or_append_left}
use Rattle.std.proofs.lemmas.List.Sums.{prefix_len_passes}
use Rattle.avs_lex.specs.declared.piece.Piece.TheVariants.{One, EndOfScript, Fault}
use Rattle.avs_lex.specs.declared.fault.LexKind.TheVariants.{BadChar, FloatLiteral, IntRange}
use Rattle.avs_lex.specs.declared.token.Token.{Token}
use Rattle.avs_lex.specs.declared.token.TokenKind.{TokenKind}
use Rattle.avs_lex.specs.declared.token.TokenKind.TheVariants.{Ident, Int, Str, End, Equal, NotEqual, LessEqual, GreaterEqual, PlusPlus, AndAnd, OrOr}
use Rattle.avs_lex.specs.Spelling.{Text, quote, dollar, dot, begins_name, continues_name, is_number, hexadecimal_digits, spelling, through, value, triple, quotes_of, IsName, IsDecimal, IsHexadecimal, IsQuoted, Spells}
use Rattle.avs_lex.specs.Piece.{front, piece, is_end_line, decimal, hexadecimal, string, string_to}
use Rattle.avs_lex.specs.Tokens.{begins_line, piece_at, token_at, ReadTo, begin, blank, token, Tokens}
use Rattle.avs_lex.specs.Laws.{IsLongest}
use Rattle.avs_lex.proofs.TestLemmas.{either}
use Rattle.avs_lex.proofs.WordLemmas.{through_found, through_more, starts_with_at}
use Rattle.avs_lex.proofs.FitLemmas.{three_quotes, one_quote}
use Rattle.avs_lex.proofs.WrittenLemmas.{front_name, front_decimal, front_string}
use Rattle.avs_lex.proofs.ListLemmas.{old_or_new, token_fits}

-- a beginning that passes a test is in the run that passes it
pub run_long : (p : ℕ → Bool) (rest : Text) (size : ℕ) → size ≤ length rest → list_all p (take size rest) ≡ true → size ≤ prefix_len p rest
run_long p rest zero within all = omega arith
run_long p [] (suc size) within all = absurd (omega arith)
run_long p (c ∷ rest) (suc size) within all =
    let here : p c ≡ true = grind arith in
    let later : list_all p (take size rest) ≡ true = grind arith in
    let next = run_long p rest size (omega arith) later in
    rw here (omega arith)

pub first_of_take : (rest : Text) (size : ℕ) → 0 < size → get_or (take size rest) 0 0 ≡ get_or rest 0 0
first_of_take rest size some = get_or-take size rest 0 0 some

name_longest : (open_parentheses : ℕ) (rest : Text) (kind : TokenKind) (size end : ℕ) → front open_parentheses rest ≡ One kind size → size < end → end ≤ length rest → IsName (take end rest) → ⊥
name_longest open_parentheses rest kind size end is longer within name =
    let first : begins_name (get_or rest 0 0) ≡ true = ap begins_name (sym (first_of_take rest end (omega arith))) ∙ name.begins in
    let same : One kind size ≡ One Ident (prefix_len continues_name rest) = sym is ∙ front_name open_parentheses rest first in
    let long : size ≡ prefix_len continues_name rest = cc same in
    absurd (omega (arith, run_long continues_name rest end within name.continues))

decimal_size : (rest : Text) (kind : TokenKind) (size : ℕ) → decimal rest ≡ One kind size → size ≡ prefix_len is_ascii_digit rest
decimal_size rest kind size is =
    let digits = prefix_len is_ascii_digit rest in
    let number = pos (value 10 (take digits rest)) in
    either (get_or rest digits 0 == dot) (size ≡ digits)
    (λ e. let same : Fault FloatLiteral ≡ One kind size = rw e at is in cc same)
    (λ e. either (is_number number) (size ≡ digits)
    (λ f. let same : One (Int number) digits ≡ One kind size = rw (e, f) at is in cc same)
    (λ f. let same : Fault IntRange ≡ One kind size = rw (e, f) at is in cc same))

hexadecimal_size : (rest : Text) (kind : TokenKind) (size : ℕ) → hexadecimal rest ≡ One kind size → size ≡ 1 + prefix_len is_ascii_hexdigit (drop 1 rest)
hexadecimal_size rest kind size is =
    let digits = prefix_len is_ascii_hexdigit (drop 1 rest) in
    either (digits == 0) (size ≡ 1 + digits)
    (λ e. let same : Fault BadChar ≡ One kind size = rw e at is in cc same)
    (λ e. either (nat_le digits hexadecimal_digits) (size ≡ 1 + digits)
    (λ f. let same : One (Int (cast_signed w64 (value 16 (take digits (drop 1 rest))))) (1 + digits) ≡ One kind size = rw (e, f) at is in cc same)
    (λ f. let same : Fault IntRange ≡ One kind size = rw (e, f) at is in cc same))

pub front_hexadecimal : (open_parentheses : ℕ) (rest : Text) → get_or rest 0 0 ≡ dollar → front open_parentheses rest ≡ hexadecimal rest
unfolding front
front_hexadecimal open_parentheses rest first = rw first refl

decimal_longest : (n : ℤ) (open_parentheses : ℕ) (rest : Text) (kind : TokenKind) (size end : ℕ) → front open_parentheses rest ≡ One kind size → size < end → end ≤ length rest → IsDecimal n (take end rest) → ⊥
decimal_longest n open_parentheses rest kind size end is longer within number =
    let long = run_long is_ascii_digit rest end within number.digits in
    let first : is_ascii_digit (get_or rest 0 0) ≡ true = prefix_len_passes is_ascii_digit rest 0 0 (omega arith) in
    let other : begins_name (get_or rest 0 0) ≡ false = grind (arith, nat_tests) in
    absurd (omega (arith, decimal_size rest kind size (sym (front_decimal open_parentheses rest other first) ∙ is)))

hexadecimal_longest : (n : ℤ) (open_parentheses : ℕ) (rest : Text) (kind : TokenKind) (size end : ℕ) → front open_parentheses rest ≡ One kind size → size < end → end ≤ length rest → IsHexadecimal n (take end rest) → ⊥
hexadecimal_longest n open_parentheses rest kind size end is longer within number =
    let first : get_or rest 0 0 ≡ dollar = sym (first_of_take rest end (omega arith)) ∙ number.opens in
    let upto : 1 + (end - 1) ≡ end = omega arith in
    let digits : drop 1 (take end rest) ≡ take (end - 1) (drop 1 rest) = ap (λ n. drop 1 (take n rest)) (sym upto) ∙ drop-take 1 (end - 1) rest in
    let all : list_all is_ascii_hexdigit (take (end - 1) (drop 1 rest)) ≡ true = rw digits at number.digits in
    let long = run_long is_ascii_hexdigit (drop 1 rest) (end - 1) (omega (arith, length-drop 1 rest)) all in
    absurd (omega (arith, hexadecimal_size rest kind size (sym (front_hexadecimal open_parentheses rest first) ∙ is)))

string_to_size : (end : Option ℕ) (kind : TokenKind) (size : ℕ) → string_to end ≡ One kind size → end ≡ Some size
string_to_size None kind size is = cc
string_to_size (Some n) kind size is = cc

pub quoted_first : (bytes : Text) → IsQuoted bytes → get_or bytes 0 0 ≡ quote
quoted_first bytes quoted =
    either (starts_with nat_eq bytes triple) (get_or bytes 0 0 ≡ quote)
    (λ e. starts_with_at bytes triple 0 e (lit< tt))
    (λ e.
    let of : quotes_of bytes ≡ 1 = rw e refl in
    let opens : take 1 bytes ≡ quote ∷ [] = rw of at quoted.opens in
    sym (get_or-take 1 bytes 0 0 (lit< tt)) ∙ ap (λ t. get_or t 0 0) opens)

-- a text that ends in a longer piece ends there
through_beyond : (word : Text) (quotes : ℕ) (rest : Text) (size end : ℕ) → through word quotes (drop quotes rest) ≡ Some size → through word quotes (drop quotes (take end rest)) ≡ Some end → quotes ≤ end → end ≤ length rest → size ≡ end
through_beyond word quotes rest size end is other low within =
    let long : quotes ≤ length (take end rest) = omega (arith, length-take-le end rest within) in
    let parts : drop quotes (take end rest) ++ drop end rest ≡ drop quotes rest = sym (drop-append-le quotes (take end rest) (drop end rest) long) ∙ ap (drop quotes) (take-append-drop end rest) in
    let more : through word quotes (drop quotes rest) ≡ Some end = ap (through word quotes) (sym parts) ∙ through_more word quotes (drop quotes (take end rest)) (drop end rest) end other in
    cc (is, more)

quoted_longest : (open_parentheses : ℕ) (rest : Text) (kind : TokenKind) (size end : ℕ) → front open_parentheses rest ≡ One kind size → size < end → end ≤ length rest → IsQuoted (take end rest) → ⊥
quoted_longest open_parentheses rest kind size end is longer within quoted =
    let first : get_or rest 0 0 ≡ quote = sym (first_of_take rest end (omega arith)) ∙ quoted_first (take end rest) quoted in
    let here : string rest ≡ One kind size = sym (front_string open_parentheses rest first) ∙ is in
    let long : length (take end rest) ≡ end = length-take-le end rest within in
    either (starts_with nat_eq rest triple) ⊥
    (λ e.
    let found : through triple 3 (drop 3 rest) ≡ Some size = string_to_size (through triple 3 (drop 3 rest)) kind size (rw e at here) in
    let ends = through_found triple 3 (drop 3 rest) size found in
    let of = three_quotes rest end e (omega (arith, ends.after)) in
    let other : through triple 3 (drop 3 (take end rest)) ≡ Some end = rw (of, long) at quoted.ends in
    absurd (omega (arith, through_beyond triple 3 rest size end found other (omega (arith, ends.after)) within)))
    (λ e.
    let found : through (quote ∷ []) 1 (drop 1 rest) ≡ Some size = string_to_size (through (quote ∷ []) 1 (drop 1 rest)) kind size (rw e at here) in
    let of = one_quote rest end e in
    let other : through (quote ∷ []) 1 (drop 1 (take end rest)) ≡ Some end = rw (of, long) at quoted.ends in
    absurd (omega (arith, through_beyond (quote ∷ []) 1 rest size end found other (omega arith) within)))

-- two characters are the longest punctuation, and come before one
short : (kind : TokenKind) → length (spelling kind) ≤ 2
short Ident = lit≤ tt
short kind = lit≤ tt

pair_front : (kind : TokenKind) (open_parentheses : ℕ) (rest : Text) → length (spelling kind) ≡ 2 → front open_parentheses (spelling kind ++ rest) ≡ One kind 2
unfolding front
pair_front Equal open_parentheses rest is = refl
pair_front NotEqual open_parentheses rest is = refl
pair_front LessEqual open_parentheses rest is = refl
pair_front GreaterEqual open_parentheses rest is = refl
pair_front PlusPlus open_parentheses rest is = refl
pair_front AndAnd open_parentheses rest is = refl
pair_front OrOr open_parentheses rest is = refl
pair_front kind open_parentheses rest is = absurd (omega arith)

punctuation_longest : (found : TokenKind) (open_parentheses : ℕ) (rest : Text) (kind : TokenKind) (size end : ℕ) → front open_parentheses rest ≡ One kind size → 0 < size → size < end → end ≤ length rest → take end rest ≡ spelling found → ⊥
punctuation_longest found open_parentheses rest kind size end is some longer within spelled =
    let long : length (spelling found) ≡ end = ap length (sym spelled) ∙ length-take-le end rest within in
    let two : length (spelling found) ≡ 2 = omega (arith, short found) in
    let parts : spelling found ++ drop end rest ≡ rest = ap (λ t. t ++ drop end rest) (sym spelled) ∙ take-append-drop end rest in
    let here : front open_parentheses rest ≡ One found 2 = ap (front open_parentheses) (sym parts) ∙ pair_front found open_parentheses (drop end rest) two in
    let size_two : size ≡ 2 = cc (is, here) in
    absurd (omega (arith, short found))

front_longest : (found : TokenKind) (open_parentheses : ℕ) (rest : Text) (kind : TokenKind) (size end : ℕ) → front open_parentheses rest ≡ One kind size → 0 < size → size < end → end ≤ length rest → Spells found (take end rest) → ⊥
front_longest Ident open_parentheses rest kind size end is some longer within spelled = name_longest open_parentheses rest kind size end is longer within spelled
front_longest (Int n) open_parentheses rest kind size end is some longer within spelled = elim spelled [
  | inl number ↦ decimal_longest n open_parentheses rest kind size end is longer within number
  | inr number ↦ hexadecimal_longest n open_parentheses rest kind size end is longer within number
]
front_longest Str open_parentheses rest kind size end is some longer within spelled = quoted_longest open_parentheses rest kind size end is longer within spelled
front_longest found open_parentheses rest kind size end is some longer within spelled = punctuation_longest found open_parentheses rest kind size end is some longer within spelled

piece_front : (begins : Bool) (open_parentheses : ℕ) (rest : Text) (kind : TokenKind) (size : ℕ) → piece begins open_parentheses rest ≡ One kind size → front open_parentheses rest ≡ One kind size
piece_front begins open_parentheses rest kind size is =
    either (length rest == 0 || (begins && is_end_line rest)) (front open_parentheses rest ≡ One kind size)
    (λ e. let same : EndOfScript ≡ One kind size = rw e at is in cc same)
    (λ e. rw e at is)

token_longest : (script : Text) (offset open_parentheses : ℕ) (kind : TokenKind) (size : ℕ) → piece_at script open_parentheses offset ≡ One kind size → IsLongest script (token_at script kind size offset)
token_longest script offset open_parentheses kind size is = record {
  none_longer = λ found end longer within spelled.
      let rest = drop offset script in
      let fit = token_fits script offset open_parentheses kind size is in
      front_longest found open_parentheses rest kind size (end - offset) (piece_front (begins_line script offset) open_parentheses rest kind size is) fit.0.some (omega arith) (omega (arith, length-drop offset script)) spelled;
}

longest_to : (script : Text) (offset open_parentheses : ℕ) (tokens : List Token) → ReadTo script offset open_parentheses tokens → (k : ℕ) (d : Token) → k < length tokens → IsLongest script (get_or tokens k d)
longest_to script offset open_parentheses tokens begin k d low = absurd (omega arith)
longest_to script offset open_parentheses tokens (blank {offset = old} size read piece) k d low = longest_to script old open_parentheses tokens read k d low
longest_to script offset open_parentheses tokens (token {offset = old} {open_parentheses = outside} {tokens = before} kind size read piece) k d low =
    elim (old_or_new before (token_at script kind size old) k d low) as (λ _. IsLongest script (get_or (before ++ token_at script kind size old ∷ []) k d)) [
      | inl earlier ↦ rw earlier.same (longest_to script old outside before read k d earlier.low)
      | inr new ↦ rw new.same (token_longest script old outside kind size piece)
    ]

pub are_longest : (script : Text) (tokens : List Token) → Tokens script tokens → (k : ℕ) (d : Token) → k + 1 < length tokens → IsLongest script (get_or tokens k d)
are_longest script tokens are k d low =
    let last = token_at script End 0 are.offset in
    let count : length tokens ≡ length are.before + 1 = ap length are.are ∙ length_push are.before last in
    let within : k < length are.before = omega arith in
    rw are.are (rw (get_or_append_left are.before (last ∷ []) d k within) (longest_to script are.offset are.open_parentheses are.before are.read k d within))
