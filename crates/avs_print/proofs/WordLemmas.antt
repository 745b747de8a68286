-- What is known of the word of a token: a name that is no reserved word, and a string that its quotes can hold.
use Rattle.std.proofs.Common.{◌≡◌, ◌∙◌, ℕ, suc, ◌+◌, ◌*◌, ◌-◌, ◌≤◌, ap, sym, refl, subst, arith, [], ◌∷◌, ◌++◌, length, length-append, take, drop, nat_eq, ◌==◌, Option, Some, None, true, false, ◌&&◌, if◌then◌else◌}
use Rattle.std.specs.List.{list_any, starts_with, slice_range}
use Rattle.std.proofs.lemmas.Bool.Decides.{nat_tests}
use Rattle.std.proofs.lemmas.List.{take-append-drop, take_at, drop_at, drop-drop}
use Rattle.avs_lex.specs.declared.token.TokenKind.{TokenKind}
use Rattle.avs_lex.specs.declared.token.TokenKind.TheVariants as k
use Rattle.avs_lex.specs.Spelling.{quote, Text, IsName, IsQuoted, Spells, through, triple, quotes_of}
use Rattle.avs_lex.proofs.CallerLemmas.{by_test, either}
use Rattle.avs_tree.specs.Lexeme.{unquoted, said, symbol_by, word_of, keyword_of}
use Rattle.avs_tree.specs.declared.symbol.Symbol.TheVariants as s
use Rattle.avs_tree.specs.declared.words.Keyword.{Keyword}
use Rattle.avs_print.specs.Printed.{quoted}
use Rattle.avs_print.proofs.Plain.{Fit, IsNamed, IsSaid}

-- ---- names

no_keyword : (word : Option Keyword) → s.Name ≡ word_of word → word ≡ None
no_keyword None is = refl
no_keyword (Some keyword) is = cc

named_by : (kind : TokenKind) (bytes x : Text) → Spells kind bytes → s.Name ≡ symbol_by kind (said kind bytes) → x ≡ said kind bytes → IsNamed x
named_by k.Ident bytes x spelled symbol content = record { spelled = subst IsName (sym content) spelled; free = ap keyword_of content ∙ no_keyword (keyword_of bytes) symbol }
named_by kind bytes x spelled symbol content = cc

-- a token that the grammar sees as a name
pub named : (x : Text) (line : ℕ) → Fit (s.Name, x, line) → IsNamed x
named x line fit = named_by fit.kind fit.bytes x fit.spelled fit.symbol fit.content

-- ---- texts between quotes

-- a text without quotes is read up to the first one after it
through_plain : (n : ℕ) (x rest : Text) → list_any (λ c. c == quote) x ≡ false → through (quote ∷ []) n (x ++ quote ∷ rest) ≡ Some (n + length x + 1)
through_plain n [] rest none = ap Some (omega arith)
through_plain n (c ∷ x) rest none =
    let other : nat_eq quote c ≡ false = grind (arith, nat_tests) in
    let later : list_any (λ c. c == quote) x ≡ false = grind arith in
    rw other (through_plain (n + 1) x rest later ∙ ap Some (omega arith))

-- where there is a quote in a text, nothing after that text is read
through_early : (n : ℕ) (x rest : Text) (end : ℕ) → list_any (λ c. c == quote) x ≡ true → through (quote ∷ []) n (x ++ rest) ≡ Some end → end ≤ n + length x
through_early n [] rest end some is = cc
through_early n (c ∷ x) rest end some is =
    by_test (nat_eq quote c) (λ b. (if b && true then Some (n + 1) else through (quote ∷ []) (n + 1) (x ++ rest)) ≡ Some end → end ≤ n + suc (length x))
    (λ _ is. let e : n + 1 ≡ end = cc in omega arith)
    (λ other is. let later : list_any (λ c. c == quote) x ≡ true = grind (arith, nat_tests) in omega (arith, through_early (n + 1) x rest end later is)) is

-- such a text between quotes does not begin with three of them
plain_start : (x : Text) → list_any (λ c. c == quote) x ≡ false → starts_with nat_eq (quote ∷ (x ++ quote ∷ [])) triple ≡ false
plain_start [] none = refl
plain_start (c ∷ x) none = let other : nat_eq quote c ≡ false = grind (arith, nat_tests) in rw other refl

-- what is between a word and that word again
between : (word x : Text) (size : ℕ) → length word ≡ size → slice_range (word ++ (x ++ word)) size (length (word ++ (x ++ word)) - size) ≡ x
between word x size long =
    let inner : length (word ++ (x ++ word)) - size - size ≡ length x = omega (arith, length-append word (x ++ word), length-append x word) in
    rw (inner, drop_at word (x ++ word) size long) (take_at x word (length x) refl)

-- a text that begins and ends with a word
around : (bytes word : Text) (size : ℕ) → 2 * size ≤ length bytes → take size bytes ≡ word → drop (length bytes - size) bytes ≡ word
    → bytes ≡ word ++ (slice_range bytes size (length bytes - size) ++ word)
around bytes word size long opens closes =
    let inner = slice_range bytes size (length bytes - size) in
    let offset : size + (length bytes - size - size) ≡ length bytes - size = omega arith in
    let last : drop (length bytes - size - size) (drop size bytes) ≡ word = drop-drop (length bytes - size - size) size bytes ∙ ap (λ n. drop n bytes) offset ∙ closes in
    let rest : drop size bytes ≡ inner ++ word = sym (take-append-drop (length bytes - size - size) (drop size bytes)) ∙ ap (λ z. inner ++ z) last in
    sym (take-append-drop size bytes) ∙ ap (λ z. z ++ drop size bytes) opens ∙ ap (λ z. word ++ z) rest

plain_quoted : (x : Text) → list_any (λ c. c == quote) x ≡ false → IsQuoted (quote ∷ (x ++ quote ∷ []))
plain_quoted x none =
    let start = plain_start x none in
    record {
      long = rw start (omega (arith, length-append x (quote ∷ [])));
      opens = rw start refl;
      ends = rw start (through_plain 1 x [] none ∙ ap Some (omega (arith, length-append x (quote ∷ []))));
      closes = rw start (drop_at (quote ∷ x) (quote ∷ []) (length (quote ∷ (x ++ quote ∷ [])) - 1) (omega (arith, length-append x (quote ∷ []))));
    }

plain_inside : (x : Text) → list_any (λ c. c == quote) x ≡ false → unquoted (quote ∷ (x ++ quote ∷ [])) ≡ x
unfolding unquoted
plain_inside x none = rw (plain_start x none) (between (quote ∷ []) x 1 refl)

-- a text without quotes
said_plain : (x : Text) → list_any (λ c. c == quote) x ≡ false → IsSaid x
said_plain x none =
    let same : quoted x ≡ quote ∷ (x ++ quote ∷ []) = rw none refl in
    record { spelled = subst IsQuoted (sym same) (plain_quoted x none); inside = ap unquoted same ∙ plain_inside x none }

-- the inside of a token has quotes only where there are three of them at each end
said_other : (bytes x : Text) → IsQuoted bytes → x ≡ unquoted bytes → list_any (λ c. c == quote) x ≡ true → IsSaid x
unfolding unquoted
said_other bytes x spelled content some =
    either (starts_with nat_eq bytes triple) (IsSaid x)
    (λ e.
    let three : quotes_of bytes ≡ 3 = rw e refl in
    let long : 6 ≤ length bytes = rw three at spelled.long in
    let opens : take 3 bytes ≡ triple = rw three at spelled.opens in
    let closes : drop (length bytes - 3) bytes ≡ triple = rw three at spelled.closes in
    let inside : x ≡ slice_range bytes 3 (length bytes - 3) = rw three at content in
    let same : quoted x ≡ bytes = rw some (ap (λ z. triple ++ (z ++ triple)) inside ∙ sym (around bytes triple 3 long opens closes)) in
    record { spelled = subst IsQuoted (sym same) spelled; inside = ap unquoted same ∙ sym content })
    (λ e.
    let one : quotes_of bytes ≡ 1 = rw e refl in
    let long : 2 ≤ length bytes = rw one at spelled.long in
    let opens : take 1 bytes ≡ quote ∷ [] = rw one at spelled.opens in
    let closes : drop (length bytes - 1) bytes ≡ quote ∷ [] = rw one at spelled.closes in
    let found : through (quote ∷ []) 1 (drop 1 bytes) ≡ Some (length bytes) = rw one at spelled.ends in
    let inside : x ≡ slice_range bytes 1 (length bytes - 1) = rw one at content in
    let whole : bytes ≡ quote ∷ (x ++ quote ∷ []) = around bytes (quote ∷ []) 1 long opens closes ∙ ap (λ z. quote ∷ (z ++ quote ∷ [])) (sym inside) in
    let read : through (quote ∷ []) 1 (x ++ quote ∷ []) ≡ Some (length bytes) = ap (λ z. through (quote ∷ []) 1 (drop 1 z)) (sym whole) ∙ found in
    absurd (omega (arith, through_early 1 x (quote ∷ []) (length bytes) some read, ap length whole, length-append x (quote ∷ []))))

no_string : (word : Option Keyword) → s.Str ≡ word_of word → ⊥
no_string None is = cc
no_string (Some keyword) is = cc

said_by : (kind : TokenKind) (bytes x : Text) → Spells kind bytes → s.Str ≡ symbol_by kind (said kind bytes) → x ≡ said kind bytes → IsSaid x
said_by k.Ident bytes x spelled symbol content = absurd (no_string (keyword_of bytes) symbol)
said_by k.Str bytes x spelled symbol content = either (list_any (λ c. c == quote) x) (IsSaid x) (said_other bytes x spelled content) (said_plain x)
said_by kind bytes x spelled symbol content = cc

-- a token that the grammar sees as a string
pub said_inside : (x : Text) (line : ℕ) → Fit (s.Str, x, line) → IsSaid x
said_inside x line fit = said_by fit.kind fit.bytes x fit.spelled fit.symbol fit.content
