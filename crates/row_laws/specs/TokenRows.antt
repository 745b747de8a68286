-- Texts and their tokens: the kind of each, where it begins and ends, and its line. Offsets count bytes from 0, lines from 1.
-- A text without tokens has its first fault and the line of it.
use Rattle.std.specs.Prelude.{◌≡◌, ℕ, pos, negsuc, [], ◌∷◌, codes, Ok, Err}
use Rattle.avs_lex.specs.declared.fault.LexKind.TheVariants.{FloatLiteral, IntRange, OpenString, OpenComment, BadChar}
use Rattle.avs_lex.specs.declared.token.Token.{Token}
use Rattle.avs_lex.specs.declared.token.TokenKind.{TokenKind}
use Rattle.avs_lex.specs.declared.token.TokenKind.TheVariants as k
use Rattle.avs_parse.specs.Load.{tokens_of}

abbrev pub at : TokenKind → ℕ → ℕ → ℕ → Token
at kind start end line = record { kind = kind; start = start; end = end; line = line }

pub record TokenRows : Type 0 where
  -- `0 42 $2a $FFFFFFFFFFFFFFFF 9223372036854775807`
  pub numbers : tokens_of (codes "0 42 $2a $FFFFFFFFFFFFFFFF 9223372036854775807")
      ≡ Ok (at (k.Int (pos 0)) 0 1 1 ∷ at (k.Int (pos 42)) 2 4 1 ∷ at (k.Int (pos 42)) 5 8 1 ∷ at (k.Int (negsuc 0)) 9 26 1
      ∷ at (k.Int (pos 9223372036854775807)) 27 46 1 ∷ at k.End 46 46 1 ∷ [])
  -- words are names for the lexer; digits end a number, and a letter after them begins a name
  pub names : tokens_of (codes "Trim _a1 TRUE 2x")
      ≡ Ok (at k.Ident 0 4 1 ∷ at k.Ident 5 8 1 ∷ at k.Ident 9 13 1 ∷ at (k.Int (pos 2)) 14 15 1 ∷ at k.Ident 15 16 1 ∷ at k.End 16 16 1 ∷ [])
  -- `"ab" """c"d"""`
  pub strings : tokens_of (codes "\"ab\" \"\"\"c\"d\"\"\"") ≡ Ok (at k.Str 0 4 1 ∷ at k.Str 5 14 1 ∷ at k.End 14 14 1 ∷ [])
  -- a string over two lines has the line of its beginning
  pub string_of_two_lines : tokens_of (codes "\"a\nb\" c") ≡ Ok (at k.Str 0 5 1 ∷ at k.Ident 6 7 2 ∷ at k.End 7 7 2 ∷ [])
  -- the longest operator counts
  pub operators : tokens_of (codes "a=b==c!=d<=e>=f++g&&h||i")
      ≡ Ok (at k.Ident 0 1 1 ∷ at k.Assign 1 2 1 ∷ at k.Ident 2 3 1 ∷ at k.Equal 3 5 1 ∷ at k.Ident 5 6 1 ∷ at k.NotEqual 6 8 1
      ∷ at k.Ident 8 9 1 ∷ at k.LessEqual 9 11 1 ∷ at k.Ident 11 12 1 ∷ at k.GreaterEqual 12 14 1 ∷ at k.Ident 14 15 1
      ∷ at k.PlusPlus 15 17 1 ∷ at k.Ident 17 18 1 ∷ at k.AndAnd 18 20 1 ∷ at k.Ident 20 21 1 ∷ at k.OrOr 21 23 1
      ∷ at k.Ident 23 24 1 ∷ at k.End 24 24 1 ∷ [])
  pub single_characters : tokens_of (codes "(-*/%<>?!:.,{})")
      ≡ Ok (at k.LeftParen 0 1 1 ∷ at k.Minus 1 2 1 ∷ at k.Times 2 3 1 ∷ at k.Divide 3 4 1 ∷ at k.Remainder 4 5 1 ∷ at k.Less 5 6 1
      ∷ at k.Greater 6 7 1 ∷ at k.Question 7 8 1 ∷ at k.Not 8 9 1 ∷ at k.Colon 9 10 1 ∷ at k.Dot 10 11 1 ∷ at k.Comma 11 12 1
      ∷ at k.LeftBrace 12 13 1 ∷ at k.RightBrace 13 14 1 ∷ at k.RightParen 14 15 1 ∷ at k.End 15 15 1 ∷ [])
  pub three_of_a_kind : tokens_of (codes "+++ ===")
      ≡ Ok (at k.PlusPlus 0 2 1 ∷ at k.Plus 2 3 1 ∷ at k.Equal 4 6 1 ∷ at k.Assign 6 7 1 ∷ at k.End 7 7 1 ∷ [])
  -- a comment of a line, one of two lines, and a nested one
  pub comments : tokens_of (codes "a # b\nc /* d\n e */ f [* g [* h *] i *] j")
      ≡ Ok (at k.Ident 0 1 1 ∷ at k.Newline 5 6 1 ∷ at k.Ident 6 7 2 ∷ at k.Ident 19 20 3 ∷ at k.Ident 39 40 3 ∷ at k.End 40 40 3 ∷ [])
  -- a `\` at the end of a line, and one at the beginning of the next, join two lines
  pub joined_at_the_end : tokens_of (codes "a \\\nb") ≡ Ok (at k.Ident 0 1 1 ∷ at k.Ident 4 5 2 ∷ at k.End 5 5 2 ∷ [])
  pub joined_at_the_start : tokens_of (codes "a\n\\b") ≡ Ok (at k.Ident 0 1 1 ∷ at k.Ident 3 4 2 ∷ at k.End 4 4 2 ∷ [])
  -- a newline is a token outside parentheses, and none inside
  pub in_parentheses : tokens_of (codes "(\n1)\n")
      ≡ Ok (at k.LeftParen 0 1 1 ∷ at (k.Int (pos 1)) 2 3 2 ∷ at k.RightParen 3 4 2 ∷ at k.Newline 4 5 2 ∷ at k.End 5 5 3 ∷ [])
  -- `__END__` alone on its line, with blanks around it, and beside another word
  pub end : tokens_of (codes "a\n __END__ \n$") ≡ Ok (at k.Ident 0 1 1 ∷ at k.Newline 1 2 1 ∷ at k.End 2 2 2 ∷ [])
  pub no_end : tokens_of (codes "a __END__") ≡ Ok (at k.Ident 0 1 1 ∷ at k.Ident 2 9 1 ∷ at k.End 9 9 1 ∷ [])
  -- a first character U+FEFF
  pub mark : tokens_of (239 ∷ 187 ∷ 191 ∷ codes "a") ≡ Ok (at k.Ident 3 4 1 ∷ at k.End 4 4 1 ∷ [])
  pub empty : tokens_of [] ≡ Ok (at k.End 0 0 1 ∷ [])

pub record LexFaultRows : Type 0 where
  pub float : tokens_of (codes "x = 1.5") ≡ Err (FloatLiteral, 1)
  pub float_without_a_digit_before : tokens_of (codes "a\n.5") ≡ Err (FloatLiteral, 2)
  pub float_without_a_digit_after : tokens_of (codes "7.") ≡ Err (FloatLiteral, 1)
  -- 2 ^ 63, and 17 hexadecimal digits
  pub number_too_large : tokens_of (codes "\n\n9223372036854775808") ≡ Err (IntRange, 3)
  pub digits_too_many : tokens_of (codes "$00000000000000001") ≡ Err (IntRange, 1)
  pub large_float : tokens_of (codes "9223372036854775808.") ≡ Err (FloatLiteral, 1)
  -- the line is that of the opening quote or bracket
  pub open_string : tokens_of (codes "a\n\"b\nc") ≡ Err (OpenString, 2)
  pub open_long_string : tokens_of (codes "\"\"\"b\"\"") ≡ Err (OpenString, 1)
  pub open_comment : tokens_of (codes "a /* b\n*") ≡ Err (OpenComment, 1)
  pub open_nested_comment : tokens_of (codes "[* a [* b *]\n") ≡ Err (OpenComment, 1)
  pub one_ampersand : tokens_of (codes "a & b") ≡ Err (BadChar, 1)
  pub no_digits : tokens_of (codes "$g") ≡ Err (BadChar, 1)
  -- a `\` inside a line, and one before a comment
  pub backslash : tokens_of (codes "a \\ b") ≡ Err (BadChar, 1)
  pub backslash_before_a_comment : tokens_of (codes "a\nb \\ # c\n") ≡ Err (BadChar, 2)
  -- of two faults the first one
  pub first_of_two : tokens_of (codes "a\n&\n1.5") ≡ Err (BadChar, 2)
