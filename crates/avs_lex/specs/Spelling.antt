-- The characters of a script, and how tokens are spelled.
use Rattle.std.specs.Char.{is_ascii_alphabetic, is_ascii_alphanumeric, is_ascii_digit, is_ascii_hexdigit, digit_value}
use Rattle.std.specs.Int.{cast_signed, w64}
use Rattle.std.specs.List.{list_all, starts_with}
use Rattle.std.specs.Prelude.{ℕ, List, Bool, ◌||◌, ◌==◌, ◌≡◌, ◌⊎◌, ◌+◌, ◌*◌, ◌-◌, ◌^◌, ◌<◌, ◌≤◌, ℤ, pos, negsuc, [], ◌∷◌, length, take, drop, replicate, slice_index, codes, nat_eq, nat_lt, Option, Some, None, IsTrue, find, fold, if◌then◌else◌}
use Rattle.avs_lex.specs.declared.token.TokenKind.{TokenKind}
use Rattle.avs_lex.specs.declared.token.TokenKind.TheVariants.{Ident, Int, Str, Newline, End, LeftParen, RightParen, LeftBrace, RightBrace, Comma, Dot, Assign, Equal, NotEqual, Less, LessEqual, Greater, GreaterEqual, Plus, PlusPlus, Minus, Times, Divide, Remainder, AndAnd, OrOr, Not, Question, Colon}

-- ==== The characters of a script, as the bytes of its UTF-8 (AviSynth+ wiki, 'Grammar': "The full AviSynth grammar").

abbrev pub Text : Type 0
Text = List ℕ

abbrev pub newline : ℕ
newline = 10

abbrev pub quote : ℕ
quote = 34

abbrev pub hash : ℕ
hash = 35

abbrev pub dollar : ℕ
dollar = 36

abbrev pub star : ℕ
star = 42

abbrev pub dot : ℕ
dot = 46

abbrev pub slash : ℕ
slash = 47

abbrev pub left_bracket : ℕ
left_bracket = 91

abbrev pub backslash : ℕ
backslash = 92

abbrev pub right_bracket : ℕ
right_bracket = 93

abbrev pub is_newline : ℕ → Bool
is_newline c = c == newline

-- space, tab, carriage return
abbrev pub is_blank : ℕ → Bool
is_blank c = c == 32 || c == 9 || c == 13

-- a letter or `_`
abbrev pub begins_name : ℕ → Bool
begins_name c = is_ascii_alphabetic c || c == 95

-- a letter, a digit or `_`
abbrev pub continues_name : ℕ → Bool
continues_name c = is_ascii_alphanumeric c || c == 95

-- ==== How tokens are spelled (AviSynth+ wiki, 'Grammar': "The full AviSynth grammar").

-- the spelling of a kind that has only one spelling
abbrev pub spelling : TokenKind → Text
spelling Ident = []
spelling (Int n) = []
spelling Str = []
spelling Newline = codes "\n"
spelling End = []
spelling LeftParen = codes "("
spelling RightParen = codes ")"
spelling LeftBrace = codes "{"
spelling RightBrace = codes "}"
spelling Comma = codes ","
spelling Dot = codes "."
spelling Assign = codes "="
spelling Equal = codes "=="
spelling NotEqual = codes "!="
spelling Less = codes "<"
spelling LessEqual = codes "<="
spelling Greater = codes ">"
spelling GreaterEqual = codes ">="
spelling Plus = codes "+"
spelling PlusPlus = codes "++"
spelling Minus = codes "-"
spelling Times = codes "*"
spelling Divide = codes "/"
spelling Remainder = codes "%"
spelling AndAnd = codes "&&"
spelling OrOr = codes "||"
spelling Not = codes "!"
spelling Question = codes "?"
spelling Colon = codes ":"

-- the punctuation of two characters, and that of one
abbrev pub pairs : List TokenKind
pairs = Equal ∷ NotEqual ∷ LessEqual ∷ GreaterEqual ∷ PlusPlus ∷ AndAnd ∷ OrOr ∷ []

abbrev pub singles : List TokenKind
singles =
    LeftParen ∷ RightParen ∷ LeftBrace ∷ RightBrace ∷ Comma ∷ Dot ∷ Assign ∷ Less ∷ Greater ∷ Plus ∷ Minus ∷ Times ∷ Divide ∷ Remainder
    ∷ Not ∷ Question ∷ Colon ∷ []

-- the first of these kinds that the text begins with
abbrev pub first_of : List TokenKind → Text → Option TokenKind
first_of kinds text = find (λ kind. starts_with nat_eq text (spelling kind)) kinds

abbrev pub triple : Text
triple = replicate 3 quote

-- an ASCII letter or `_`, then letters, digits and `_`
pub record IsName (bytes : Text) : Type 0 where
  pub begins : IsTrue (begins_name (slice_index bytes 0))
  pub continues : IsTrue (list_all continues_name bytes)

-- The numbers of scripts have 64 bits: they go from -2^63 to 2^63 - 1.
abbrev pub is_number : ℤ → Bool
is_number (pos n) = nat_lt n (2 ^ 63)
is_number (negsuc n) = nat_lt n (2 ^ 63)

-- how many hexadecimal digits 64 bits have
abbrev pub hexadecimal_digits : ℕ
hexadecimal_digits = 16

-- the number that these digits write
abbrev pub value : ℕ → Text → ℕ
value base digits = fold (λ n c. base * n + digit_value c) 0 digits

-- decimal digits
pub record IsDecimal (n : ℤ) (bytes : Text) : Type 0 where
  pub some : 0 < length bytes
  pub digits : IsTrue (list_all is_ascii_digit bytes)
  pub small : IsTrue (is_number (pos (value 10 bytes)))
  pub is : n ≡ pos (value 10 bytes)

-- `$` and hexadecimal digits, in two's complement
pub record IsHexadecimal (n : ℤ) (bytes : Text) : Type 0 where
  pub some : 1 < length bytes
  pub few : length bytes ≤ 1 + hexadecimal_digits
  pub opens : slice_index bytes 0 ≡ dollar
  pub digits : IsTrue (list_all is_ascii_hexdigit (drop 1 bytes))
  pub is : n ≡ cast_signed w64 (value 16 (drop 1 bytes))

-- the size up to the end of the first occurrence of the word, plus n
abbrev pub through : Text → ℕ → Text → Option ℕ
through word n [] = None
through word n (c ∷ rest) = if starts_with nat_eq (c ∷ rest) word then Some (n + length word) else through word (n + 1) rest

-- how many quotes there are at each end
abbrev pub quotes_of : Text → ℕ
quotes_of bytes = if starts_with nat_eq bytes triple then 3 else 1

-- a string between quotes
pub record IsQuoted (bytes : Text) : Type 0 where
  pub long : 2 * quotes_of bytes ≤ length bytes
  pub opens : take (quotes_of bytes) bytes ≡ replicate (quotes_of bytes) quote
  pub ends : through (replicate (quotes_of bytes) quote) (quotes_of bytes) (drop (quotes_of bytes) bytes) ≡ Some (length bytes)
  pub closes : drop (length bytes - quotes_of bytes) bytes ≡ replicate (quotes_of bytes) quote

-- a token of this kind may be spelled so
abbrev pub Spells : TokenKind → Text → Type 0
Spells Ident bytes = IsName bytes
Spells (Int n) bytes = IsDecimal n bytes ⊎ IsHexadecimal n bytes
Spells Str bytes = IsQuoted bytes
Spells kind bytes = bytes ≡ spelling kind
