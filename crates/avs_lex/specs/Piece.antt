-- What the rest of a script begins with: one case for each sentence of the language's lexical rules
-- (AviSynth+ wiki, 'Grammar': "The full AviSynth grammar").
use Rattle.std.specs.Prelude.{ℕ, ◌+◌, ◌-◌, [], ◌∷◌, ◌++◌, length, take, drop, slice_index, codes, nat_eq, nat_le, Bool, ◌&&◌, ◌||◌, ◌==◌, if◌then◌else◌, Option, Some, None, pos, ◌<◌, ◌≤◌, ⊤}
use Rattle.std.specs.List.{starts_with, prefix_len, position_or_len}
use Rattle.std.specs.Char.{is_ascii_digit, is_ascii_hexdigit}
use Rattle.std.specs.Int.{cast_signed, w64}
use Rattle.avs_lex.specs.declared.piece.Piece.{Piece}
use Rattle.avs_lex.specs.declared.piece.Piece.TheVariants.{Blank, One, EndOfScript, Fault}
use Rattle.avs_lex.specs.declared.fault.LexKind.TheVariants.{FloatLiteral, IntRange, OpenString, OpenComment, BadChar}
use Rattle.avs_lex.specs.declared.token.TokenKind.{TokenKind}
use Rattle.avs_lex.specs.declared.token.TokenKind.TheVariants.{Ident, Int, Str, Newline}
use Rattle.avs_lex.specs.Spelling.{Text, newline, quote, hash, dollar, star, dot, slash, left_bracket, backslash, right_bracket, is_newline, is_blank, begins_name, continues_name, through, is_number, hexadecimal_digits, value, spelling, pairs, singles, first_of, triple}

-- The offset after a `[* *]` comment, where n bytes of it are read and this many such comments are open inside it.
abbrev pub nested_end : ℕ → ℕ → Text → Option ℕ
nested_end inner n [] = None
nested_end inner n (c ∷ []) = None
nested_end inner n (c ∷ d ∷ rest) =
    if c == left_bracket && d == star then nested_end (inner + 1) (n + 2) rest
    else (if c == star && d == right_bracket then (if inner == 0 then Some (n + 2) else nested_end (inner - 1) (n + 2) rest)
    else nested_end inner (n + 1) (d ∷ rest))

-- a comment up to this offset, or without an end
abbrev pub comment_to : Option ℕ → Piece
comment_to None = Fault OpenComment
comment_to (Some size) = Blank size

-- a string up to this offset, or without closing quotes
abbrev pub string_to : Option ℕ → Piece
string_to None = Fault OpenString
string_to (Some size) = One Str size

-- `"""` up to the next `"""`, else `"` up to the next `"`
abbrev pub string : Text → Piece
string rest = if starts_with nat_eq rest triple then string_to (through triple 3 (drop 3 rest)) else string_to (through (quote ∷ []) 1 (drop 1 rest))

abbrev pub without_blanks : Text → Text
without_blanks rest = drop (prefix_len is_blank rest) rest

-- nothing, or a newline
abbrev pub ends_line : Text → Bool
ends_line rest = length rest == 0 || slice_index rest 0 == newline

-- `__END__` alone on its line, with blanks around it
abbrev pub is_end_line : Text → Bool
is_end_line rest = let word = without_blanks rest in starts_with nat_eq word (codes "__END__") && ends_line (without_blanks (drop 7 word))

-- A newline, blanks and `\` are one blank. Else a newline is a token outside parentheses, and a blank inside.
abbrev pub line_end : ℕ → Text → Piece
line_end open_parentheses rest =
    let blanks = prefix_len is_blank (drop 1 rest) in
    if slice_index rest (1 + blanks) == backslash then Blank (2 + blanks) else (if open_parentheses == 0 then One Newline 1 else Blank 1)

-- `\` and blanks up to a newline, with that newline, or up to the end are one blank
abbrev pub joined : Text → Piece
joined rest =
    let blanks = prefix_len is_blank (drop 1 rest) in
    if length rest == 1 + blanks then Blank (1 + blanks) else (if slice_index rest (1 + blanks) == newline then Blank (2 + blanks) else Fault BadChar)

-- digits of a number, without a `.` after them
abbrev pub decimal : Text → Piece
decimal rest =
    let size = prefix_len is_ascii_digit rest in
    let number = pos (value 10 (take size rest)) in
    if slice_index rest size == dot then Fault FloatLiteral else (if is_number number then One (Int number) size else Fault IntRange)

-- `$` and 1 to 16 hexadecimal digits, in two's complement
abbrev pub hexadecimal : Text → Piece
hexadecimal rest =
    let size = prefix_len is_ascii_hexdigit (drop 1 rest) in
    if size == 0 then Fault BadChar else (if nat_le size hexadecimal_digits then One (Int (cast_signed w64 (value 16 (take size (drop 1 rest))))) (1 + size) else Fault IntRange)

abbrev pub punctuation_of : Option TokenKind → Piece
punctuation_of None = Fault BadChar
punctuation_of (Some kind) = One kind (length (spelling kind))

-- the longest punctuation
abbrev pub punctuation : Text → Piece
punctuation rest = punctuation_of (first_of (pairs ++ singles) rest)

-- What a script begins with, where this many parentheses are open. The first case that fits counts.
unfoldable pub front : ℕ → Text → Piece
front open_parentheses rest =
    let first = slice_index rest 0 in
    let second = slice_index rest 1 in
    if begins_name first then One Ident (prefix_len continues_name rest)
    else (if is_ascii_digit first then decimal rest
    else (if is_blank first then Blank 1
    else (if first == newline then line_end open_parentheses rest
    else (if first == backslash then joined rest
    else (if first == hash then Blank (position_or_len is_newline rest)
    else (if first == slash && second == star then comment_to (through (codes "*/") 2 (drop 2 rest))
    else (if first == left_bracket && second == star then comment_to (nested_end 0 2 (drop 2 rest))
    else (if first == quote then string rest
    else (if first == dollar then hexadecimal rest
    else (if first == dot && is_ascii_digit second then Fault FloatLiteral
    else punctuation rest))))))))))

-- The script ends at the end of the text, and before the line `__END__`.
abbrev pub piece : Bool → ℕ → Text → Piece
piece begins_line open_parentheses rest = if length rest == 0 || (begins_line && is_end_line rest) then EndOfScript else front open_parentheses rest

-- a piece has characters, and is within the rest
abbrev pub IsWithin : Text → Piece → Type 0
IsWithin rest (Blank size) = (0 < size) × (size ≤ length rest)
IsWithin rest (One kind size) = (0 < size) × (size ≤ length rest)
IsWithin rest EndOfScript = ⊤
IsWithin rest (Fault kind) = ⊤
