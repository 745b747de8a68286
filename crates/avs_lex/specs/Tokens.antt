-- The tokens of a script, what a list of them is, and the names of its faults.
use Rattle.std.specs.List.{starts_with, AllAdjacentBelow}
use Rattle.std.specs.Prelude.{◌≡◌, ℕ, ◌+◌, ◌-◌, List, [], ◌∷◌, ◌++◌, take, drop, slice_index, nat_eq, Bool, ◌||◌, ◌==◌, if◌then◌else◌, count_by, ⊤, ◌<◌, ◌≤◌, ◌↔◌, length, slice_range, slice_index_or, IsCharBoundary, All, codes}
use Rattle.avs_lex.specs.Piece.{piece}
use Rattle.avs_lex.specs.Spelling.{Text, newline, is_newline, Spells}
use Rattle.avs_lex.specs.declared.fault.LexError.{LexError}
use Rattle.avs_lex.specs.declared.fault.LexError.TheVariants as e
use Rattle.avs_lex.specs.declared.fault.LexKind.{LexKind}
use Rattle.avs_lex.specs.declared.fault.LexKind.TheVariants.{FloatLiteral, IntRange, OpenString, OpenComment, BadChar}
use Rattle.avs_lex.specs.declared.piece.Piece.{Piece}
use Rattle.avs_lex.specs.declared.piece.Piece.TheVariants.{Blank, One, EndOfScript, Fault}
use Rattle.avs_lex.specs.declared.token.Token.{Token}
use Rattle.avs_lex.specs.declared.token.TokenKind.{TokenKind}
use Rattle.avs_lex.specs.declared.token.TokenKind.TheVariants.{LeftParen, RightParen, End}

-- ==== The tokens of a script, or its first fault. A script is read from its start, piece after piece, up to its end or to its
-- first fault.

-- the offset after a first character U+FEFF
abbrev pub start_of : Text → ℕ
start_of text = if starts_with nat_eq text (239 ∷ 187 ∷ 191 ∷ []) then 3 else 0

-- lines count from 1, and a newline ends one
abbrev pub line_at : Text → ℕ → ℕ
line_at text offset = 1 + count_by is_newline (take offset text)

abbrev pub begins_line : Text → ℕ → Bool
begins_line text offset = offset == start_of text || slice_index text (offset - 1) == newline

-- what the text has at an offset, where this many parentheses are open
abbrev pub piece_at : Text → ℕ → ℕ → Piece
piece_at text open_parentheses offset = piece (begins_line text offset) open_parentheses (drop offset text)

abbrev pub token_at : Text → TokenKind → ℕ → ℕ → Token
token_at text kind size offset = record { kind = kind; start = offset; end = offset + size; line = line_at text offset }

-- how many parentheses are open after a token
abbrev pub open_parentheses_after : TokenKind → ℕ → ℕ
open_parentheses_after LeftParen open_parentheses = open_parentheses + 1
open_parentheses_after RightParen open_parentheses = open_parentheses - 1
open_parentheses_after _ open_parentheses = open_parentheses

-- The script is read up to an offset: this many parentheses are open, and these are the tokens so far.
pub data ReadTo (text : Text) : ℕ → ℕ → List Token → Type 0 where
  begin : ReadTo text (start_of text) 0 []
  blank : {offset open_parentheses : ℕ} {tokens : List Token} (size : ℕ) → ReadTo text offset open_parentheses tokens → piece_at text open_parentheses offset ≡ Blank size → ReadTo text (offset + size) open_parentheses tokens
  token : {offset open_parentheses : ℕ} {tokens : List Token} (kind : TokenKind) (size : ℕ) → ReadTo text offset open_parentheses tokens → piece_at text open_parentheses offset ≡ One kind size
      → ReadTo text (offset + size) (open_parentheses_after kind open_parentheses) (tokens ++ token_at text kind size offset ∷ [])

-- the script is read up to its end, and these are its tokens
pub record Tokens (text : Text) (tokens : List Token) : Type 0 where
  pub offset : ℕ
  pub open_parentheses : ℕ
  pub before : List Token
  pub read : ReadTo text offset open_parentheses before
  pub ends : piece_at text open_parentheses offset ≡ EndOfScript
  pub are : tokens ≡ before ++ token_at text End 0 offset ∷ []

-- the script is read up to a fault, which is on this line
pub record LexFault (text : Text) (kind : LexKind) (line : ℕ) : Type 0 where
  pub offset : ℕ
  pub open_parentheses : ℕ
  pub before : List Token
  pub read : ReadTo text offset open_parentheses before
  pub fails : piece_at text open_parentheses offset ≡ Fault kind
  pub is : line ≡ line_at text offset

abbrev pub IsTokenOrEnd : Piece → Type 0
IsTokenOrEnd (One kind size) = ⊤
IsTokenOrEnd EndOfScript = ⊤
IsTokenOrEnd _ = ⊥

-- the script is read up to a token or its end, for which there was no memory
pub record LacksMemory (text : Text) : Type 0 where
  pub offset : ℕ
  pub open_parentheses : ℕ
  pub before : List Token
  pub read : ReadTo text offset open_parentheses before
  pub stops : IsTokenOrEnd (piece_at text open_parentheses offset)

-- what an error says of the script; out of memory never comes in place of a fault
abbrev pub IsFault : Text → LexError → Type 0
IsFault text (e.Fault kind line) = LexFault text kind line
IsFault text e.Memory = LacksMemory text

-- ==== What a list of tokens of a text is: what the parser needs of it.

abbrev pub bytes_of : Text → Token → Text
bytes_of text it = slice_range text it.start it.end

-- the token is in the text
pub record IsTokenOf (text : Text) (it : Token) : Type 0 where
  pub ordered : it.start ≤ it.end
  pub inside : it.end ≤ length text
  pub starts_whole : IsCharBoundary text it.start
  pub ends_whole : IsCharBoundary text it.end
  pub spelled : Spells it.kind (bytes_of text it)
  pub line : it.line ≡ line_at text it.start
  pub first_line : 1 ≤ it.line
  pub last_line : it.line ≤ 1 + count_by is_newline text

-- the tokens follow one another in the text, and only the last one is its end
pub record IsTokenList (text : Text) (tokens : List Token) : Type 0 where
  pub some : 0 < length tokens
  pub ended : (k : ℕ) (d : Token) → k < length tokens → ((slice_index_or tokens k d).kind ≡ End) ↔ (k + 1 ≡ length tokens)
  pub each : All (IsTokenOf text) tokens
  pub apart : AllAdjacentBelow (λ one next. one.end ≤ next.start) tokens (length tokens)
  pub lines_rise : AllAdjacentBelow (λ one next. one.line ≤ next.line) tokens (length tokens)

-- ==== The names of the faults of a text, as they are printed.

abbrev pub lex_kind_name : LexKind → Text
lex_kind_name FloatLiteral = codes "FloatLiteral"
lex_kind_name IntRange = codes "IntRange"
lex_kind_name OpenString = codes "OpenString"
lex_kind_name OpenComment = codes "OpenComment"
lex_kind_name BadChar = codes "BadChar"
