-- The tokens and the tree of a text as functions of it.
use Rattle.std.specs.Prelude.{ℕ, zero, suc, ◌+◌, List, [], ◌∷◌, ◌++◌, length, Result, Ok, Err, ◌-◌, drop, slice_get, Option, Some, None}
use Rattle.avs_lex.specs.Spelling.{Text}
use Rattle.avs_lex.specs.Tokens.{start_of, line_at as line_of_offset, piece_at, token_at, open_parentheses_after}
use Rattle.avs_lex.specs.declared.fault.LexKind.{LexKind}
use Rattle.avs_lex.specs.declared.fault.LexKind.TheVariants.{BadChar}
use Rattle.avs_lex.specs.declared.piece.Piece.{Piece}
use Rattle.avs_lex.specs.declared.piece.Piece.TheVariants.{Blank, One, EndOfScript, Fault}
use Rattle.avs_lex.specs.declared.token.Token.{Token}
use Rattle.avs_lex.specs.declared.token.TokenKind.TheVariants.{End}
use Rattle.avs_tree.specs.Lexeme.{Lexemes, lexemes}
use Rattle.avs_tree.specs.Lexeme as x
use Rattle.avs_tree.specs.Place.{Verdict, accepts, stops, too_deep, verdict}
use Rattle.avs_tree.specs.Tree.{Loaded, NoTree, lexical, syntax, nests}

-- ==== The tokens of a text as a function of it.

-- the tokens, or the kind of the first fault and its line
abbrev pub Reading : Type 0
Reading = Result (List Token) (LexKind × ℕ)

module _ (text : Text) where
  -- the rest is read after the piece that comes next
  abbrev pub read_by : Piece → ℕ → ℕ → List Token → (ℕ → ℕ → List Token → Reading) → Reading
  read_by (Blank size) offset open_parentheses tokens rest = rest (offset + size) open_parentheses tokens
  read_by (One kind size) offset open_parentheses tokens rest = rest (offset + size) (open_parentheses_after kind open_parentheses) (tokens ++ token_at text kind size offset ∷ [])
  read_by EndOfScript offset open_parentheses tokens rest = Ok (tokens ++ token_at text End 0 offset ∷ [])
  read_by (Fault kind) offset open_parentheses tokens rest = Err (kind, line_of_offset text offset)

  -- The text is read on from an offset, by so many pieces at most. That none is left never comes: each piece has a character.
  abbrev pub read_on : ℕ → ℕ → ℕ → List Token → Reading
  read_on zero offset open_parentheses tokens = Err (BadChar, 0)
  read_on (suc n) offset open_parentheses tokens = read_by (piece_at text open_parentheses offset) offset open_parentheses tokens (read_on n)

unfoldable pub tokens_of : Text → Reading
tokens_of text = read_on text (length text + 1) (start_of text) 0 []

-- ==== The tree of a text as a function of it.

abbrev pub line_of : Option Token → ℕ
line_of None = 0
line_of (Some token) = token.line

-- the line of the last token
abbrev pub last_line : List Token → ℕ
last_line tokens = line_of (slice_get tokens (length tokens - 1))

-- the line of the token from which on this many are left
abbrev pub line_at : ℕ → Lexemes → ℕ
line_at left ts = x.line_of (drop (length ts - left) ts)

-- what the machine answers of tokens, of which the last one is on this line
abbrev pub tree_by : Verdict → Lexemes → ℕ → Result Loaded NoTree
tree_by (accepts tree) ts last = Ok (record { tree = tree; last_line = last })
tree_by (stops left) ts last = Err (syntax (line_at left ts))
tree_by (too_deep left) ts last = Err (nests (line_at left ts))

-- what is read is parsed
abbrev pub script_by : Text → Reading → Result Loaded NoTree
script_by text (Ok tokens) = tree_by (verdict (lexemes text tokens)) (lexemes text tokens) (last_line tokens)
script_by text (Err fault) = Err (lexical fault.0 fault.1)

unfoldable pub script_of : Text → Result Loaded NoTree
script_of text = script_by text (tokens_of text)
