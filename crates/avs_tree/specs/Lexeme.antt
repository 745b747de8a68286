-- What the grammar sees of a token, and of the next one; and the words of the language.
use Rattle.std.specs.List.{list_all}
use Rattle.std.specs.Prelude.{Bool, List, [], ◌∷◌, codes, Option, Some, None, if◌then◌else◌, ◌-◌, ℕ, ◌&&◌, map, length, slice_range, slice_index, is_none, false, nat_eq}
use Rattle.std.specs.Str.{str_eq_ignore_ascii_case}
use denote.Enum.Bare.{sameb}
use Rattle.avs_lex.specs.Spelling.{Text, begins_name, continues_name, quotes_of}
use Rattle.avs_lex.specs.Tokens.{bytes_of}
use Rattle.avs_lex.specs.declared.token.Token.{Token}
use Rattle.avs_lex.specs.declared.token.TokenKind.{TokenKind}
use Rattle.avs_lex.specs.declared.token.TokenKind.TheVariants as k
use Rattle.avs_tree.specs.contracts.symbol.Punctuation.{the_type}
use Rattle.avs_tree.specs.contracts.words.Keyword as keyword
use Rattle.avs_tree.specs.contracts.words.TypeWord as type_word
use Rattle.avs_tree.specs.declared.symbol.Punctuation.{Punctuation}
use Rattle.avs_tree.specs.declared.symbol.Punctuation.TheVariants as m
use Rattle.avs_tree.specs.declared.symbol.Symbol.{Symbol}
use Rattle.avs_tree.specs.declared.symbol.Symbol.TheVariants as s
use Rattle.avs_tree.specs.declared.tree.Operator.{Operator}
use Rattle.avs_tree.specs.declared.tree.Operator.TheVariants as o
use Rattle.avs_tree.specs.declared.words.Keyword.{Keyword}
use Rattle.avs_tree.specs.declared.words.Keyword.TheVariants as w
use Rattle.avs_tree.specs.declared.words.TypeWord.{TypeWord}
use Rattle.avs_tree.specs.declared.words.TypeWord.TheVariants as y

-- ==== The words of the language: the reserved words and the words for the types of parameters, without regard to case
-- (AviSynth+ wiki, 'Grammar': "The full AviSynth grammar").

abbrev pub keywords : List (Text × Keyword)
keywords =
    (codes "function", w.Function)
    ∷ (codes "global", w.Global)
    ∷ (codes "return", w.Return)
    ∷ (codes "if", w.If)
    ∷ (codes "else", w.Else)
    ∷ (codes "while", w.While)
    ∷ (codes "for", w.For)
    ∷ (codes "true", w.True)
    ∷ (codes "yes", w.True)
    ∷ (codes "false", w.False)
    ∷ (codes "no", w.False)
    ∷ (codes "__END__", w.End)
    ∷ []

abbrev pub type_words : List (Text × TypeWord)
type_words = (codes "clip", y.Clip) ∷ (codes "int", y.Int) ∷ (codes "string", y.String) ∷ (codes "bool", y.Bool) ∷ (codes "val", y.Val) ∷ []

-- what the first row of this word means
abbrev pub meaning_in : {A : Type 0} → List (Text × A) → Text → Option A
meaning_in [] word = None
meaning_in (row ∷ rows) word = if str_eq_ignore_ascii_case word row.0 then Some row.1 else meaning_in rows word

-- the word of the first row of this meaning
abbrev pub word_in : {A : Type 0} → List (Text × A) → (A → Bool) → Text
word_in [] is = []
word_in (row ∷ rows) is = if is row.1 then row.0 else word_in rows is

unfoldable pub keyword_of : Text → Option Keyword
keyword_of = meaning_in keywords

unfoldable pub type_word_of : Text → Option TypeWord
type_word_of = meaning_in type_words

-- how a keyword and a type are written
abbrev pub word_of_keyword : Keyword → Text
word_of_keyword k = word_in keywords (λ other. sameb keyword.the_type other k)

abbrev pub word_of_type : TypeWord → Text
word_of_type y = word_in type_words (λ other. sameb type_word.the_type other y)

-- ==== What the grammar sees of a token: its symbol, what it says, and its line.

abbrev pub Lexeme : Type 0
Lexeme = Symbol × Text × ℕ

abbrev pub Lexemes : Type 0
Lexemes = List Lexeme

-- The precedence of an operator: products bind tightest, then sums, comparisons, `&&` and `||`.
abbrev pub precedence_of : Operator → ℕ
precedence_of o.Times = 3
precedence_of o.Divide = 3
precedence_of o.Remainder = 3
precedence_of o.Plus = 4
precedence_of o.Minus = 4
precedence_of o.PlusPlus = 4
precedence_of o.Equal = 5
precedence_of o.NotEqual = 5
precedence_of o.Less = 5
precedence_of o.LessEqual = 5
precedence_of o.Greater = 5
precedence_of o.GreaterEqual = 5
precedence_of o.And = 6
precedence_of o.Or = 7

-- what is between the quotes of a string
unfoldable pub unquoted : Text → Text
unquoted bytes = slice_range bytes (quotes_of bytes) (length bytes - quotes_of bytes)

-- what a token of this kind and of these bytes says
abbrev pub said : TokenKind → Text → Text
said k.Str bytes = unquoted bytes
said _ bytes = bytes

abbrev pub content_of : Text → Token → Text
content_of text t = said t.kind (bytes_of text t)

abbrev pub word_of : Option Keyword → Symbol
word_of None = s.Name
word_of (Some keyword) = s.Keyword keyword

abbrev pub symbol_by : TokenKind → Text → Symbol
symbol_by k.Ident x = word_of (keyword_of x)
symbol_by (k.Int n) x = s.Int n
symbol_by k.Str x = s.Str
symbol_by k.Newline x = s.Punctuation m.Newline
symbol_by k.End x = s.Punctuation m.End
symbol_by k.LeftParen x = s.Punctuation m.LeftParen
symbol_by k.RightParen x = s.Punctuation m.RightParen
symbol_by k.LeftBrace x = s.Punctuation m.LeftBrace
symbol_by k.RightBrace x = s.Punctuation m.RightBrace
symbol_by k.Comma x = s.Punctuation m.Comma
symbol_by k.Dot x = s.Punctuation m.Dot
symbol_by k.Assign x = s.Punctuation m.Assign
symbol_by k.Not x = s.Punctuation m.Not
symbol_by k.Question x = s.Punctuation m.Question
symbol_by k.Colon x = s.Punctuation m.Colon
symbol_by k.Equal x = s.Operator o.Equal
symbol_by k.NotEqual x = s.Operator o.NotEqual
symbol_by k.Less x = s.Operator o.Less
symbol_by k.LessEqual x = s.Operator o.LessEqual
symbol_by k.Greater x = s.Operator o.Greater
symbol_by k.GreaterEqual x = s.Operator o.GreaterEqual
symbol_by k.Plus x = s.Operator o.Plus
symbol_by k.PlusPlus x = s.Operator o.PlusPlus
symbol_by k.Minus x = s.Operator o.Minus
symbol_by k.Times x = s.Operator o.Times
symbol_by k.Divide x = s.Operator o.Divide
symbol_by k.Remainder x = s.Operator o.Remainder
symbol_by k.AndAnd x = s.Operator o.And
symbol_by k.OrOr x = s.Operator o.Or

abbrev pub symbol_of : Text → Token → Symbol
symbol_of text t = symbol_by t.kind (content_of text t)

unfoldable pub lexeme_of : Text → Token → Lexeme
lexeme_of text t = (symbol_of text t, content_of text t, t.line)

-- What the grammar sees of the tokens of a text.
abbrev pub lexemes : Text → List Token → Lexemes
lexemes text = map (lexeme_of text)

-- the line of the first of these
abbrev pub line_of : Lexemes → ℕ
line_of [] = 0
line_of (t ∷ ts) = t.2

-- a letter or `_`, and then letters, digits and `_`
unfoldable pub spells_name : Text → Bool
spells_name x = begins_name (slice_index x 0) && list_all continues_name x

-- a name, and no reserved word
unfoldable pub is_name : Text → Bool
is_name x = spells_name x && is_none (keyword_of x)

-- ==== The next token, as the machine asks for it: the symbols are those of the grammar of avs_tree.

abbrev pub peek : Lexemes → Option Symbol
peek [] = None
peek (t ∷ ts) = Some t.0

abbrev pub content_at : Lexemes → Text
content_at [] = []
content_at (t ∷ ts) = t.1

abbrev pub tail : Lexemes → Lexemes
tail [] = []
tail (t ∷ ts) = ts

abbrev pub punctuation_by : Punctuation → Option Symbol → Bool
punctuation_by punctuation (Some (s.Punctuation next)) = sameb the_type next punctuation
punctuation_by punctuation _ = false

unfoldable pub is_punctuation : Punctuation → Lexemes → Bool
is_punctuation punctuation ts = punctuation_by punctuation (peek ts)

abbrev pub operator_by : ℕ → Option Symbol → Option Operator
operator_by r (Some (s.Operator op)) = if nat_eq (precedence_of op) r then Some op else None
operator_by r _ = None

-- the operator that comes next, if it has the precedence
unfoldable pub operator_at : ℕ → Lexemes → Option Operator
operator_at r ts = operator_by r (peek ts)
