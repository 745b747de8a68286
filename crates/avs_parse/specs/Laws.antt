-- The functions are what the definitions of tokens and of the grammar say of a text.
use Rattle.std.specs.Prelude.{◌≡◌, ◌↔◌, ℕ, ◌-◌, List, length, drop, Ok, Err}
use Rattle.avs_lex.specs.declared.fault.LexKind.{LexKind}
use Rattle.avs_lex.specs.declared.token.Token.{Token}
use Rattle.avs_lex.specs.Spelling.{Text}
use Rattle.avs_lex.specs.Tokens.{Tokens, LexFault}
use Rattle.avs_tree.specs.Lexeme.{Lexemes, lexemes, line_of}
use Rattle.avs_tree.specs.Tree.{Loaded, lexical, syntax, nests}
use Rattle.avs_tree.specs.Grammar.{HasTree}
use Rattle.avs_tree.specs.Place.{StopsAt, DeepAt}
use Rattle.avs_parse.specs.Load.{tokens_of, last_line, script_of}

-- ---- tokens

abbrev pub TokensAreFound : Type 0
TokensAreFound = (text : Text) (tokens : List Token) → (tokens_of text ≡ Ok tokens) ↔ Tokens text tokens

abbrev pub FirstFaultIsFound : Type 0
FirstFaultIsFound = (text : Text) (kind : LexKind) (line : ℕ) → (tokens_of text ≡ Err (kind, line)) ↔ LexFault text kind line

-- ---- trees

-- the tokens of the text have this tree, and the last of them is on this line
pub record HasScript (text : Text) (loaded : Loaded) : Type 0 where
  pub tokens : List Token
  pub tokens_are : Tokens text tokens
  pub tree_is : HasTree (lexemes text tokens) loaded.tree
  pub ends_on : last_line tokens ≡ loaded.last_line

-- The text has tokens, and this holds of the number of those from one of them on, which is on this line.
pub record HasPlace (Is : Lexemes → ℕ → Type 0) (text : Text) (line : ℕ) : Type 0 where
  pub tokens : List Token
  pub tokens_are : Tokens text tokens
  pub token : ℕ
  pub place : Is (lexemes text tokens) (length (lexemes text tokens) - token)
  pub line_is : line ≡ line_of (drop token (lexemes text tokens))

abbrev pub ScriptIsFound : Type 0
ScriptIsFound = (text : Text) (loaded : Loaded) → (script_of text ≡ Ok loaded) ↔ HasScript text loaded

abbrev pub FirstFaultIsTold : Type 0
FirstFaultIsTold = (text : Text) (kind : LexKind) (line : ℕ) → (script_of text ≡ Err (lexical kind line)) ↔ LexFault text kind line

abbrev pub SyntaxIsTold : Type 0
SyntaxIsTold = (text : Text) (line : ℕ) → (script_of text ≡ Err (syntax line)) ↔ HasPlace StopsAt text line

abbrev pub NestingIsTold : Type 0
NestingIsTold = (text : Text) (line : ℕ) → (script_of text ≡ Err (nests line)) ↔ HasPlace DeepAt text line
