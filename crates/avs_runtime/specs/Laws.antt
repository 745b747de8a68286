-- Which texts are expressions, by the relations of tokens and of the grammar.
use Rattle.std.specs.Prelude.{◌≡◌, ◌↔◌, ℕ, ◌≤◌, Bool, true, List, [], length, Some}
use Rattle.avs_lex.specs.Spelling.{Text}
use Rattle.avs_lex.specs.Tokens.{Tokens}
use Rattle.avs_lex.specs.declared.token.Token.{Token}
use Rattle.avs_tree.specs.Lexeme.{lexemes}
use Rattle.avs_tree.specs.Grammar.{HasTree}
use Rattle.avs_tree.specs.Tree as t
use Rattle.avs_parse.specs.Load.{script_of}
use Rattle.clip_term.specs.Expression.{Expr, is_number}
use Rattle.avs_meaning.specs.Arguments.{expression_in, length_limit, part_of, planes_of}

-- the tokens of the text are one expression statement, whose parts are those of this expression, which is a number
pub record IsExpression (chroma : Bool) (text : Text) (e : Expr) : Type 0 where
  pub short : length text ≤ length_limit
  pub tokens : List Token
  pub tokens_are : Tokens text tokens
  pub statement : t.Expr
  pub line : ℕ
  pub tree_is : HasTree (lexemes text tokens) (record { functions = []; statements = t.then_ (t.value statement) line t.no_more })
  pub parts_are : part_of statement ≡ Some e
  pub number : is_number (planes_of chroma) e ≡ true

abbrev pub ExpressionIsFound : Type 0
ExpressionIsFound = (chroma : Bool) (text : Text) (e : Expr) → (expression_in script_of chroma text ≡ Some e) ↔ IsExpression chroma text e
