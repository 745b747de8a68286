-- What holds of the text of a script.
use Rattle.std.specs.Prelude.{◌≡◌, List}
use Rattle.avs_lex.specs.Tokens.{Tokens, IsTokenList}
use Rattle.avs_lex.specs.declared.token.Token.{Token}
use Rattle.avs_tree.specs.Lexeme.{lexemes}
use Rattle.avs_lex.specs.Spelling.{Text}
use Rattle.avs_tree.specs.Tree.{Script}
use Rattle.avs_tree.specs.Grammar.{HasTree}
use Rattle.avs_print.specs.WithoutLines.{script_without_lines}
use Rattle.avs_print.specs.Printed.{printed}

-- A text has this script as its tree, apart from lines, and no other.
pub record ReadsBackAs (text : Text) (tree : Script) : Type 0 where
  pub tokens : List Token
  pub tokens_are : Tokens text tokens
  pub again : Script
  pub tree_is : HasTree (lexemes text tokens) again
  pub same : (others : List Token) (other : Script) → Tokens text others → HasTree (lexemes text others) other → script_without_lines other ≡ script_without_lines tree

-- The text of a script that was read is read as that script again.
abbrev pub PrintedIsRead : Type 0
PrintedIsRead = (text : Text) (tokens : List Token) (tree : Script) → IsTokenList text tokens → HasTree (lexemes text tokens) tree → ReadsBackAs (printed tree) tree
