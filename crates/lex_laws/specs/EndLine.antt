-- The line `__END__`, and what follows it.
use Rattle.std.specs.Prelude.{◌≡◌, List, [], ◌∷◌, ◌++◌, length, codes, IsTrue}
use Rattle.std.specs.List.{list_all}
use Rattle.avs_lex.specs.declared.token.Token.{Token}
use Rattle.avs_lex.specs.Spelling.{Text, newline, is_blank}
use Rattle.avs_lex.specs.Tokens.{Tokens}

-- `__END__`, blanks around it, and the newline
pub record IsEndLine (line : Text) : Type 0 where
  pub left : Text
  pub right : Text
  pub is : line ≡ left ++ (codes "__END__" ++ (right ++ newline ∷ []))
  pub left_blank : IsTrue (list_all is_blank left)
  pub right_blank : IsTrue (list_all is_blank right)

-- these are the tokens of the two texts in a row, and the script ends between the two
pub record EndsBetween (head rest : Text) (tokens : List Token) : Type 0 where
  pub are : Tokens (head ++ rest) tokens
  pub at : are.offset ≡ length head

-- what follows the line changes nothing
abbrev pub RestIsNotRead : Type 0
RestIsNotRead = (head line rest other : Text) (tokens : List Token) → IsEndLine line → EndsBetween head (line ++ rest) tokens → EndsBetween head (line ++ other) tokens
