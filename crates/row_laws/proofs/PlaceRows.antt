-- Each is computed.
use Rattle.std.proofs.Common.{refl}
use Rattle.avs_lex.specs.Piece.{front}
use Rattle.avs_parse.specs.Load.{tokens_of, script_of}
use Rattle.avs_tree.specs.Lexeme.{unquoted, lexeme_of, spells_name, is_name, keyword_of, type_word_of, is_punctuation, operator_at}
use Rattle.avs_tree.specs.Machine.{operand, continues, grow, reach, closing_argument}
use Rattle.avs_tree.specs.Place.{verdict}
use Rattle.row_laws.specs.PlaceRows.{TreeRows, PlaceRows}

pub tree_rows : TreeRows
unfolding script_of tokens_of front lexeme_of unquoted spells_name is_name keyword_of type_word_of is_punctuation operator_at operand continues grow reach closing_argument verdict
tree_rows = record {
  sum = refl;
  difference = refl;
  parentheses = refl;
  choice = refl;
  dot = refl;
  branches = refl;
  function = refl;
  empty = refl;
}

pub place_rows : PlaceRows
unfolding script_of tokens_of front lexeme_of unquoted spells_name is_name keyword_of type_word_of is_punctuation operator_at operand continues grow reach closing_argument verdict
place_rows = record {
  no_operand = refl;
  open_call = refl;
  open_brace = refl;
  no_brace = refl;
  closing_brace = refl;
  comparisons = refl;
  statements = refl;
  no_type = refl;
  required_after_optional = refl;
  word = refl;
  lexical_first = refl;
  open_string = refl;
  too_deep = refl;
  not_too_deep = refl;
}
