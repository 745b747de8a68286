-- Each is computed.
use Rattle.std.proofs.Common.{refl}
use Rattle.avs_lex.specs.Piece.{front}
use Rattle.avs_parse.specs.Load.{tokens_of}
use Rattle.row_laws.specs.TokenRows.{TokenRows, LexFaultRows}

pub token_rows : TokenRows
unfolding tokens_of front
token_rows = record {
  numbers = refl;
  names = refl;
  strings = refl;
  string_of_two_lines = refl;
  operators = refl;
  single_characters = refl;
  three_of_a_kind = refl;
  comments = refl;
  joined_at_the_end = refl;
  joined_at_the_start = refl;
  in_parentheses = refl;
  end = refl;
  no_end = refl;
  mark = refl;
  empty = refl;
}

pub lex_fault_rows : LexFaultRows
unfolding tokens_of front
lex_fault_rows = record {
  float = refl;
  float_without_a_digit_before = refl;
  float_without_a_digit_after = refl;
  number_too_large = refl;
  digits_too_many = refl;
  large_float = refl;
  open_string = refl;
  open_long_string = refl;
  open_comment = refl;
  open_nested_comment = refl;
  one_ampersand = refl;
  no_digits = refl;
  backslash = refl;
  backslash_before_a_comment = refl;
  first_of_two = refl;
}
