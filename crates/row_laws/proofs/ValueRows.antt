-- Each is computed.
use Rattle.std.proofs.Common.{refl}
use Rattle.std.specs.Fmt.{digits}
use lib.Utf8.{encode}
use Rattle.std.specs.Str.{chars}
use Rattle.avs_values.specs.Binding.{bind}
use Rattle.row_laws.specs.ValueRows.{OperatorRows, NumberRows, TextRows, OtherValueRows}

pub operator_rows : OperatorRows
unfolding bind chars encode digits
operator_rows = record {
  sum = refl;
  sum_too_large = refl;
  joined = refl;
  mixed_sum = refl;
  sum_of_truths = refl;
  difference = refl;
  difference_too_small = refl;
  difference_of_texts = refl;
  product = refl;
  product_too_large = refl;
  least_product = refl;
  quotient = refl;
  negative_quotient = refl;
  quotient_by_a_negative = refl;
  no_quotient = refl;
  quotient_too_large = refl;
  remainder = refl;
  negative_remainder = refl;
  remainder_by_a_negative = refl;
  no_remainder = refl;
  remainder_of_the_least = refl;
  equal = refl;
  equal_texts = refl;
  equal_truths = refl;
  not_comparable = refl;
  no_equal = refl;
  different = refl;
  different_texts = refl;
  different_truths = refl;
  less = refl;
  not_less = refl;
  no_order_of_texts = refl;
  at_most = refl;
  greater = refl;
  not_greater = refl;
  at_least = refl;
  clips = refl;
  negative = refl;
  negative_too_large = refl;
  negative_text = refl;
  not = refl;
  not_a_truth = refl;
}

pub number_rows : NumberRows
unfolding bind chars encode digits
number_rows = record {
  abs = refl;
  abs_too_large = refl;
  sign_below = refl;
  sign_of_zero = refl;
  sign_above = refl;
  min = refl;
  max = refl;
  max_of_one = refl;
  max_of_texts = refl;
  bit_and = refl;
  bit_or = refl;
  bit_xor = refl;
  bit_not = refl;
  bits_of_minus_one = refl;
  value = refl;
  value_of_a_word = refl;
  value_of_nothing = refl;
  value_too_large = refl;
  hex_value = refl;
  hex_value_of_all_bits = refl;
  hex_value_of_a_word = refl;
  hex_value_too_long = refl;
  hex = refl;
  hex_of_zero = refl;
  hex_of_minus_one = refl;
  string_of_a_number = refl;
  string_of_a_truth = refl;
  string_of_a_text = refl;
  string_of_nothing = refl;
  string_of_a_clip = refl;
}

pub text_rows : TextRows
unfolding bind chars encode digits
text_rows = record {
  length = refl;
  length_of_one = refl;
  upper = refl;
  lower = refl;
  only_ascii = refl;
  reversed = refl;
  reversed_characters = refl;
  left = refl;
  left_of_more = refl;
  left_of_fewer = refl;
  right = refl;
  right_of_more = refl;
  right_of_none = refl;
  right_of_fewer = refl;
  middle = refl;
  middle_to_the_end = refl;
  middle_past_the_end = refl;
  middle_before_the_start = refl;
  middle_of_fewer = refl;
  middle_named = refl;
  middle_misnamed = refl;
  found = refl;
  found_with_case = refl;
  found_nothing = refl;
  found_in_nothing = refl;
  character = refl;
  character_below = refl;
  character_above = refl;
  number = refl;
  number_of_two_bytes = refl;
  number_of_nothing = refl;
}

pub other_value_rows : OtherValueRows
unfolding bind chars encode digits
other_value_rows = record {
  select = refl;
  select_past_the_end = refl;
  select_below = refl;
  select_of_none = refl;
  defined = refl;
  not_defined = refl;
  default = refl;
  no_default = refl;
  assert_ = refl;
  assert_fails = refl;
  assert_without_a_message = refl;
  assert_a_number = refl;
  is_bool = refl;
  is_no_bool = refl;
  is_int = refl;
  is_no_int = refl;
  is_string = refl;
  is_no_string = refl;
  is_clip = refl;
  is_no_clip = refl;
  nop = refl;
  nop_of_one = refl;
  nice = refl;
  multi = refl;
  serialized = refl;
}
