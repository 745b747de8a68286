-- The operators and the functions without state, each on a few values.
use Rattle.std.specs.Prelude.{◌≡◌, ℕ, pos, negsuc, ◌-ℤ◌, List, [], ◌∷◌, map, codes, true, false, Option, Some, None, option_map, Ok, Err}
use Rattle.avs_values.specs.Binding.{bind}
use Rattle.avs_values.specs.Functions.{plain, signature}
use Rattle.avs_values.specs.Operators.{binary, unary}
use Rattle.avs_values.specs.Values.{Outcome, Refusal}
use Rattle.avs_values.specs.Values as f
use Rattle.avs_values.specs.declared.binding.Given.{Given}
use Rattle.avs_values.specs.declared.operators.BinaryOp.TheVariants as o
use Rattle.avs_values.specs.declared.operators.UnaryOp.TheVariants as u
use Rattle.avs_values.specs.declared.plain_fn.PlainFn.{PlainFn}
use Rattle.avs_values.specs.declared.plain_fn.PlainFn.TheVariants as p
use Rattle.avs_values.specs.declared.value.Value.{Value}
use Rattle.avs_values.specs.declared.value.Value.TheVariants as v

-- a number, and one below 0
abbrev pub n : ℕ → Value
n k = v.Int (pos k)

abbrev pub minus : ℕ → Value
minus k = v.Int (pos 0 -ℤ pos k)

-- the least and the greatest number of 64 bits
abbrev pub least : Value
least = v.Int (negsuc 9223372036854775807)

abbrev pub greatest : Value
greatest = n 9223372036854775807

abbrev pub unnamed : Value → Given
unnamed x = record { name = None; value = x }

-- a call with these arguments: none where they don't fit
abbrev pub call : PlainFn → List Given → Option Outcome
call function arguments = option_map (plain function) (bind (signature function) arguments)

abbrev pub on : PlainFn → List Value → Option Outcome
on function values = call function (map unnamed values)

-- a value, and a refusal
abbrev pub is : Value → Option Outcome
is x = Some (Ok x)

abbrev pub no : Refusal → Option Outcome
no refusal = Some (Err refusal)

pub record OperatorRows : Type 0 where
  pub sum : binary o.Add (n 2) (n 3) ≡ Ok (n 5)
  pub sum_too_large : binary o.Add greatest (n 1) ≡ Err f.Overflow
  pub joined : binary o.Add (v.Text (codes "ab")) (v.Text (codes "C")) ≡ Ok (v.Text (codes "abC"))
  pub mixed_sum : binary o.Add (n 1) (v.Text (codes "a")) ≡ Err f.TypeFault
  pub sum_of_truths : binary o.Add (v.Bool true) (v.Bool true) ≡ Err f.TypeFault
  pub difference : binary o.Subtract (n 2) (n 5) ≡ Ok (minus 3)
  pub difference_too_small : binary o.Subtract least (n 1) ≡ Err f.Overflow
  pub difference_of_texts : binary o.Subtract (v.Text (codes "ab")) (v.Text (codes "b")) ≡ Err f.TypeFault
  pub product : binary o.Multiply (minus 4) (n 3) ≡ Ok (minus 12)
  -- 2 ^ 62 times 2, and times -2
  pub product_too_large : binary o.Multiply (n 4611686018427387904) (n 2) ≡ Err f.Overflow
  pub least_product : binary o.Multiply (n 4611686018427387904) (minus 2) ≡ Ok least
  -- towards 0
  pub quotient : binary o.Divide (n 7) (n 2) ≡ Ok (n 3)
  pub negative_quotient : binary o.Divide (minus 7) (n 2) ≡ Ok (minus 3)
  pub quotient_by_a_negative : binary o.Divide (n 7) (minus 2) ≡ Ok (minus 3)
  pub no_quotient : binary o.Divide (n 1) (n 0) ≡ Err f.DivZero
  pub quotient_too_large : binary o.Divide least (minus 1) ≡ Err f.Overflow
  -- with the sign of the left operand
  pub remainder : binary o.Remainder (n 7) (n 3) ≡ Ok (n 1)
  pub negative_remainder : binary o.Remainder (minus 7) (n 3) ≡ Ok (minus 1)
  pub remainder_by_a_negative : binary o.Remainder (n 7) (minus 3) ≡ Ok (n 1)
  pub no_remainder : binary o.Remainder (n 1) (n 0) ≡ Err f.DivZero
  pub remainder_of_the_least : binary o.Remainder least (minus 1) ≡ Ok (n 0)
  pub equal : binary o.Equal (n 3) (n 3) ≡ Ok (v.Bool true)
  -- the case of letters doesn't count
  pub equal_texts : binary o.Equal (v.Text (codes "aBc")) (v.Text (codes "AbC")) ≡ Ok (v.Bool true)
  pub equal_truths : binary o.Equal (v.Bool false) (v.Bool false) ≡ Ok (v.Bool true)
  pub not_comparable : binary o.Equal (n 1) (v.Text (codes "1")) ≡ Err f.TypeFault
  pub no_equal : binary o.Equal v.Undefined v.Undefined ≡ Err f.TypeFault
  pub different : binary o.NotEqual (n 3) (minus 3) ≡ Ok (v.Bool true)
  pub different_texts : binary o.NotEqual (v.Text (codes "a")) (v.Text (codes "b")) ≡ Ok (v.Bool true)
  pub different_truths : binary o.NotEqual (v.Bool true) (v.Bool true) ≡ Ok (v.Bool false)
  pub less : binary o.Less (minus 3) (n 2) ≡ Ok (v.Bool true)
  pub not_less : binary o.Less (n 2) (n 2) ≡ Ok (v.Bool false)
  pub no_order_of_texts : binary o.Less (v.Text (codes "a")) (v.Text (codes "b")) ≡ Err f.TypeFault
  pub at_most : binary o.LessEqual (n 2) (n 2) ≡ Ok (v.Bool true)
  pub greater : binary o.Greater (n 2) (minus 3) ≡ Ok (v.Bool true)
  pub not_greater : binary o.Greater (n 2) (n 2) ≡ Ok (v.Bool false)
  pub at_least : binary o.GreaterEqual (n 1) (n 2) ≡ Ok (v.Bool false)
  -- clips are joined elsewhere
  pub clips : binary o.Add (v.Clip 0) (v.Clip 1) ≡ Err f.TypeFault
  pub negative : unary u.Negative (n 5) ≡ Ok (minus 5)
  pub negative_too_large : unary u.Negative least ≡ Err f.Overflow
  pub negative_text : unary u.Negative (v.Text (codes "1")) ≡ Err f.TypeFault
  pub not : unary u.Not (v.Bool true) ≡ Ok (v.Bool false)
  pub not_a_truth : unary u.Not (n 1) ≡ Err f.TypeFault

pub record NumberRows : Type 0 where
  pub abs : on p.Abs ((minus 5) ∷ []) ≡ is (n 5)
  pub abs_too_large : on p.Abs (least ∷ []) ≡ no f.Overflow
  pub sign_below : on p.Sign ((minus 5) ∷ []) ≡ is (minus 1)
  pub sign_of_zero : on p.Sign ((n 0) ∷ []) ≡ is (n 0)
  pub sign_above : on p.Sign ((n 7) ∷ []) ≡ is (n 1)
  pub min : on p.Min ((n 3) ∷ (minus 2) ∷ (n 5) ∷ []) ≡ is (minus 2)
  pub max : on p.Max ((n 3) ∷ (minus 2) ∷ (n 5) ∷ (n 4) ∷ []) ≡ is (n 5)
  pub max_of_one : on p.Max ((n 3) ∷ []) ≡ None
  pub max_of_texts : on p.Max ((v.Text (codes "a")) ∷ (v.Text (codes "b")) ∷ []) ≡ None
  -- 1100 and 1010
  pub bit_and : on p.BitAnd ((n 12) ∷ (n 10) ∷ []) ≡ is (n 8)
  pub bit_or : on p.BitOr ((n 12) ∷ (n 10) ∷ []) ≡ is (n 14)
  pub bit_xor : on p.BitXor ((n 12) ∷ (n 10) ∷ []) ≡ is (n 6)
  -- two's complement
  pub bit_not : on p.BitNot ((n 5) ∷ []) ≡ is (minus 6)
  pub bits_of_minus_one : on p.BitAnd ((minus 1) ∷ (n 255) ∷ []) ≡ is (n 255)
  pub value : on p.Value ((v.Text (codes "-042")) ∷ []) ≡ is (minus 42)
  pub value_of_a_word : on p.Value ((v.Text (codes "1x")) ∷ []) ≡ no f.BadText
  pub value_of_nothing : on p.Value ((v.Text (codes "")) ∷ []) ≡ no f.BadText
  pub value_too_large : on p.Value ((v.Text (codes "9223372036854775808")) ∷ []) ≡ no f.Overflow
  pub hex_value : on p.HexValue ((v.Text (codes "fF")) ∷ []) ≡ is (n 255)
  pub hex_value_of_all_bits : on p.HexValue ((v.Text (codes "FFFFFFFFFFFFFFFF")) ∷ []) ≡ is (minus 1)
  pub hex_value_of_a_word : on p.HexValue ((v.Text (codes "G")) ∷ []) ≡ no f.BadText
  pub hex_value_too_long : on p.HexValue ((v.Text (codes "00000000000000001")) ∷ []) ≡ no f.BadText
  pub hex : on p.Hex ((n 255) ∷ []) ≡ is (v.Text (codes "FF"))
  pub hex_of_zero : on p.Hex ((n 0) ∷ []) ≡ is (v.Text (codes "0"))
  pub hex_of_minus_one : on p.Hex ((minus 1) ∷ []) ≡ is (v.Text (codes "FFFFFFFFFFFFFFFF"))
  pub string_of_a_number : on p.String ((minus 7) ∷ []) ≡ is (v.Text (codes "-7"))
  pub string_of_a_truth : on p.String ((v.Bool true) ∷ []) ≡ is (v.Text (codes "true"))
  pub string_of_a_text : on p.String ((v.Text (codes "a")) ∷ []) ≡ is (v.Text (codes "a"))
  pub string_of_nothing : on p.String (v.Undefined ∷ []) ≡ no f.TypeFault
  pub string_of_a_clip : on p.String ((v.Clip 0) ∷ []) ≡ no f.TypeFault

pub record TextRows : Type 0 where
  pub length : on p.StrLen ((v.Text (codes "AviSynth")) ∷ []) ≡ is (n 8)
  -- a character of two bytes, U+00E9
  pub length_of_one : on p.StrLen ((v.Text (195 ∷ 169 ∷ [])) ∷ []) ≡ is (n 1)
  pub upper : on p.UCase ((v.Text (codes "aBc1")) ∷ []) ≡ is (v.Text (codes "ABC1"))
  pub lower : on p.LCase ((v.Text (codes "aBc1")) ∷ []) ≡ is (v.Text (codes "abc1"))
  pub only_ascii : on p.UCase ((v.Text (195 ∷ 169 ∷ [])) ∷ []) ≡ is (v.Text (195 ∷ 169 ∷ []))
  pub reversed : on p.RevStr ((v.Text (codes "AviSynth")) ∷ []) ≡ is (v.Text (codes "htnySivA"))
  pub reversed_characters : on p.RevStr ((v.Text (97 ∷ 195 ∷ 169 ∷ [])) ∷ []) ≡ is (v.Text (195 ∷ 169 ∷ 97 ∷ []))
  pub left : on p.LeftStr ((v.Text (codes "AviSynth")) ∷ (n 3) ∷ []) ≡ is (v.Text (codes "Avi"))
  pub left_of_more : on p.LeftStr ((v.Text (codes "Avi")) ∷ (n 9) ∷ []) ≡ is (v.Text (codes "Avi"))
  pub left_of_fewer : on p.LeftStr ((v.Text (codes "Avi")) ∷ (minus 1) ∷ []) ≡ no f.BadRange
  pub right : on p.RightStr ((v.Text (codes "AviSynth")) ∷ (n 5) ∷ []) ≡ is (v.Text (codes "Synth"))
  pub right_of_more : on p.RightStr ((v.Text (codes "Avi")) ∷ (n 9) ∷ []) ≡ is (v.Text (codes "Avi"))
  pub right_of_none : on p.RightStr ((v.Text (codes "Avi")) ∷ (n 0) ∷ []) ≡ is (v.Text (codes ""))
  pub right_of_fewer : on p.RightStr ((v.Text (codes "Avi")) ∷ (minus 1) ∷ []) ≡ no f.BadRange
  pub middle : on p.MidStr ((v.Text (codes "AviSynth")) ∷ (n 3) ∷ (n 2) ∷ []) ≡ is (v.Text (codes "iS"))
  pub middle_to_the_end : on p.MidStr ((v.Text (codes "AviSynth")) ∷ (n 4) ∷ []) ≡ is (v.Text (codes "Synth"))
  pub middle_past_the_end : on p.MidStr ((v.Text (codes "Avi")) ∷ (n 4) ∷ []) ≡ is (v.Text (codes ""))
  pub middle_before_the_start : on p.MidStr ((v.Text (codes "Avi")) ∷ (n 0) ∷ []) ≡ no f.BadRange
  pub middle_of_fewer : on p.MidStr ((v.Text (codes "Avi")) ∷ (n 1) ∷ (minus 1) ∷ []) ≡ no f.BadRange
  -- MidStr("AviSynth", 3, length=4), and with another name
  pub middle_named : call p.MidStr (unnamed (v.Text (codes "AviSynth")) ∷ unnamed (n 3) ∷ record { name = Some (codes "Length"); value = n 4 } ∷ []) ≡ is (v.Text (codes "iSyn"))
  pub middle_misnamed : call p.MidStr (unnamed (v.Text (codes "AviSynth")) ∷ unnamed (n 3) ∷ record { name = Some (codes "size"); value = n 4 } ∷ []) ≡ None
  pub found : on p.FindStr ((v.Text (codes "AviSynth")) ∷ (v.Text (codes "Syn")) ∷ []) ≡ is (n 4)
  pub found_with_case : on p.FindStr ((v.Text (codes "AviSynth")) ∷ (v.Text (codes "syn")) ∷ []) ≡ is (n 0)
  pub found_nothing : on p.FindStr ((v.Text (codes "abc")) ∷ (v.Text (codes "")) ∷ []) ≡ is (n 1)
  pub found_in_nothing : on p.FindStr ((v.Text (codes "")) ∷ (v.Text (codes "")) ∷ []) ≡ is (n 1)
  pub character : on p.Chr ((n 65) ∷ []) ≡ is (v.Text (codes "A"))
  pub character_below : on p.Chr ((n 0) ∷ []) ≡ no f.BadRange
  pub character_above : on p.Chr ((n 128) ∷ []) ≡ no f.BadRange
  pub number : on p.Ord ((v.Text (codes "Avi")) ∷ []) ≡ is (n 65)
  pub number_of_two_bytes : on p.Ord ((v.Text (195 ∷ 169 ∷ [])) ∷ []) ≡ is (n 233)
  pub number_of_nothing : on p.Ord ((v.Text (codes "")) ∷ []) ≡ no f.BadText

pub record OtherValueRows : Type 0 where
  -- counted from 0
  pub select : on p.Select ((n 1) ∷ (v.Text (codes "a")) ∷ (v.Text (codes "b")) ∷ []) ≡ is (v.Text (codes "b"))
  pub select_past_the_end : on p.Select ((n 2) ∷ (v.Text (codes "a")) ∷ (v.Text (codes "b")) ∷ []) ≡ no f.BadRange
  pub select_below : on p.Select ((minus 1) ∷ (v.Text (codes "a")) ∷ []) ≡ no f.BadRange
  pub select_of_none : on p.Select ((n 0) ∷ []) ≡ None
  pub defined : on p.Defined ((n 0) ∷ []) ≡ is (v.Bool true)
  pub not_defined : on p.Defined (v.Undefined ∷ []) ≡ is (v.Bool false)
  pub default : on p.Default (v.Undefined ∷ (n 5) ∷ []) ≡ is (n 5)
  pub no_default : on p.Default ((n 3) ∷ (n 5) ∷ []) ≡ is (n 3)
  pub assert_ : on p.Assert ((v.Bool true) ∷ (v.Text (codes "m")) ∷ []) ≡ is v.Undefined
  pub assert_fails : on p.Assert ((v.Bool false) ∷ (v.Text (codes "m")) ∷ []) ≡ no (f.AssertFailed (codes "m"))
  pub assert_without_a_message : on p.Assert ((v.Bool false) ∷ []) ≡ no (f.AssertFailed (codes "Assert"))
  pub assert_a_number : on p.Assert ((n 1) ∷ []) ≡ None
  pub is_bool : on p.IsBool ((v.Bool false) ∷ []) ≡ is (v.Bool true)
  pub is_no_bool : on p.IsBool ((n 0) ∷ []) ≡ is (v.Bool false)
  pub is_int : on p.IsInt ((n 0) ∷ []) ≡ is (v.Bool true)
  pub is_no_int : on p.IsInt ((v.Text (codes "0")) ∷ []) ≡ is (v.Bool false)
  pub is_string : on p.IsString ((v.Text (codes "")) ∷ []) ≡ is (v.Bool true)
  pub is_no_string : on p.IsString (v.Undefined ∷ []) ≡ is (v.Bool false)
  pub is_clip : on p.IsClip ((v.Clip 0) ∷ []) ≡ is (v.Bool true)
  pub is_no_clip : on p.IsClip ((n 0) ∷ []) ≡ is (v.Bool false)
  pub nop : on p.Nop [] ≡ is (n 0)
  pub nop_of_one : on p.Nop ((n 1) ∷ []) ≡ None
  pub nice : on p.MtNiceFilter [] ≡ is (n 1)
  pub multi : on p.MtMultiInstance [] ≡ is (n 2)
  pub serialized : on p.MtSerialized [] ≡ is (n 3)
