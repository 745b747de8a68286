-- The functions say TypeFault of no arguments that suit their signatures.
use Rattle.std.proofs.Common.{◌≡◌, ◌≢◌, ℕ, ℤ, pos, ◌-ℤ◌, ◌-◌, List, [], ◌∷◌, length, Bool, true, false, ◌&&◌, Option, Some, None, Ok, Err, refl, ap, sym, ◌∙◌, codes, int_lt, int_le, slice_get, if◌then◌else◌}
use Rattle.std.specs.Int.{w64, cast_signed, int_min, int_max}
use Rattle.std.specs.Int.RustNames.{unsigned_abs}
use Rattle.std.specs.List.{list_all}
use Rattle.std.specs.Str.{chars}
use Rattle.std.specs.Str.Parse.{digits_value, signed_digits_value}
use Rattle.avs_values.specs.Binding.{Bound, Suits, all_suit, rest_suits}
use Rattle.avs_values.specs.Functions.{plain, signature, required, optional, chosen, select, defined, default, assertion, is_of_kind, absolute, sign, folded, least, greatest, bit_and, bit_or, bit_xor, bit_not, is_decimal, value, is_hexadecimal, hex_value, hex, str_len, u_case, l_case, rev_str, first, after, at_most, left_str, right_str, cut, mid_str, position_from, find_str, chr, number_of, ord}
use Rattle.avs_values.specs.Laws.{BoundArgumentsHaveTheirKinds}
use Rattle.avs_values.specs.Values.{Outcome, number, is_number, Text, has_kind}
use Rattle.avs_values.specs.Values as f
use Rattle.avs_values.specs.declared.plain_fn.PlainFn.{PlainFn}
use Rattle.avs_values.specs.declared.plain_fn.PlainFn.TheVariants as p
use Rattle.avs_values.specs.declared.value.Kind.{Kind}
use Rattle.avs_values.specs.declared.value.Kind.TheVariants as k
use Rattle.avs_values.specs.declared.value.Value.{Value}
use Rattle.avs_values.specs.declared.value.Value.TheVariants as v

abbrev is_type_fault : Outcome → Bool
is_type_fault (Err f.TypeFault) = true
is_type_fault _ = false

either : (b : Bool) (x y : Outcome) → is_type_fault x ≡ false → is_type_fault y ≡ false → is_type_fault (if b then x else y) ≡ false
either true x y left right = left
either false x y left right = right

number_typed : (n : ℤ) → is_type_fault (number n) ≡ false
number_typed n = either (is_number n) (Ok (v.Int n)) (Err f.Overflow) refl refl

folded_typed : (pick : ℤ → ℤ → ℤ) (n : ℤ) (rest : List Value) → list_all (has_kind k.Int) rest ≡ true → is_type_fault (folded pick n rest) ≡ false
folded_typed pick n [] all = refl
folded_typed pick n (v.Int m ∷ rest) all = folded_typed pick (pick n m) rest all
folded_typed pick n (_ ∷ rest) all = absurd (cc)

at_most_typed : (n : ℤ) (t : Text) → is_type_fault (at_most n t) ≡ false
at_most_typed n t = either (int_lt n (pos 0)) (Err f.BadRange) (Ok (v.Text (first (unsigned_abs n) t))) refl refl

number_of_typed : (o : Option ℕ) → is_type_fault (number_of o) ≡ false
number_of_typed None = refl
number_of_typed (Some c) = refl

chosen_typed : (o : Option Value) → is_type_fault (chosen o) ≡ false
chosen_typed None = refl
chosen_typed (Some x) = refl

absolute_typed : (xs : List Value) → all_suit (required k.Int ∷ []) xs ≡ true → is_type_fault (absolute xs) ≡ false
absolute_typed (v.Int n ∷ []) is = either (int_lt n (pos 0)) (number (pos 0 -ℤ n)) (Ok (v.Int n)) (number_typed (pos 0 -ℤ n)) refl
absolute_typed _ is = absurd (cc)

sign_typed : (xs : List Value) → all_suit (required k.Int ∷ []) xs ≡ true → is_type_fault (sign xs) ≡ false
sign_typed (v.Int n ∷ []) is = refl
sign_typed _ is = absurd (cc)

least_typed : (xs rest : List Value) → all_suit (required k.Int ∷ required k.Int ∷ []) xs ≡ true → rest_suits (Some k.Int) rest ≡ true → is_type_fault (least xs rest) ≡ false
least_typed (v.Int a ∷ v.Int b ∷ []) rest is all = folded_typed int_min (int_min a b) rest all
least_typed _ rest is all = absurd (cc)

greatest_typed : (xs rest : List Value) → all_suit (required k.Int ∷ required k.Int ∷ []) xs ≡ true → rest_suits (Some k.Int) rest ≡ true → is_type_fault (greatest xs rest) ≡ false
greatest_typed (v.Int a ∷ v.Int b ∷ []) rest is all = folded_typed int_max (int_max a b) rest all
greatest_typed _ rest is all = absurd (cc)

bit_and_typed : (xs : List Value) → all_suit (required k.Int ∷ required k.Int ∷ []) xs ≡ true → is_type_fault (bit_and xs) ≡ false
bit_and_typed (v.Int a ∷ v.Int b ∷ []) is = refl
bit_and_typed _ is = absurd (cc)

bit_or_typed : (xs : List Value) → all_suit (required k.Int ∷ required k.Int ∷ []) xs ≡ true → is_type_fault (bit_or xs) ≡ false
bit_or_typed (v.Int a ∷ v.Int b ∷ []) is = refl
bit_or_typed _ is = absurd (cc)

bit_xor_typed : (xs : List Value) → all_suit (required k.Int ∷ required k.Int ∷ []) xs ≡ true → is_type_fault (bit_xor xs) ≡ false
bit_xor_typed (v.Int a ∷ v.Int b ∷ []) is = refl
bit_xor_typed _ is = absurd (cc)

bit_not_typed : (xs : List Value) → all_suit (required k.Int ∷ []) xs ≡ true → is_type_fault (bit_not xs) ≡ false
bit_not_typed (v.Int n ∷ []) is = refl
bit_not_typed _ is = absurd (cc)

value_typed : (xs : List Value) → all_suit (required k.Text ∷ []) xs ≡ true → is_type_fault (value xs) ≡ false
value_typed (v.Text t ∷ []) is = either (is_decimal t) (number (signed_digits_value 10 t)) (Err f.BadText) (number_typed (signed_digits_value 10 t)) refl
value_typed _ is = absurd (cc)

hex_value_typed : (xs : List Value) → all_suit (required k.Text ∷ []) xs ≡ true → is_type_fault (hex_value xs) ≡ false
hex_value_typed (v.Text t ∷ []) is = either (is_hexadecimal t) (Ok (v.Int (cast_signed w64 (digits_value 16 t)))) (Err f.BadText) refl refl
hex_value_typed _ is = absurd (cc)

hex_typed : (xs : List Value) → all_suit (required k.Int ∷ []) xs ≡ true → is_type_fault (hex xs) ≡ false
hex_typed (v.Int n ∷ []) is = refl
hex_typed _ is = absurd (cc)

str_len_typed : (xs : List Value) → all_suit (required k.Text ∷ []) xs ≡ true → is_type_fault (str_len xs) ≡ false
str_len_typed (v.Text t ∷ []) is = number_typed (pos (length (chars t)))
str_len_typed _ is = absurd (cc)

u_case_typed : (xs : List Value) → all_suit (required k.Text ∷ []) xs ≡ true → is_type_fault (u_case xs) ≡ false
u_case_typed (v.Text t ∷ []) is = refl
u_case_typed _ is = absurd (cc)

l_case_typed : (xs : List Value) → all_suit (required k.Text ∷ []) xs ≡ true → is_type_fault (l_case xs) ≡ false
l_case_typed (v.Text t ∷ []) is = refl
l_case_typed _ is = absurd (cc)

rev_str_typed : (xs : List Value) → all_suit (required k.Text ∷ []) xs ≡ true → is_type_fault (rev_str xs) ≡ false
rev_str_typed (v.Text t ∷ []) is = refl
rev_str_typed _ is = absurd (cc)

left_str_typed : (xs : List Value) → all_suit (required k.Text ∷ required k.Int ∷ []) xs ≡ true → is_type_fault (left_str xs) ≡ false
left_str_typed (v.Text t ∷ v.Int n ∷ []) is = at_most_typed n t
left_str_typed _ is = absurd (cc)

right_str_typed : (xs : List Value) → all_suit (required k.Text ∷ required k.Int ∷ []) xs ≡ true → is_type_fault (right_str xs) ≡ false
right_str_typed (v.Text t ∷ v.Int n ∷ []) is = either (int_lt n (pos 0)) (Err f.BadRange) (Ok (v.Text (after (length (chars t) - unsigned_abs n) t))) refl refl
right_str_typed _ is = absurd (cc)

mid_str_typed : (xs : List Value) → all_suit (required k.Text ∷ required k.Int ∷ optional k.Int (codes "length") ∷ []) xs ≡ true → is_type_fault (mid_str xs) ≡ false
mid_str_typed (v.Text t ∷ v.Int n ∷ v.Undefined ∷ []) is = either (int_lt n (pos 1)) (Err f.BadRange) (cut (after (unsigned_abs n - 1) t) v.Undefined) refl refl
mid_str_typed (v.Text t ∷ v.Int n ∷ v.Int size ∷ []) is = either (int_lt n (pos 1)) (Err f.BadRange) (cut (after (unsigned_abs n - 1) t) (v.Int size)) refl (at_most_typed size (after (unsigned_abs n - 1) t))
mid_str_typed _ is = absurd (cc)

find_str_typed : (xs : List Value) → all_suit (required k.Text ∷ required k.Text ∷ []) xs ≡ true → is_type_fault (find_str xs) ≡ false
find_str_typed (v.Text t ∷ v.Text w ∷ []) is = number_typed (pos (position_from 1 (chars w) (chars t)))
find_str_typed _ is = absurd (cc)

chr_typed : (xs : List Value) → all_suit (required k.Int ∷ []) xs ≡ true → is_type_fault (chr xs) ≡ false
chr_typed (v.Int n ∷ []) is = either (int_le (pos 1) n && int_le n (pos 127)) (Ok (v.Text (unsigned_abs n ∷ []))) (Err f.BadRange) refl refl
chr_typed _ is = absurd (cc)

ord_typed : (xs : List Value) → all_suit (required k.Text ∷ []) xs ≡ true → is_type_fault (ord xs) ≡ false
ord_typed (v.Text t ∷ []) is = number_of_typed (slice_get (chars t) 0)
ord_typed _ is = absurd (cc)

select_typed : (xs rest : List Value) → all_suit (required k.Int ∷ required k.Val ∷ []) xs ≡ true → rest_suits (Some k.Val) rest ≡ true → is_type_fault (select xs rest) ≡ false
select_typed (v.Int i ∷ x ∷ []) rest is all = either (int_lt i (pos 0)) (Err f.BadRange) (chosen (slice_get (x ∷ rest) (unsigned_abs i))) refl (chosen_typed (slice_get (x ∷ rest) (unsigned_abs i)))
select_typed _ rest is all = absurd (cc)

defined_typed : (xs : List Value) → all_suit (required k.Val ∷ []) xs ≡ true → is_type_fault (defined xs) ≡ false
defined_typed (x ∷ []) is = refl
defined_typed _ is = absurd (cc)

default_typed : (xs : List Value) → all_suit (required k.Val ∷ required k.Val ∷ []) xs ≡ true → is_type_fault (default xs) ≡ false
default_typed (x ∷ y ∷ []) is = refl
default_typed _ is = absurd (cc)

assertion_typed : (xs : List Value) → all_suit (required k.Bool ∷ optional k.Text (codes "message") ∷ []) xs ≡ true → is_type_fault (assertion xs) ≡ false
assertion_typed (v.Bool holds ∷ v.Undefined ∷ []) is = either holds (Ok v.Undefined) (Err (f.AssertFailed (codes "Assert"))) refl refl
assertion_typed (v.Bool holds ∷ v.Text t ∷ []) is = either holds (Ok v.Undefined) (Err (f.AssertFailed t)) refl refl
assertion_typed _ is = absurd (cc)

is_of_kind_typed : (kind : Kind) (xs : List Value) → all_suit (required k.Val ∷ []) xs ≡ true → is_type_fault (is_of_kind kind xs) ≡ false
is_of_kind_typed kind (x ∷ []) is = refl
is_of_kind_typed kind _ is = absurd (cc)

typed : (function : PlainFn) (given : Bound) → Suits (signature function) given → function ≢ p.String → is_type_fault (plain function given) ≡ false
typed p.Abs given suits other = absolute_typed given.values suits.params
typed p.Sign given suits other = sign_typed given.values suits.params
typed p.Min given suits other = least_typed given.values given.rest suits.params suits.rest
typed p.Max given suits other = greatest_typed given.values given.rest suits.params suits.rest
typed p.BitAnd given suits other = bit_and_typed given.values suits.params
typed p.BitOr given suits other = bit_or_typed given.values suits.params
typed p.BitXor given suits other = bit_xor_typed given.values suits.params
typed p.BitNot given suits other = bit_not_typed given.values suits.params
typed p.Value given suits other = value_typed given.values suits.params
typed p.HexValue given suits other = hex_value_typed given.values suits.params
typed p.Hex given suits other = hex_typed given.values suits.params
typed p.String given suits other = absurd (other refl)
typed p.StrLen given suits other = str_len_typed given.values suits.params
typed p.UCase given suits other = u_case_typed given.values suits.params
typed p.LCase given suits other = l_case_typed given.values suits.params
typed p.RevStr given suits other = rev_str_typed given.values suits.params
typed p.LeftStr given suits other = left_str_typed given.values suits.params
typed p.RightStr given suits other = right_str_typed given.values suits.params
typed p.MidStr given suits other = mid_str_typed given.values suits.params
typed p.FindStr given suits other = find_str_typed given.values suits.params
typed p.Chr given suits other = chr_typed given.values suits.params
typed p.Ord given suits other = ord_typed given.values suits.params
typed p.Select given suits other = select_typed given.values given.rest suits.params suits.rest
typed p.Defined given suits other = defined_typed given.values suits.params
typed p.Default given suits other = default_typed given.values suits.params
typed p.Assert given suits other = assertion_typed given.values suits.params
typed p.IsBool given suits other = is_of_kind_typed k.Bool given.values suits.params
typed p.IsInt given suits other = is_of_kind_typed k.Int given.values suits.params
typed p.IsString given suits other = is_of_kind_typed k.Text given.values suits.params
typed p.IsClip given suits other = is_of_kind_typed k.Clip given.values suits.params
typed p.Nop given suits other = refl
typed p.MtNiceFilter given suits other = refl
typed p.MtMultiInstance given suits other = refl
typed p.MtSerialized given suits other = refl

pub bound_arguments_have_their_kinds : BoundArgumentsHaveTheirKinds
bound_arguments_have_their_kinds function given suits other fault = let wrong : true ≡ false = sym (ap is_type_fault fault) ∙ typed function given suits other in absurd (cc)
