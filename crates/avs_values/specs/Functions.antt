-- The functions that need no state.
use Rattle.std.specs.Char.{is_ascii_digit, is_ascii_hexdigit}
use Rattle.std.specs.Fmt.{signed_decimal, digits}
use Rattle.std.specs.Int.{w64, cast_signed, cast_unsigned, int_min, int_max, int_signum, int_bit_and, int_bit_or, int_bit_xor, int_bit_not}
use Rattle.std.specs.Int.RustNames.{unsigned_abs}
use Rattle.std.specs.List.{list_all, starts_with}
use Rattle.std.specs.Prelude.{ℤ, pos, ◌-ℤ◌, int_lt, nat_le, List, [], ◌∷◌, length, drop, codes, Bool, true, false, not, ◌&&◌, ◌==◌, Ok, Err, if◌then◌else◌, ℕ, int_le, ◌+◌, ◌-◌, reverse, take, slice_get, nat_eq, Option, Some, None, ◌++◌, map}
use Rattle.std.specs.Str.{chars, encode_utf8_all, str_to_ascii_uppercase, str_to_ascii_lowercase}
use Rattle.std.specs.Str.Parse.{digits_value, signed_digits_value, starts_with_minus}
use Rattle.avs_values.specs.Binding.{Signature, Bound}
use Rattle.avs_values.specs.Values.{Outcome, number, Text, has_kind, is_undefined}
use Rattle.avs_values.specs.Values as f
use Rattle.avs_values.specs.declared.parameter.Param.{Param}
use Rattle.avs_values.specs.declared.plain_fn.PlainFn.{PlainFn}
use Rattle.avs_values.specs.declared.plain_fn.PlainFn.TheVariants as p
use Rattle.avs_values.specs.declared.value.Kind.{Kind}
use Rattle.avs_values.specs.declared.value.Kind.TheVariants as k
use Rattle.avs_values.specs.declared.value.Value.{Value}
use Rattle.avs_values.specs.declared.value.Value.TheVariants as v

-- ==== The functions on numbers, and between numbers and texts (AviSynth+ wiki, 'Script functions': "Numeric functions",
-- "Conversion functions"). The arguments stand in the order of the parameters. Arguments of other kinds, which binding never
-- gives, are TypeFault.

-- Overflow for -2^63
abbrev pub absolute : List Value → Outcome
absolute (v.Int n ∷ []) = if int_lt n (pos 0) then number (pos 0 -ℤ n) else Ok (v.Int n)
absolute _ = Err f.TypeFault

-- -1, 0 or 1
abbrev pub sign : List Value → Outcome
sign (v.Int n ∷ []) = Ok (v.Int (int_signum n))
sign _ = Err f.TypeFault

-- a number, and what it becomes with each further number
abbrev pub folded : (ℤ → ℤ → ℤ) → ℤ → List Value → Outcome
folded pick n [] = Ok (v.Int n)
folded pick n (v.Int m ∷ rest) = folded pick (pick n m) rest
folded pick n _ = Err f.TypeFault

abbrev pub least : List Value → List Value → Outcome
least (v.Int a ∷ v.Int b ∷ []) rest = folded int_min (int_min a b) rest
least _ rest = Err f.TypeFault

abbrev pub greatest : List Value → List Value → Outcome
greatest (v.Int a ∷ v.Int b ∷ []) rest = folded int_max (int_max a b) rest
greatest _ rest = Err f.TypeFault

abbrev pub bit_and : List Value → Outcome
bit_and (v.Int a ∷ v.Int b ∷ []) = Ok (v.Int (int_bit_and w64 a b))
bit_and _ = Err f.TypeFault

abbrev pub bit_or : List Value → Outcome
bit_or (v.Int a ∷ v.Int b ∷ []) = Ok (v.Int (int_bit_or w64 a b))
bit_or _ = Err f.TypeFault

abbrev pub bit_xor : List Value → Outcome
bit_xor (v.Int a ∷ v.Int b ∷ []) = Ok (v.Int (int_bit_xor w64 a b))
bit_xor _ = Err f.TypeFault

abbrev pub bit_not : List Value → Outcome
bit_not (v.Int n ∷ []) = Ok (v.Int (int_bit_not w64 n))
bit_not _ = Err f.TypeFault

-- an optional `-` and decimal digits
abbrev pub without_minus : Text → Text
without_minus t = drop (if starts_with_minus t then 1 else 0) t

abbrev pub is_decimal : Text → Bool
is_decimal t = not (length (without_minus t) == 0) && list_all is_ascii_digit (without_minus t)

abbrev pub value : List Value → Outcome
value (v.Text t ∷ []) = if is_decimal t then number (signed_digits_value 10 t) else Err f.BadText
value _ = Err f.TypeFault

-- 1 to 16 hexadecimal digits, as many as 64 bits have
abbrev pub is_hexadecimal : Text → Bool
is_hexadecimal t = nat_le 1 (length t) && nat_le (length t) 16 && list_all is_ascii_hexdigit t

-- the digits are those of 64 bits in two's complement
abbrev pub hex_value : List Value → Outcome
hex_value (v.Text t ∷ []) =
    if is_hexadecimal t then Ok (v.Int (cast_signed w64 (digits_value 16 t))) else Err f.BadText
hex_value _ = Err f.TypeFault

-- upper-case digits of the 64 bits without leading zeros
abbrev pub hex : List Value → Outcome
hex (v.Int n ∷ []) = Ok (v.Text (digits 16 true (cast_unsigned w64 n)))
hex _ = Err f.TypeFault

-- TypeFault for a clip or Undefined
abbrev pub string : List Value → Outcome
string (v.Int n ∷ []) = Ok (v.Text (signed_decimal n))
string (v.Bool true ∷ []) = Ok (v.Text (codes "true"))
string (v.Bool false ∷ []) = Ok (v.Text (codes "false"))
string (v.Text t ∷ []) = Ok (v.Text t)
string _ = Err f.TypeFault

-- ==== The functions on texts (AviSynth+ wiki, 'Script functions': "String functions"). Characters are Unicode code points, and
-- positions count them from 1. The arguments stand in the order of the parameters. Arguments of other kinds, which binding
-- never gives, are TypeFault.

abbrev pub str_len : List Value → Outcome
str_len (v.Text t ∷ []) = number (pos (length (chars t)))
str_len _ = Err f.TypeFault

-- Only ASCII letters are changed.
abbrev pub u_case : List Value → Outcome
u_case (v.Text t ∷ []) = Ok (v.Text (str_to_ascii_uppercase t))
u_case _ = Err f.TypeFault

abbrev pub l_case : List Value → Outcome
l_case (v.Text t ∷ []) = Ok (v.Text (str_to_ascii_lowercase t))
l_case _ = Err f.TypeFault

abbrev pub rev_str : List Value → Outcome
rev_str (v.Text t ∷ []) = Ok (v.Text (encode_utf8_all (reverse (chars t))))
rev_str _ = Err f.TypeFault

-- the first n characters, and what is after them
abbrev pub first : ℕ → Text → Text
first n t = encode_utf8_all (take n (chars t))

abbrev pub after : ℕ → Text → Text
after n t = encode_utf8_all (drop n (chars t))

-- a text of at most so many characters
abbrev pub at_most : ℤ → Text → Outcome
at_most n t = if int_lt n (pos 0) then Err f.BadRange else Ok (v.Text (first (unsigned_abs n) t))

abbrev pub left_str : List Value → Outcome
left_str (v.Text t ∷ v.Int n ∷ []) = at_most n t
left_str _ = Err f.TypeFault

abbrev pub right_str : List Value → Outcome
right_str (v.Text t ∷ v.Int n ∷ []) =
    if int_lt n (pos 0) then Err f.BadRange else Ok (v.Text (after (length (chars t) - unsigned_abs n) t))
right_str _ = Err f.TypeFault

-- a text, cut to a length where one is given
abbrev pub cut : Text → Value → Outcome
cut t v.Undefined = Ok (v.Text t)
cut t (v.Int n) = at_most n t
cut t _ = Err f.TypeFault

abbrev pub mid_str : List Value → Outcome
mid_str (v.Text t ∷ v.Int n ∷ size ∷ []) =
    if int_lt n (pos 1) then Err f.BadRange else cut (after (unsigned_abs n - 1) t) size
mid_str _ = Err f.TypeFault

-- the first position of characters among others, of which the first has the position k; 0 where there is none
abbrev pub position_from : ℕ → List ℕ → List ℕ → ℕ
position_from k wanted [] = if length wanted == 0 then k else 0
position_from k wanted (c ∷ cs) = if starts_with nat_eq (c ∷ cs) wanted then k else position_from (k + 1) wanted cs

abbrev pub find_str : List Value → Outcome
find_str (v.Text t ∷ v.Text wanted ∷ []) = number (pos (position_from 1 (chars wanted) (chars t)))
find_str _ = Err f.TypeFault

-- the character of a number from 1 to 127
abbrev pub chr : List Value → Outcome
chr (v.Int n ∷ []) =
    if int_le (pos 1) n && int_le n (pos 127) then Ok (v.Text (unsigned_abs n ∷ [])) else Err f.BadRange
chr _ = Err f.TypeFault

-- the number of the first character, BadText where there is none
abbrev pub number_of : Option ℕ → Outcome
number_of None = Err f.BadText
number_of (Some c) = Ok (v.Int (pos c))

abbrev pub ord : List Value → Outcome
ord (v.Text t ∷ []) = number_of (slice_get (chars t) 0)
ord _ = Err f.TypeFault

-- ==== The functions that need no state: their names, what they take, and what they give (AviSynth+ wiki, 'Script functions').

-- ---- functions on any value

-- the i-th of these, from 0
abbrev pub chosen : Option Value → Outcome
chosen None = Err f.BadRange
chosen (Some x) = Ok x

abbrev pub select : List Value → List Value → Outcome
select (v.Int i ∷ x ∷ []) rest =
    if int_lt i (pos 0) then Err f.BadRange else chosen (slice_get (x ∷ rest) (unsigned_abs i))
select _ rest = Err f.TypeFault

abbrev pub defined : List Value → Outcome
defined (x ∷ []) = Ok (v.Bool (not (is_undefined x)))
defined _ = Err f.TypeFault

-- the first, or the second where the first is Undefined
abbrev pub default : List Value → Outcome
default (x ∷ y ∷ []) = Ok (if is_undefined x then y else x)
default _ = Err f.TypeFault

-- an assertion that failed, with its message
abbrev pub failed : Value → Outcome
failed v.Undefined = Err (f.AssertFailed (codes "Assert"))
failed (v.Text message) = Err (f.AssertFailed message)
failed _ = Err f.TypeFault

abbrev pub assertion : List Value → Outcome
assertion (v.Bool holds ∷ message ∷ []) = if holds then Ok v.Undefined else failed message
assertion _ = Err f.TypeFault

abbrev pub is_of_kind : Kind → List Value → Outcome
is_of_kind kind (x ∷ []) = Ok (v.Bool (has_kind kind x))
is_of_kind kind _ = Err f.TypeFault

-- ---- all functions

-- The outcome of a function for arguments that were bound to its signature.
abbrev pub plain : PlainFn → Bound → Outcome
plain p.Abs given = absolute given.values
plain p.Sign given = sign given.values
plain p.Min given = least given.values given.rest
plain p.Max given = greatest given.values given.rest
plain p.BitAnd given = bit_and given.values
plain p.BitOr given = bit_or given.values
plain p.BitXor given = bit_xor given.values
plain p.BitNot given = bit_not given.values
plain p.Value given = value given.values
plain p.HexValue given = hex_value given.values
plain p.Hex given = hex given.values
plain p.String given = string given.values
plain p.StrLen given = str_len given.values
plain p.UCase given = u_case given.values
plain p.LCase given = l_case given.values
plain p.RevStr given = rev_str given.values
plain p.LeftStr given = left_str given.values
plain p.RightStr given = right_str given.values
plain p.MidStr given = mid_str given.values
plain p.FindStr given = find_str given.values
plain p.Chr given = chr given.values
plain p.Ord given = ord given.values
plain p.Select given = select given.values given.rest
plain p.Defined given = defined given.values
plain p.Default given = default given.values
plain p.Assert given = assertion given.values
plain p.IsBool given = is_of_kind k.Bool given.values
plain p.IsInt given = is_of_kind k.Int given.values
plain p.IsString given = is_of_kind k.Text given.values
plain p.IsClip given = is_of_kind k.Clip given.values
plain p.Nop given = Ok (v.Int (pos 0))
plain p.MtNiceFilter given = Ok (v.Int (pos 1))
plain p.MtMultiInstance given = Ok (v.Int (pos 2))
plain p.MtSerialized given = Ok (v.Int (pos 3))

-- how a function is called in scripts
abbrev pub name : PlainFn → Text
name p.Abs = codes "Abs"
name p.Sign = codes "Sign"
name p.Min = codes "Min"
name p.Max = codes "Max"
name p.BitAnd = codes "BitAnd"
name p.BitOr = codes "BitOr"
name p.BitXor = codes "BitXor"
name p.BitNot = codes "BitNot"
name p.Value = codes "Value"
name p.HexValue = codes "HexValue"
name p.Hex = codes "Hex"
name p.String = codes "String"
name p.StrLen = codes "StrLen"
name p.UCase = codes "UCase"
name p.LCase = codes "LCase"
name p.RevStr = codes "RevStr"
name p.LeftStr = codes "LeftStr"
name p.RightStr = codes "RightStr"
name p.MidStr = codes "MidStr"
name p.FindStr = codes "FindStr"
name p.Chr = codes "Chr"
name p.Ord = codes "Ord"
name p.Select = codes "Select"
name p.Defined = codes "Defined"
name p.Default = codes "Default"
name p.Assert = codes "Assert"
name p.IsBool = codes "IsBool"
name p.IsInt = codes "IsInt"
name p.IsString = codes "IsString"
name p.IsClip = codes "IsClip"
name p.Nop = codes "Nop"
name p.MtNiceFilter = codes "MT_NICE_FILTER"
name p.MtMultiInstance = codes "MT_MULTI_INSTANCE"
name p.MtSerialized = codes "MT_SERIALIZED"

-- ---- what they take

-- a required parameter, which is never named
abbrev pub required : Kind → Param
required kind = record { name = []; kind = kind; optional = false }

abbrev pub optional : Kind → Text → Param
optional kind label = record { name = label; kind = kind; optional = true }

-- required parameters of these kinds, and then a rest or an optional one
abbrev pub takes : List Kind → Option Kind → Signature
takes kinds rest = record { params = map required kinds; rest = rest; least = 0 }

abbrev pub takes_optional : List Kind → Kind → Text → Signature
takes_optional kinds kind label =
    record { params = map required kinds ++ optional kind label ∷ []; rest = None; least = 0 }

abbrev pub signature : PlainFn → Signature
signature p.Abs = takes (k.Int ∷ []) None
signature p.Sign = takes (k.Int ∷ []) None
signature p.Min = takes (k.Int ∷ k.Int ∷ []) (Some k.Int)
signature p.Max = takes (k.Int ∷ k.Int ∷ []) (Some k.Int)
signature p.BitAnd = takes (k.Int ∷ k.Int ∷ []) None
signature p.BitOr = takes (k.Int ∷ k.Int ∷ []) None
signature p.BitXor = takes (k.Int ∷ k.Int ∷ []) None
signature p.BitNot = takes (k.Int ∷ []) None
signature p.Value = takes (k.Text ∷ []) None
signature p.HexValue = takes (k.Text ∷ []) None
signature p.Hex = takes (k.Int ∷ []) None
signature p.String = takes (k.Val ∷ []) None
signature p.StrLen = takes (k.Text ∷ []) None
signature p.UCase = takes (k.Text ∷ []) None
signature p.LCase = takes (k.Text ∷ []) None
signature p.RevStr = takes (k.Text ∷ []) None
signature p.LeftStr = takes (k.Text ∷ k.Int ∷ []) None
signature p.RightStr = takes (k.Text ∷ k.Int ∷ []) None
signature p.MidStr = takes_optional (k.Text ∷ k.Int ∷ []) k.Int (codes "length")
signature p.FindStr = takes (k.Text ∷ k.Text ∷ []) None
signature p.Chr = takes (k.Int ∷ []) None
signature p.Ord = takes (k.Text ∷ []) None
signature p.Select = takes (k.Int ∷ k.Val ∷ []) (Some k.Val)
signature p.Defined = takes (k.Val ∷ []) None
signature p.Default = takes (k.Val ∷ k.Val ∷ []) None
signature p.Assert = takes_optional (k.Bool ∷ []) k.Text (codes "message")
signature p.IsBool = takes (k.Val ∷ []) None
signature p.IsInt = takes (k.Val ∷ []) None
signature p.IsString = takes (k.Val ∷ []) None
signature p.IsClip = takes (k.Val ∷ []) None
signature p.Nop = takes [] None
signature p.MtNiceFilter = takes [] None
signature p.MtMultiInstance = takes [] None
signature p.MtSerialized = takes [] None
