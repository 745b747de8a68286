-- Operators on values that are no clips (AviSynth+ wiki, 'Grammar': "Operators").
use Rattle.std.specs.Prelude.{ℤ, pos, negsuc, ◌+ℤ◌, ◌-ℤ◌, ◌*ℤ◌, int_le, int_lt, ◌++◌, Bool, true, false, not, ◌==◌, Ok, Err, if◌then◌else◌}
use Rattle.std.specs.Ordering.{int_eq}
use Rattle.std.specs.Int.RustNames.{int_div, int_rem}
use Rattle.avs_values.specs.Values.{Outcome, number, text, Text, same}
use Rattle.avs_values.specs.Values as f
use Rattle.avs_values.specs.declared.operators.BinaryOp.{BinaryOp}
use Rattle.avs_values.specs.declared.operators.BinaryOp.TheVariants as o
use Rattle.avs_values.specs.declared.operators.UnaryOp.{UnaryOp}
use Rattle.avs_values.specs.declared.operators.UnaryOp.TheVariants as u
use Rattle.avs_values.specs.declared.value.Value.{Value}
use Rattle.avs_values.specs.declared.value.Value.TheVariants as v

abbrev pub is_zero : ℤ → Bool
is_zero (pos n) = n == 0
is_zero (negsuc n) = false

-- Division and remainder truncate towards zero.
abbrev pub arithmetic : BinaryOp → ℤ → ℤ → Outcome
arithmetic o.Add a b = number (a +ℤ b)
arithmetic o.Subtract a b = number (a -ℤ b)
arithmetic o.Multiply a b = number (a *ℤ b)
arithmetic o.Divide a b = if is_zero b then Err f.DivZero else number (int_div a b)
arithmetic o.Remainder a b = if is_zero b then Err f.DivZero else number (int_rem a b)
arithmetic o.Equal a b = Ok (v.Bool (int_eq a b))
arithmetic o.NotEqual a b = Ok (v.Bool (not (int_eq a b)))
arithmetic o.Less a b = Ok (v.Bool (int_lt a b))
arithmetic o.LessEqual a b = Ok (v.Bool (int_le a b))
arithmetic o.Greater a b = Ok (v.Bool (int_lt b a))
arithmetic o.GreaterEqual a b = Ok (v.Bool (int_le b a))

-- Texts are joined, and compared without regard to case.
abbrev pub on_texts : BinaryOp → Text → Text → Outcome
on_texts o.Add a b = text (a ++ b)
on_texts o.Equal a b = Ok (v.Bool (same a b))
on_texts o.NotEqual a b = Ok (v.Bool (not (same a b)))
on_texts _ a b = Err f.TypeFault

abbrev pub equal_bools : Bool → Bool → Bool
equal_bools true b = b
equal_bools false b = not b

abbrev pub on_bools : BinaryOp → Bool → Bool → Outcome
on_bools o.Equal a b = Ok (v.Bool (equal_bools a b))
on_bools o.NotEqual a b = Ok (v.Bool (not (equal_bools a b)))
on_bools _ a b = Err f.TypeFault

abbrev pub binary : BinaryOp → Value → Value → Outcome
binary op (v.Int a) (v.Int b) = arithmetic op a b
binary op (v.Text a) (v.Text b) = on_texts op a b
binary op (v.Bool a) (v.Bool b) = on_bools op a b
binary op _ _ = Err f.TypeFault

abbrev pub unary : UnaryOp → Value → Outcome
unary u.Negative (v.Int a) = number (pos 0 -ℤ a)
unary u.Not (v.Bool b) = Ok (v.Bool (not b))
unary _ _ = Err f.TypeFault
