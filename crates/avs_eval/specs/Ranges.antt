-- What ApplyRange is given.
use Rattle.std.specs.Prelude.{ℕ, ℤ, List, [], ◌∷◌, ◌&&◌, Result, Ok, Err, if◌then◌else◌}
use Rattle.avs_values.specs.Values.{Text}
use Rattle.avs_values.specs.declared.value.Value.{Value}
use Rattle.avs_values.specs.declared.value.Value.TheVariants as v
use Rattle.avs_meaning.specs.Arguments.{is_filter_number, out_of_range}
use Rattle.avs_meaning.specs.declared.fault.ScriptKind.{ScriptKind}
use Rattle.avs_meaning.specs.declared.fault.ScriptKind.TheVariants as k
use Rattle.avs_eval.specs.declared.ranges.Range.{Range}

-- a clip, the first and the last frame of the range, and the name of a function
pub record Given : Type 0 where
  pub clip : ℕ
  pub first : ℤ
  pub last : ℤ
  pub name : Text

-- these, where filters take both numbers
abbrev pub given_of : ℕ → ℤ → ℤ → Text → Result Given ScriptKind
given_of i first last word =
    if is_filter_number first && is_filter_number last then Ok (record { clip = i; first = first; last = last; name = word })
    else Err out_of_range

abbrev pub given_in : List Value → Result Given ScriptKind
given_in (v.Clip i ∷ v.Int first ∷ v.Int last ∷ v.Text word ∷ []) = given_of i first last word
given_in _ = Err k.NoMatch

abbrev pub given_view : Range → Given
given_view range = record { clip = range.clip; first = range.first; last = range.last; name = range.name.now }
