-- The built-in functions: their names, what they take, and what the arguments of filters become.
use Rattle.std.specs.Option.{unwrap_or}
use Rattle.std.specs.Prelude.{ℕ, zero, suc, List, [], ◌∷◌, ◌++◌, map, codes, Some, None, ℤ, pos, ◌-ℤ◌, Bool, true, ◌&&◌, is_some, Result, Ok, Err, if◌then◌else◌, Option}
use Rattle.fv_plane.specs.declared.format.Info.{Info}
use Rattle.avs_tree.specs.Lexeme.{meaning_in}
use Rattle.avs_tree.specs.Tree.{Loaded, NoTree}
use Rattle.avs_values.specs.Binding.{Signature, Bound}
use Rattle.avs_values.specs.Functions.{required, optional}
use Rattle.avs_values.specs.Functions as plain
use Rattle.avs_values.specs.Values.{Text, same}
use Rattle.avs_values.specs.declared.parameter.Param.{Param}
use Rattle.avs_values.specs.declared.plain_fn.PlainFn.{PlainFn}
use Rattle.avs_values.specs.declared.plain_fn.PlainFn.TheVariants as p
use Rattle.avs_values.specs.declared.value.Kind.{Kind}
use Rattle.avs_values.specs.declared.value.Kind.TheVariants as k
use Rattle.avs_values.specs.declared.value.Value.{Value}
use Rattle.clip_term.specs.Blank.{default_colour}
use Rattle.clip_term.specs.Filters.{channels_named}
use Rattle.clip_term.specs.Filters as filters
use Rattle.clip_term.specs.Terms.{Act, time, space, joined, soft, fields}
use Rattle.clip_term.specs.declared.field.FieldOp.TheVariants as fo
use Rattle.clip_term.specs.declared.filter.Filter.{Filter}
use Rattle.clip_term.specs.declared.filter.Filter.TheVariants as f
use Rattle.clip_term.specs.declared.op.JoinOp.TheVariants as j
use Rattle.clip_term.specs.declared.op.SoftOp.TheVariants as so
use Rattle.clip_term.specs.declared.op.SpaceOp.TheVariants as s
use Rattle.clip_term.specs.declared.op.TimeOp.TheVariants as t
use Rattle.avs_meaning.specs.Arguments.{number_at, text_at, numbers_among, all_fit_filters, out_of_range, number, or_number, Reading, trim_bound, trims, inverts, convolves, middle_alone, chooses, comparisons, decides, expression_at}
use Rattle.avs_meaning.specs.declared.builtin.Builtin.{Builtin}
use Rattle.avs_meaning.specs.declared.builtin.Builtin.TheVariants as b
use Rattle.avs_meaning.specs.declared.builtin.ClipFn.{ClipFn}
use Rattle.avs_meaning.specs.declared.builtin.ClipFn.TheVariants as c
use Rattle.avs_meaning.specs.declared.fault.ScriptKind.TheVariants as fault

-- ==== Forms of signatures, and what functions take beside those of filters (AviSynth+ wiki, "Internal filters").

-- ---- forms

abbrev pub only : List Param → Signature
only params = record { params = params; rest = None; least = 0 }

abbrev pub one : Kind → Signature
one kind = only (required kind ∷ [])

-- two clips or more
abbrev pub clips : Signature
clips = record { params = required k.Clip ∷ required k.Clip ∷ []; rest = Some k.Clip; least = 0 }

abbrev pub two_clips : Signature
two_clips = only (required k.Clip ∷ required k.Clip ∷ [])

abbrev pub three_clips : Signature
three_clips = only (required k.Clip ∷ required k.Clip ∷ required k.Clip ∷ [])

-- a clip, and then so many numbers
abbrev pub clip_and_numbers : ℕ → List Param
clip_and_numbers zero = required k.Clip ∷ []
clip_and_numbers (suc n) = clip_and_numbers n ++ required k.Int ∷ []

-- a clip, so many numbers, and numbers of these names that a call may leave out
abbrev pub numbered : ℕ → List Text → List Param
numbered n names = clip_and_numbers n ++ map (optional k.Int) names

-- a clip, so many numbers, and then at least one more number
abbrev pub listed : ℕ → Signature
listed n = record { params = clip_and_numbers n; rest = Some k.Int; least = 1 }

-- ---- parameters of filters

-- what BlankClip takes beside its clip
abbrev pub blank_options : List Param
blank_options =
    optional k.Int (codes "length")
    ∷ optional k.Int (codes "width")
    ∷ optional k.Int (codes "height")
    ∷ optional k.Text (codes "pixel_type")
    ∷ optional k.Int (codes "fps")
    ∷ optional k.Int (codes "fps_denominator")
    ∷ optional k.Int (codes "color_yuv")
    ∷ []

-- a clip, an expression, and one clip or more
abbrev pub select : Signature
select = record { params = required k.Clip ∷ required k.Text ∷ required k.Clip ∷ []; rest = Some k.Clip; least = 0 }

-- three clips, an expression, a comparison, and another expression
abbrev pub decide : Signature
decide =
    only (required k.Clip ∷ required k.Clip ∷ required k.Clip ∷ required k.Text ∷ required k.Text ∷ required k.Text ∷ [])

-- ---- other functions

-- a clip, the range, the name of a function, and what that takes beside the clip
abbrev pub apply_range : Signature
apply_range = record { params = clip_and_numbers 2 ++ required k.Text ∷ []; rest = Some k.Val; least = 0 }

abbrev pub set_mode : Signature
set_mode = only (required k.Text ∷ required k.Int ∷ optional k.Bool (codes "force") ∷ [])

abbrev pub prefetch : Signature
prefetch = only (numbered 1 (codes "frames" ∷ []))

-- ==== What each filter takes, and what its arguments become (AviSynth+ wiki, "Internal filters").

-- What is given to a filter: the values of its parameters, by their places, and the numbers after them; the trees of texts,
-- and the info of the first clip.
pub record Args : Type 0 where
  pub values : List Value
  pub numbers : List ℤ
  pub trees : Text → Result Loaded NoTree
  pub clip : Info

-- What a filter takes, of which the first signature that fits counts, and what its arguments become.
pub record FilterRow : Type 0 where
  pub signatures : List Signature
  pub reads : Args → Reading

-- ---- forms of rows

abbrev row : Signature → (Args → Reading) → FilterRow
row signature reads = record { signatures = signature ∷ []; reads = reads }

-- by the values of its parameters alone
abbrev by_values : Signature → (List Value → Reading) → FilterRow
by_values signature reads = row signature (λ a. reads a.values)

-- clips alone
abbrev of_clips : Signature → Act → FilterRow
of_clips signature act = row signature (λ a. Ok act)

-- one clip alone
abbrev of_clip : Act → FilterRow
of_clip act = of_clips (one k.Clip) act

-- what isn't made of clips by its arguments alone
abbrev of_none : List Signature → FilterRow
of_none signatures = record { signatures = signatures; reads = λ a. Err fault.NoMatch }

-- ---- the rows

abbrev pub filter_row : Filter → FilterRow
filter_row f.Y4MSource = of_none (one k.Text ∷ [])
filter_row f.BlankClip =
    of_none (only (blank_options ++ optional k.Clip (codes "clip") ∷ []) ∷ only (required k.Clip ∷ blank_options) ∷ [])
filter_row f.Trim =
    by_values (only (numbered 1 (codes "last" ∷ codes "length" ∷ codes "end" ∷ [])))
    (λ v. trims (number v 1) (trim_bound (number_at v 2) (number_at v 3) (number_at v 4)))
filter_row f.Reverse = of_clip (time t.Reverse)
filter_row f.FreezeFrame =
    by_values (only (numbered 3 [])) (λ v. Ok (time (t.FreezeFrame (number v 1) (number v 2) (number v 3))))
filter_row f.SelectEven = of_clip (time t.SelectEven)
filter_row f.SelectOdd = of_clip (time t.SelectOdd)
filter_row f.SelectEvery = row (listed 1) (λ a. Ok (time (t.SelectEvery (number a.values 1) a.numbers)))
filter_row f.Interleave = of_clips clips (time t.Interleave)
filter_row f.UnalignedSplice = of_clips clips (time t.UnalignedSplice)
filter_row f.AlignedSplice = of_clips clips (time t.AlignedSplice)
filter_row f.Loop =
    row (only (numbered 1 (codes "start" ∷ codes "end" ∷ [])))
    (λ a. Ok (time (t.Loop (number a.values 1) (number a.values 2) (or_number a.values 3 (pos a.clip.frames -ℤ pos 1)))))
filter_row f.DuplicateFrame = row (listed 0) (λ a. Ok (time (t.DuplicateFrame a.numbers)))
filter_row f.DeleteFrame = row (listed 0) (λ a. Ok (time (t.DeleteFrame a.numbers)))
filter_row f.AssumeFPS =
    by_values (only (numbered 1 (codes "denominator" ∷ [])))
    (λ v. Ok (time (t.AssumeFPS (number v 1) (or_number v 2 (pos 1)))))
filter_row f.ChangeFPS =
    by_values (only (numbered 1 (codes "denominator" ∷ [])))
    (λ v. Ok (time (t.ChangeFPS (number v 1) (or_number v 2 (pos 1)))))
-- It calls a function, so it is made elsewhere.
filter_row f.ApplyRange = of_none (one k.Clip ∷ [])
filter_row f.Crop =
    by_values (only (numbered 4 [] ++ optional k.Bool (codes "align") ∷ []))
    (λ v. Ok (space (s.Crop (number v 1) (number v 2) (number v 3) (number v 4))))
filter_row f.CropBottom = by_values (only (numbered 1 [])) (λ v. Ok (space (s.CropBottom (number v 1))))
filter_row f.AddBorders =
    by_values (only (numbered 4 (codes "color_yuv" ∷ [])))
    (λ v. Ok (space (s.AddBorders (number v 1) (number v 2) (number v 3) (number v 4) (or_number v 5 default_colour))))
filter_row f.LetterBox =
    by_values (only (numbered 2 (codes "x1" ∷ codes "x2" ∷ codes "color_yuv" ∷ [])))
    (λ v. Ok (space (s.LetterBox (number v 1) (number v 2) (number v 3) (number v 4) (or_number v 5 default_colour))))
filter_row f.FlipHorizontal = of_clip (space s.FlipHorizontal)
filter_row f.FlipVertical = of_clip (space s.FlipVertical)
filter_row f.Turn180 = of_clip (space s.Turn180)
filter_row f.TurnLeft = of_clip (space s.TurnLeft)
filter_row f.TurnRight = of_clip (space s.TurnRight)
filter_row f.Greyscale = of_clip (space s.Greyscale)
filter_row f.Invert =
    by_values (only (required k.Clip ∷ optional k.Text (codes "channels") ∷ []))
    (λ v. inverts (channels_named (unwrap_or (text_at v 1) (codes "YUV"))))
filter_row f.Limiter =
    by_values (only (numbered 0 (codes "min_luma" ∷ codes "max_luma" ∷ codes "min_chroma" ∷ codes "max_chroma" ∷ [])))
    (λ v. Ok (space (s.Limiter (or_number v 1 (pos 16)) (or_number v 2 (pos 235)) (or_number v 3 (pos 16)) (or_number v 4 (pos 240)))))
filter_row f.SwapUV = of_clip (space s.SwapUV)
filter_row f.UToY8 = of_clip (space s.UToY8)
filter_row f.VToY8 = of_clip (space s.VToY8)
filter_row f.ConvertToY8 = of_clip (space s.ConvertToY8)
filter_row f.ConvertBits = by_values (only (numbered 1 [])) (λ v. Ok (space (s.ConvertBits (number v 1))))
filter_row f.StackHorizontal = of_clips clips (joined j.StackHorizontal)
filter_row f.StackVertical = of_clips clips (joined j.StackVertical)
filter_row f.Merge = of_clips two_clips (joined j.Merge)
filter_row f.MergeLuma = of_clips two_clips (joined j.MergeLuma)
filter_row f.MergeChroma = of_clips two_clips (joined j.MergeChroma)
filter_row f.YToUV = of_clips three_clips (joined j.YToUV)
filter_row f.TemporalSoften =
    by_values (only (numbered 3 [])) (λ v. Ok (soft (so.TemporalSoften (number v 1) (number v 2) (number v 3))))
filter_row f.GeneralConvolution =
    by_values (only (required k.Clip ∷ optional k.Int (codes "bias") ∷ optional k.Text (codes "matrix") ∷ []))
    (λ v. convolves (number v 1) (unwrap_or (text_at v 2) middle_alone))
filter_row f.SeparateFields = of_clip (fields fo.SeparateFields)
filter_row f.Weave = of_clip (fields fo.Weave)
filter_row f.SwapFields = of_clip (fields fo.SwapFields)
filter_row f.AssumeTFF = of_clip (fields fo.AssumeTFF)
filter_row f.AssumeBFF = of_clip (fields fo.AssumeBFF)
filter_row f.ComplementParity = of_clip (fields fo.ComplementParity)
filter_row f.ConditionalSelect = row select (λ a. chooses (expression_at a.values a.trees a.clip 1))
filter_row f.ConditionalFilter =
    row decide
    (λ a. decides (expression_at a.values a.trees a.clip 3) (expression_at a.values a.trees a.clip 5)
    (meaning_in comparisons (unwrap_or (text_at a.values 4) [])))

-- ---- what a row is for

-- what a filter takes
abbrev pub filter_signatures : Filter → List Signature
filter_signatures filter = (filter_row filter).signatures

-- what its arguments become, each number of which is one that filters take
abbrev pub read : Args → Filter → Reading
read given filter = (filter_row filter).reads given

-- Trim's arguments fit where exactly one of the last three is given.
abbrev pub suits : Filter → List Value → Bool
suits f.Trim values = is_some (trim_bound (number_at values 2) (number_at values 3) (number_at values 4))
suits filter values = true

-- what is given where texts have these trees and the first clip has this info
abbrev pub args_of : (Text → Result Loaded NoTree) → Bound → Info → Args
args_of trees given c =
    record { values = given.values; numbers = numbers_among given.rest; trees = trees; clip = c }

-- Of arguments that fit, a number that no filter takes is refused before anything else.
abbrev pub reading : (Text → Result Loaded NoTree) → Bound → Info → Filter → Reading
reading trees given c filter =
    if suits filter given.values then
    (if all_fit_filters given.values && all_fit_filters given.rest then read (args_of trees given c) filter else Err out_of_range)
    else Err fault.NoMatch

-- ==== The built-in functions: their names, and what they take (AviSynth+ wiki, 'Script functions' and "Internal filters").

-- ---- names

abbrev pub clip_fn_name : ClipFn → Text
clip_fn_name c.Width = codes "Width"
clip_fn_name c.Height = codes "Height"
clip_fn_name c.FrameCount = codes "FrameCount"
clip_fn_name c.FrameRateNumerator = codes "FrameRateNumerator"
clip_fn_name c.FrameRateDenominator = codes "FrameRateDenominator"
clip_fn_name c.IsY8 = codes "IsY8"
clip_fn_name c.IsYV12 = codes "IsYV12"
clip_fn_name c.IsYV16 = codes "IsYV16"
clip_fn_name c.IsYV24 = codes "IsYV24"
clip_fn_name c.IsYV411 = codes "IsYV411"
clip_fn_name c.PixelType = codes "PixelType"
clip_fn_name c.BitsPerComponent = codes "BitsPerComponent"

-- how a function is called in scripts
abbrev pub name_of : Builtin → Text
name_of (b.Plain function) = plain.name function
name_of (b.Clip function) = clip_fn_name function
name_of b.Eval = codes "Eval"
name_of b.Import = codes "Import"
name_of b.SetFilterMTMode = codes "SetFilterMTMode"
name_of b.Prefetch = codes "Prefetch"
name_of b.ApplyRange = filters.name_of f.ApplyRange
name_of (b.Filter filter) = filters.name_of filter

-- ---- signatures

-- what a function takes, of which the first that fits counts
abbrev pub signatures : Builtin → List Signature
signatures (b.Plain function) = plain.signature function ∷ []
signatures (b.Clip function) = one k.Clip ∷ []
signatures b.Eval = one k.Text ∷ []
signatures b.Import = one k.Text ∷ []
signatures b.SetFilterMTMode = set_mode ∷ []
signatures b.Prefetch = prefetch ∷ []
signatures b.ApplyRange = apply_range ∷ []
signatures (b.Filter filter) = filter_signatures filter

-- ---- the table

abbrev pub numeric_functions : List PlainFn
numeric_functions =
    p.Abs ∷ p.Sign ∷ p.Min ∷ p.Max ∷ p.BitAnd ∷ p.BitOr ∷ p.BitXor ∷ p.BitNot ∷ p.Value ∷ p.HexValue ∷ p.Hex
    ∷ p.String ∷ []

abbrev pub text_functions : List PlainFn
text_functions =
    p.StrLen ∷ p.UCase ∷ p.LCase ∷ p.RevStr ∷ p.LeftStr ∷ p.RightStr ∷ p.MidStr ∷ p.FindStr ∷ p.Chr ∷ p.Ord ∷ []

abbrev pub other_functions : List PlainFn
other_functions =
    p.Select ∷ p.Defined ∷ p.Default ∷ p.Assert ∷ p.IsBool ∷ p.IsInt ∷ p.IsString ∷ p.IsClip ∷ p.Nop ∷ p.MtNiceFilter
    ∷ p.MtMultiInstance ∷ p.MtSerialized ∷ []

abbrev pub clip_functions : List ClipFn
clip_functions =
    c.Width ∷ c.Height ∷ c.FrameCount ∷ c.FrameRateNumerator ∷ c.FrameRateDenominator ∷ c.IsY8 ∷ c.IsYV12 ∷ c.IsYV16
    ∷ c.IsYV24 ∷ c.IsYV411 ∷ c.PixelType ∷ c.BitsPerComponent ∷ []

-- the functions that need more than a clip's info or a filter
abbrev pub calling_functions : List Builtin
calling_functions = b.Eval ∷ b.Import ∷ b.SetFilterMTMode ∷ b.Prefetch ∷ []

-- the function that makes a filter's clip. ApplyRange calls a function
abbrev pub maker_of : Filter → Builtin
maker_of f.ApplyRange = b.ApplyRange
maker_of filter = b.Filter filter

unfoldable pub builtins : List Builtin
builtins =
    calling_functions ++ map maker_of filters.all_filters ++ map b.Clip clip_functions ++ map b.Plain numeric_functions
    ++ map b.Plain text_functions ++ map b.Plain other_functions

-- without regard to case, and by each spelling of a filter
abbrev pub is_called : Text → Builtin → Bool
is_called name (b.Filter filter) = filters.has_name name filter
is_called name function = same name (name_of function)

-- the first function of a name
abbrev pub builtin_in : Text → List Builtin → Option Builtin
builtin_in name [] = None
builtin_in name (function ∷ rest) = if is_called name function then Some function else builtin_in name rest

unfoldable pub builtin_of : Text → Option Builtin
builtin_of name = builtin_in name builtins
