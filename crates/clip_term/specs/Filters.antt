-- The filters, their names and modes, and what they read from texts.
use Rattle.std.specs.Char.{is_ascii_digit, to_ascii_uppercase}
use Rattle.std.specs.List.{find, list_any, list_all, filter, filter_map, slice_split, fold}
use Rattle.std.specs.Option.{option_map}
use Rattle.std.specs.Prelude.{◌≡◌, ℕ, ◌≤◌, Bool, List, [], ◌∷◌, codes, Option, Some, None, slice_get, ◌-◌, ◌*◌, ◌+◌, not, ◌&&◌, ◌||◌, if◌then◌else◌, ◌==◌, ℤ, pos, neg_ℤ, length, is_some, Result, Ok, Err}
use Rattle.std.specs.Str.{str_eq_ignore_ascii_case, byte}
use Rattle.clip_term.specs.Refusals.{is_weight}
use Rattle.clip_term.specs.declared.fault.FilterFault.{FilterFault}
use Rattle.clip_term.specs.declared.fault.FilterFault.TheVariants.{BadText}
use Rattle.clip_term.specs.declared.filter.Filter.{Filter}
use Rattle.clip_term.specs.declared.filter.Filter.TheVariants as f
use Rattle.clip_term.specs.declared.filter.TheConstants.Filter.{ALL}
use Rattle.clip_term.specs.declared.op.Channels.{Channels}

-- ==== The filters, with their names and the modes that they declare (AviSynth+ wiki, "Internal filters" and "SetFilterMTMode").

-- each filter once
abbrev pub all_filters : List Filter
all_filters = ALL

-- a mode: 1 is MT_NICE_FILTER, 2 is MT_MULTI_INSTANCE, 3 is MT_SERIALIZED
pub record IsMode (mode : ℕ) : Type 0 where
  pub least : 1 ≤ mode
  pub most : mode ≤ 3

-- What is said of a filter: its place among all, its name, and the mode that it declares, if it does.
pub record Row : Type 0 where
  pub number : ℕ
  pub name : List ℕ
  pub declared : Option ℕ

abbrev row : ℕ → List ℕ → Option ℕ → Row
row number name declared = record { number = number; name = name; declared = declared }

abbrev pub row_of : Filter → Row
row_of f.Y4MSource = row 0 (codes "Y4MSource") (Some 3)
row_of f.BlankClip = row 1 (codes "BlankClip") (Some 1)
row_of f.Trim = row 2 (codes "Trim") (Some 1)
row_of f.Reverse = row 3 (codes "Reverse") (Some 1)
row_of f.FreezeFrame = row 4 (codes "FreezeFrame") (Some 1)
row_of f.SelectEven = row 5 (codes "SelectEven") (Some 1)
row_of f.SelectOdd = row 6 (codes "SelectOdd") (Some 1)
row_of f.SelectEvery = row 7 (codes "SelectEvery") (Some 1)
row_of f.Interleave = row 8 (codes "Interleave") (Some 1)
row_of f.UnalignedSplice = row 9 (codes "UnalignedSplice") (Some 1)
row_of f.AlignedSplice = row 10 (codes "AlignedSplice") (Some 1)
row_of f.Loop = row 11 (codes "Loop") (Some 1)
row_of f.DuplicateFrame = row 12 (codes "DuplicateFrame") (Some 1)
row_of f.DeleteFrame = row 13 (codes "DeleteFrame") (Some 1)
row_of f.AssumeFPS = row 14 (codes "AssumeFPS") (Some 1)
row_of f.ChangeFPS = row 15 (codes "ChangeFPS") (Some 1)
row_of f.ApplyRange = row 16 (codes "ApplyRange") (Some 1)
row_of f.Crop = row 17 (codes "Crop") (Some 1)
row_of f.CropBottom = row 18 (codes "CropBottom") (Some 1)
row_of f.AddBorders = row 19 (codes "AddBorders") (Some 1)
row_of f.LetterBox = row 20 (codes "LetterBox") (Some 1)
row_of f.FlipHorizontal = row 21 (codes "FlipHorizontal") (Some 1)
row_of f.FlipVertical = row 22 (codes "FlipVertical") (Some 1)
row_of f.Turn180 = row 23 (codes "Turn180") (Some 1)
row_of f.TurnLeft = row 24 (codes "TurnLeft") (Some 1)
row_of f.TurnRight = row 25 (codes "TurnRight") (Some 1)
row_of f.Greyscale = row 26 (codes "Greyscale") None
row_of f.Invert = row 27 (codes "Invert") None
row_of f.Limiter = row 28 (codes "Limiter") None
row_of f.SwapUV = row 29 (codes "SwapUV") (Some 1)
row_of f.UToY8 = row 30 (codes "UToY8") (Some 1)
row_of f.VToY8 = row 31 (codes "VToY8") (Some 1)
row_of f.ConvertToY8 = row 32 (codes "ConvertToY8") (Some 1)
row_of f.StackHorizontal = row 33 (codes "StackHorizontal") (Some 1)
row_of f.StackVertical = row 34 (codes "StackVertical") (Some 1)
row_of f.Merge = row 35 (codes "Merge") (Some 1)
row_of f.MergeLuma = row 36 (codes "MergeLuma") (Some 1)
row_of f.MergeChroma = row 37 (codes "MergeChroma") (Some 1)
row_of f.YToUV = row 38 (codes "YToUV") (Some 1)
row_of f.TemporalSoften = row 39 (codes "TemporalSoften") (Some 2)
row_of f.GeneralConvolution = row 40 (codes "GeneralConvolution") None
row_of f.ConvertBits = row 41 (codes "ConvertBits") (Some 1)
row_of f.SeparateFields = row 42 (codes "SeparateFields") (Some 1)
row_of f.Weave = row 43 (codes "Weave") (Some 1)
row_of f.SwapFields = row 44 (codes "SwapFields") (Some 1)
row_of f.AssumeTFF = row 45 (codes "AssumeTFF") (Some 1)
row_of f.AssumeBFF = row 46 (codes "AssumeBFF") (Some 1)
row_of f.ComplementParity = row 47 (codes "ComplementParity") (Some 1)
row_of f.ConditionalSelect = row 48 (codes "ConditionalSelect") (Some 1)
row_of f.ConditionalFilter = row 49 (codes "ConditionalFilter") (Some 1)

abbrev pub number_of : Filter → ℕ
number_of one = (row_of one).number

abbrev pub name_of : Filter → List ℕ
name_of one = (row_of one).name

abbrev pub declared_mode : Filter → Option ℕ
declared_mode one = (row_of one).declared

-- Greyscale has two spellings.
abbrev pub names_of : Filter → List (List ℕ)
names_of f.Greyscale = name_of f.Greyscale ∷ codes "Grayscale" ∷ []
names_of one = name_of one ∷ []

-- in any case of letters
abbrev pub has_name : List ℕ → Filter → Bool
has_name name one = list_any (str_eq_ignore_ascii_case name) (names_of one)

-- the filter of this name
abbrev pub filter_named : List ℕ → Option Filter
filter_named name = find (has_name name) all_filters

-- each filter stands at its number, and is found by its names
pub record FiltersAreListed : Type 0 where
  pub by_number : (one : Filter) → slice_get all_filters (number_of one) ≡ Some one
  pub by_name : (one : Filter) → filter_named (name_of one) ≡ Some one
  pub grayscale : filter_named (codes "Grayscale") ≡ Some f.Greyscale

-- ==== What filters read from their text arguments (AviSynth+ wiki, "Invert" and "GeneralConvolution").

-- Channels: letters in any case

abbrev pub has_letter : ℕ → List ℕ → Bool
has_letter letter text = list_any (λ c. to_ascii_uppercase c == letter) text

abbrev pub is_channel : ℕ → Bool
is_channel c = list_any (λ letter. to_ascii_uppercase c == letter) (codes "YUV")

abbrev pub channels_named : List ℕ → Result Channels FilterFault
channels_named text =
    if list_all is_channel text
    then Ok (record { y = has_letter (byte "Y") text; u = has_letter (byte "U") text; v = has_letter (byte "V") text })
    else Err BadText

-- Matrices: whole numbers between blanks

abbrev pub is_gap : ℕ → Bool
is_gap c = c == 32 || c == 9 || c == 10

abbrev pub words_of : List ℕ → List (List ℕ)
words_of text = filter (λ (word : List ℕ). not (length word == 0)) (slice_split is_gap text)

abbrev pub digits_of : List ℕ → ℕ
digits_of digits = fold (λ n c. n * 10 + (c - 48)) 0 digits

abbrev pub weight_of : List ℕ → Option ℕ
weight_of digits =
    if not (length digits == 0) && list_all is_ascii_digit digits && is_weight (pos (digits_of digits))
    then Some (digits_of digits) else None

abbrev pub entry_of : List ℕ → Option ℤ
entry_of [] = None
entry_of (c ∷ digits) =
    if c == byte "-" then option_map (λ n. neg_ℤ (pos n)) (weight_of digits)
    else option_map pos (weight_of (c ∷ digits))

abbrev pub matrix_named : List ℕ → Option (List ℤ)
matrix_named text =
    let words = words_of text in
    if (length words == 9 || length words == 25) && list_all (λ (word : List ℕ). is_some (entry_of word)) words
    then Some (filter_map entry_of words)
    else None
