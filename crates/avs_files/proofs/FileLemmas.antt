-- Files that are read, and what they are.
use Rattle.std.proofs.Common.{◌≡◌, ◌≢◌, ◌∙◌, ℕ, ◌+◌, ◌-◌, ◌<◌, ◌≤◌, ◌^◌, min, Bool, true, false, List, length, take, drop, Option, Some, None, Result, Ok, Err, refl, sym, ap, arith, if◌then◌else◌, nat_lt}
use Rattle.std.proofs.lemmas.Bool.Decides.{nat_tests}
use Rattle.std.proofs.lemmas.List.{length-take-le, take_all}
use Rattle.std.proofs.lemmas.Str.{IsUtf8-from_is_utf8, is_utf8-from_IsUtf8}
use Rattle.std.specs.Str.{is_utf8, IsUtf8}
use Rattle.fv_io.specs.Faults.{HasRisen}
use Rattle.fv_io.specs.Reading.{Fills}
use Rattle.fv_plane.specs.Picture.{Clip}
use Rattle.y4m_stream.specs.Stream.{Indexed, Indexes, HasIndexFault, Stream, HasFault}
use Rattle.y4m_stream.specs.declared.fault.IndexFault.{IndexFault}
use Rattle.y4m_stream.specs.declared.fault.IndexFault.TheVariants as of_index
use Rattle.y4m_stream.specs.declared.fault.Y4mFault.{Y4mFault}
use Rattle.y4m_stream.proofs.ReadingLemmas.{reads_one_way}
use Rattle.avs_values.specs.Values.{text_limit}
use Rattle.avs_meaning.specs.State.{clip_in, script_in}
use Rattle.avs_meaning.specs.declared.fault.FileKind.{FileKind}
use Rattle.avs_meaning.specs.declared.fault.FileKind.TheVariants.{ScriptTooLong, NotUtf8}
use Rattle.avs_meaning.specs.declared.fault.InputFault.TheVariants.{Y4m}
use Rattle.avs_meaning.proofs.StreamLemmas.{clips_are_streams}
use Rattle.avs_files.specs.Opened.{IsIndexOf}

-- ---- scripts

-- bytes that don't fill the buffer are the whole source
pub read_whole : (told buf : List ℕ) (count place : ℕ) → place ≡ 0 → Fills (drop place told) count buf → count ≤ length buf → count ≢ length buf → take count buf ≡ told
read_whole told buf count place start fills few other =
    let from_start : Fills (drop 0 told) count buf = rw start at fills in
    from_start.given ∙ take_all count told (omega (arith, from_start.ended (omega arith)))

-- a text that fills the buffer is too long
pub longer : (told buf : List ℕ) (count place most : ℕ) → place ≡ 0 → Fills (drop place told) count buf → length buf ≡ most + 1 → count ≡ length buf → most < length told
longer told buf count place most start fills room full =
    let from_start : Fills (drop 0 told) count buf = rw start at fills in
    omega (arith, from_start.inside)

-- a text that doesn't fill the buffer is short enough
pub short_enough : (told buf : List ℕ) (count most : ℕ) → take count buf ≡ told → length buf ≡ most + 1 → count ≤ length buf → count ≢ length buf → length told ≤ most
short_enough told buf count most whole room few other = omega (arith, sym (ap length whole), length-take-le count buf few)

pub too_long : (bytes : List ℕ) → text_limit < length bytes → script_in (Some bytes) ≡ Err ScriptTooLong
too_long bytes long = grind (arith, nat_tests)

abbrev script_by : Bool → Bool → List ℕ → Result (List ℕ) FileKind
script_by long text bytes = if long then Err ScriptTooLong else (if text then Ok bytes else Err NotUtf8)

in_limit : (bytes : List ℕ) → length bytes ≤ text_limit → nat_lt text_limit (length bytes) ≡ false
in_limit bytes short = grind (arith, nat_tests)

pub a_script : (bytes : List ℕ) → length bytes ≤ text_limit → IsUtf8 bytes → script_in (Some bytes) ≡ Ok bytes
a_script bytes short utf8 =
    ap (λ b. script_by b (is_utf8 bytes) bytes) (in_limit bytes short) ∙ ap (λ b. script_by false b bytes) (is_utf8-from_IsUtf8 bytes utf8)

not_text : (bytes : List ℕ) → (IsUtf8 bytes → ⊥) → is_utf8 bytes ≡ false
not_text bytes other = test (is_utf8 bytes) refl where
  test : (b : Bool) → is_utf8 bytes ≡ b → b ≡ false
  test true is = absurd (other (IsUtf8-from_is_utf8 bytes is))
  test false is = refl

pub no_text : (bytes : List ℕ) → length bytes ≤ text_limit → (IsUtf8 bytes → ⊥) → script_in (Some bytes) ≡ Err NotUtf8
no_text bytes short other =
    ap (λ b. script_by b (is_utf8 bytes) bytes) (in_limit bytes short) ∙ ap (λ b. script_by false b bytes) (not_text bytes other)

-- ---- files

-- a file that is there has bytes
pub bytes_there : (found : Option (List ℕ)) → (found ≡ None → ⊥) → (bytes : List ℕ) × (found ≡ Some bytes)
bytes_there None there = absurd (there refl)
bytes_there (Some bytes) there = (bytes, refl)

-- the faults of a source that is closed are those of the files
pub failed_closed : (before opened now fresh after : ℕ) → fresh ≡ 0 → before ≤ opened → min (opened + after) (2 ^ 64 - 1) ≤ now → HasRisen fresh after → HasRisen before now
failed_closed before opened now fresh after zero later closed risen = omega arith

-- ---- clips

-- the index of a stream is that of its one clip
pub index_of : (bytes : List ℕ) (index : Indexed) (clip other : Clip) → Indexes bytes index clip → Stream bytes other → IsIndexOf bytes index other
index_of bytes index clip other is stream =
    let same : clip ≡ other = reads_one_way.one_clip bytes clip other is.stream stream in
    let mine : Indexes bytes index other = rw (sym same) is in
    record { info_is = mine.info_is; offsets_are = mine.offsets_are; pictures_are = mine.pictures_are }

pub clip_of : (bytes : List ℕ) (index : Indexed) (clip : Clip) → Indexes bytes index clip → clip_in (Some bytes) ≡ Ok index.info
clip_of bytes index clip is = clips_are_streams.clip bytes clip is.stream ∙ ap Ok (sym is.info_is)

pub fault_of : (bytes : List ℕ) (fault : Y4mFault) → HasFault bytes fault → clip_in (Some bytes) ≡ Err (Y4m fault)
fault_of bytes fault is = clips_are_streams.fault bytes fault is

pub fault_shown : (bytes : List ℕ) (fault : IndexFault) (wrong : Y4mFault) → fault ≡ of_index.Y4m wrong → HasIndexFault bytes fault → HasFault bytes wrong
fault_shown bytes fault wrong is shown = rw is at shown
