-- A clip as a tree of filters: what an op is, the clip's info, each of its samples, and its pictures.
use Rattle.std.specs.List.{All, range_with_len}
use Rattle.std.specs.Option.{option_map}
use Rattle.std.specs.Prelude.{ℕ, List, [], ◌∷◌, Option, Some, None, ◌≡◌, ◌+◌, ◌<◌, true, ◌&&◌, length, map, IsTrue, Result, Ok, Err, slice_index_or}
use Rattle.fv_plane.specs.Format.{has_depth}
use Rattle.fv_plane.specs.Info.{IsLawful, IsPar}
use Rattle.fv_plane.specs.Picture.{Picture, Look, nothing, look_at, look_in, picture_from}
use Rattle.fv_plane.specs.declared.format.Colour.{Colour}
use Rattle.fv_plane.specs.declared.format.Info.{Info}
use Rattle.fv_plane.specs.declared.format.Shape.{Shape}
use Rattle.clip_term.specs.Blank.{check_plain, colour_at}
use Rattle.clip_term.specs.Choice.{RunAct, run_act, run_filter, check_run, run_asked, run_at, run_inputs}
use Rattle.clip_term.specs.Join.{join_filter, check_join, join_at}
pub use Rattle.clip_term.specs.Join.{join_inputs}
pub use Rattle.clip_term.specs.Refusals.{is_matrix}
use Rattle.clip_term.specs.Refusals.{info_at, no_info}
use Rattle.clip_term.specs.Soft.{soft_filter, check_soft, soft_asked, soft_at}
pub use Rattle.clip_term.specs.Soft.{soft_lists}
use Rattle.clip_term.specs.Space.{space_filter, check_space, space_at}
use Rattle.clip_term.specs.Time.{time_filter, field_filter, check_time, source_number, from_input, in_range, check_field, field_asked, field_at}
pub use Rattle.clip_term.specs.Time.{time_inputs, time_lists}
use Rattle.clip_term.specs.declared.fault.FilterFault.{FilterFault}
use Rattle.clip_term.specs.declared.field.FieldOp.{FieldOp}
use Rattle.clip_term.specs.declared.filter.Filter.{Filter}
use Rattle.clip_term.specs.declared.filter.Filter.TheVariants as filter
use Rattle.clip_term.specs.declared.op.JoinOp.{JoinOp}
use Rattle.clip_term.specs.declared.op.Op.{Op}
use Rattle.clip_term.specs.declared.op.Op.TheVariants as op
use Rattle.clip_term.specs.declared.op.Origin.{Origin}
use Rattle.clip_term.specs.declared.op.SoftOp.{SoftOp}
use Rattle.clip_term.specs.declared.op.SpaceOp.{SpaceOp}
use Rattle.clip_term.specs.declared.op.TimeOp.{TimeOp}
use Rattle.clip_term.specs.declared.term.Term.{Term}
use Rattle.clip_term.specs.declared.term.Term.TheFolds.{fold-Term}
use Rattle.clip_term.specs.declared.term.Term.TheOpen.{Term-F}

-- ==== A clip as a tree of filters, in the definitions' own data, and what the values of the code stand for.

-- what is done: the op, with lists in place of buffers
pub data Act : Type 0 where
  source : List ℕ → ℕ → Info → Act
  plain : Info → Colour → Act
  time : TimeOp → Act
  space : SpaceOp → Act
  joined : JoinOp → Act
  soft : SoftOp → Act
  fields : FieldOp → Act
  choice : RunAct → Act

abbrev pub act_of : Op → Act
act_of (op.Source name number info) = source name number info
act_of (op.Blank info colour) = plain info colour
act_of (op.Time inner) = time inner
act_of (op.Space inner) = space inner
act_of (op.Join inner) = joined inner
act_of (op.Soft inner) = soft inner
act_of (op.Field inner) = fields inner
act_of (op.Run inner) = choice (run_act inner)

mutual
  pub data ClipTerm : Type 0 where
    applied : Act → ClipTerms → ClipTerm

  pub data ClipTerms : Type 0 where
    no_terms : ClipTerms
    and_term : ClipTerm → ClipTerms → ClipTerms

abbrev pub clips : List ClipTerm → ClipTerms
clips [] = no_terms
clips (c ∷ cs) = and_term c (clips cs)

-- one layer, with the inputs' clips in the terms' place
abbrev pub term_step : Term-F ClipTerm → ClipTerm
term_step term = applied (act_of term.op) (clips term.inputs.items)

unfoldable pub term_of : Term → ClipTerm
term_of = fold-Term ClipTerm term_step

-- ==== What an op is: the filter that it applies, and the source that it reads.

abbrev pub filter_of : Act → Filter
filter_of (source name number info) = filter.Y4MSource
filter_of (plain info colour) = filter.BlankClip
filter_of (time op) = time_filter op
filter_of (space op) = space_filter op
filter_of (joined op) = join_filter op
filter_of (soft op) = soft_filter op
filter_of (fields op) = field_filter op
filter_of (choice op) = run_filter op

-- a source: the name of its file, how many sources were opened before, and what is known of its clip
pub record SourcePart : Type 0 where
  pub name : List ℕ
  pub number : ℕ
  pub info : Info

-- the source that an op is
abbrev pub source_part : Act → Option SourcePart
source_part (source name number info) = Some (record { name = name; number = number; info = info })
source_part (plain info colour) = None
source_part (time op) = None
source_part (space op) = None
source_part (joined op) = None
source_part (soft op) = None
source_part (fields op) = None
source_part (choice op) = None

-- what is known of the clip of a source
abbrev pub source_info : Act → Option Info
source_info act = option_map (λ (part : SourcePart). part.info) (source_part act)

-- ==== A clip's info, each of its samples, and its pictures.

-- One op over its inputs.

abbrev pub check : Act → List Info → Result Info FilterFault
check (source name number info) infos = Ok info
check (plain info colour) infos = check_plain info
check (time op) infos = check_time op infos
check (space op) infos = check_space op infos
check (joined op) infos = check_join op infos
check (soft op) infos = check_soft op infos
check (fields op) infos = check_field op infos
check (choice op) infos = check_run op infos

-- the frames that are asked for frame n, in order
abbrev pub asked : Act → List Info → ℕ → List Origin
asked (source name number info) infos n = []
asked (plain info colour) infos n = []
asked (time op) infos n = source_number op infos n ∷ []
asked (space op) infos n = in_range infos (from_input 0 n) ∷ []
asked (joined op) infos n = map (λ i. in_range infos (from_input i n)) (range_with_len 0 (length infos))
asked (soft op) infos n = soft_asked op infos n
asked (fields op) infos n = field_asked op infos n
asked (choice op) infos n = run_asked op infos n

-- a book is the list of each source's frames
abbrev pub frame_in : List (List Picture) → ℕ → ℕ → Shape → Picture
frame_in book number n shape = slice_index_or (slice_index_or book number []) n (record { shape = shape; planes = [] })

-- the sample that is made of the frames asked
abbrev pub sample : List (List Picture) → Act → List Info → ℕ → List Look → Look
sample book (source name number info) infos n looks p x y = look_in (frame_in book number n info.shape) p x y
sample book (plain info colour) infos n looks p x y = colour_at colour info.shape p x y
sample book (time op) infos n looks p x y = look_at looks 0 p x y
sample book (space op) infos n looks p x y = space_at op (info_at infos 0).shape (look_at looks 0) p x y
sample book (joined op) infos n looks p x y = join_at op infos looks p x y
sample book (soft op) infos n looks p x y = soft_at op (info_at infos 0).shape looks p x y
sample book (fields op) infos n looks p x y = field_at op (info_at infos 0) n looks p x y
sample book (choice op) infos n looks p x y = run_at op infos n looks p x y

-- The whole tree.

abbrev pub then_check : Act → Result (List Info) FilterFault → Result Info FilterFault
then_check op (Ok infos) = check op infos
then_check op (Err fault) = Err fault

abbrev pub with_first : Result Info FilterFault → Result (List Info) FilterFault → Result (List Info) FilterFault
with_first (Ok info) (Ok infos) = Ok (info ∷ infos)
with_first (Ok info) (Err fault) = Err fault
with_first (Err fault) _ = Err fault

-- the info of a clip, or the first refusal
unfoldable mutual
  pub info_of : ClipTerm → Result Info FilterFault
  info_of (applied op inputs) = then_check op (infos_of inputs)

  pub infos_of : ClipTerms → Result (List Info) FilterFault
  infos_of no_terms = Ok []
  infos_of (and_term term rest) = with_first (info_of term) (infos_of rest)

abbrev pub ok_or : {A E : Type 0} → A → Result A E → A
ok_or d (Ok a) = a
ok_or d (Err e) = d

abbrev pub looks_of : List (ℕ → Look) → List Origin → List Look
looks_of clips origins = map (λ (o : Origin). slice_index_or clips o.input (λ n. nothing) o.number) origins

-- the sample of a clip at a frame number and a place
unfoldable mutual
  pub term_sample : List (List Picture) → ClipTerm → ℕ → Look
  term_sample book (applied op inputs) n =
      let infos = ok_or [] (infos_of inputs) in
      sample book op infos n (looks_of (term_samples book inputs) (asked op infos n))

  pub term_samples : List (List Picture) → ClipTerms → List (ℕ → Look)
  term_samples book no_terms = []
  term_samples book (and_term term rest) = term_sample book term ∷ term_samples book rest

abbrev pub term_picture : List (List Picture) → ClipTerm → ℕ → Picture
term_picture book term n = picture_from (ok_or no_info (info_of term)).shape (term_sample book term n)

-- Sound ops: as many inputs, and such lists, as the row asks.

abbrev pub IsSound : Act → ℕ → Type 0
IsSound (source name number info) k = (k ≡ 0) × IsLawful info
IsSound (plain info colour) k = (k ≡ 0) × IsPar info.par × (has_depth info.shape.kind info.shape.bits ≡ true)
IsSound (time op) k = IsTrue (time_inputs op k && time_lists op)
IsSound (space op) k = k ≡ 1
IsSound (joined op) k = IsTrue (join_inputs op k)
IsSound (soft op) k = (k ≡ 1) × IsTrue (soft_lists op)
IsSound (fields op) k = k ≡ 1
IsSound (choice op) k = IsTrue (run_inputs op k)

abbrev pub inputs_of : ClipTerms → ℕ
inputs_of no_terms = 0
inputs_of (and_term term rest) = 1 + inputs_of rest

unfoldable mutual
  pub IsSoundTerm : ClipTerm → Type 0
  IsSoundTerm (applied op inputs) = IsSound op (inputs_of inputs) × AreSoundTerms inputs

  pub AreSoundTerms : ClipTerms → Type 0
  AreSoundTerms no_terms = Unit {0}
  AreSoundTerms (and_term term rest) = IsSoundTerm term × AreSoundTerms rest

abbrev pub AreLawful : List Info → Type 0
AreLawful infos = (i : ℕ) → i < length infos → IsLawful (info_at infos i)

-- what a check accepts is lawful
abbrev pub ChecksLawful : Type 0
ChecksLawful = (op : Act) (infos : List Info) (info : Info) → IsSound op (length infos) → AreLawful infos
    → check op infos ≡ Ok info → IsLawful info

-- so the info of a sound clip is lawful
abbrev pub SoundLawful : Type 0
SoundLawful = (term : ClipTerm) (info : Info) → IsSoundTerm term → info_of term ≡ Ok info → IsLawful info

-- a frame of an input
pub record IsAsked (infos : List Info) (o : Origin) : Type 0 where
  pub input : o.input < length infos
  pub number : o.number < (info_at infos o.input).frames

abbrev pub AsksInRange : Type 0
AsksInRange = (op : Act) (infos : List Info) (n : ℕ) → IsSound op (length infos) → AreLawful infos
    → All (IsAsked infos) (asked op infos n)

-- What a maker owes, and the law.

-- what a filter makes of whole frames
abbrev pub make : List (List Picture) → Act → List Info → Info → ℕ → List Picture → Picture
make book op infos info n pictures = picture_from info.shape (sample book op infos n (map look_in pictures))

abbrev pub no_picture : Picture
no_picture = record { shape = no_info.shape; planes = [] }

abbrev pub term_pictures : List (List Picture) → ClipTerms → List (ℕ → Picture)
term_pictures book no_terms = []
term_pictures book (and_term term rest) = term_picture book term ∷ term_pictures book rest

abbrev pub asked_picture : List (ℕ → Picture) → Origin → Picture
asked_picture clips origin = slice_index_or clips origin.input (λ n. no_picture) origin.number

abbrev pub infos_in : ClipTerm → Result (List Info) FilterFault
infos_in (applied op inputs) = infos_of inputs

abbrev pub op_of : ClipTerm → Act
op_of (applied op inputs) = op

-- the pictures that the clip's filter asks for frame n
abbrev pub asked_pictures : List (List Picture) → ClipTerm → List Info → ℕ → List Picture
asked_pictures book (applied op inputs) infos n = map (asked_picture (term_pictures book inputs)) (asked op infos n)

-- what a filter makes of its inputs' pictures is the clip's picture
abbrev pub MakesPictures : Type 0
MakesPictures = (book : List (List Picture)) (term : ClipTerm) (n : ℕ) (infos : List Info) (info : Info)
    → IsSoundTerm term → infos_in term ≡ Ok infos → info_of term ≡ Ok info
    → make book (op_of term) infos info n (asked_pictures book term infos n) ≡ term_picture book term n
