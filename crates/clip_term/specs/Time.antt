-- The filters that choose frames, and those on fields.
use Rattle.std.specs.List.{range_with_len, list_any, filter, flat_map, count_by, sum_by}
use Rattle.std.specs.Prelude.{ℕ, ◌+◌, ◌-◌, ◌*◌, ◌/◌, ◌%◌, min, max, Bool, true, not, ◌&&◌, ◌||◌, if◌then◌else◌, ◌==◌, nat_lt, nat_le, ℤ, pos, ◌+ℤ◌, ◌-ℤ◌, int_lt, List, [], ◌∷◌, length, replicate, slice_index, slice_index_or, Result, ◌≡◌, ◌<◌, false, map, Ok}
use Rattle.fv_plane.specs.Format.{sub_h}
use Rattle.fv_plane.specs.Info.{Rate, IsLawful}
use Rattle.fv_plane.specs.Picture.{Look, look_at}
use Rattle.fv_plane.specs.Refusals.{Refusals, first_fault}
use Rattle.fv_plane.specs.declared.format.Field.{Field}
use Rattle.fv_plane.specs.declared.format.Field.TheVariants.{Top, Bottom}
use Rattle.fv_plane.specs.declared.format.Info.{Info}
use Rattle.fv_plane.specs.declared.format.Shape.{Shape}
use Rattle.clip_term.specs.Refusals.{rate_of, nat_of, below, above, info_at, unless, disagreements, limits, sized}
use Rattle.clip_term.specs.declared.fault.FilterFault.{FilterFault}
use Rattle.clip_term.specs.declared.fault.FilterFault.TheVariants.{BadRange, EmptyClip, NotWholeChroma}
use Rattle.clip_term.specs.declared.field.FieldOp.{FieldOp}
use Rattle.clip_term.specs.declared.field.FieldOp.TheVariants as f
use Rattle.clip_term.specs.declared.filter.Filter.{Filter}
use Rattle.clip_term.specs.declared.filter.Filter.TheVariants as filters
use Rattle.clip_term.specs.declared.op.Origin.{Origin}
use Rattle.clip_term.specs.declared.op.TimeOp.{TimeOp}
use Rattle.clip_term.specs.declared.op.TimeOp.TheVariants as op
use Rattle.clip_term.specs.declared.op.TrimBound.{TrimBound}
use Rattle.clip_term.specs.declared.op.TrimBound.TheVariants.{Last, Length, End}

-- ==== The filters that choose frames: which frames are shown, and how fast (AviSynth+ wiki, "Timeline editing filters").
-- c is the first clip.

-- Trim: the last number shown
abbrev pub last_of : TrimBound → ℤ → ℕ → ℤ
last_of (Last z) first frames = if above z 0 then z else if below z 0 then first -ℤ z -ℤ pos 1 else pos (frames - 1)
last_of (Length z) first frames = first +ℤ z -ℤ pos 1
last_of (End z) first frames = z

abbrev pub bad_bound : TrimBound → ℤ → Bool
bad_bound (Last z) first = above z 0 && int_lt z first
bad_bound (Length z) first = below z 0
bad_bound (End z) first = int_lt z first

-- SelectEvery: how many steps fit behind an offset
abbrev pub steps_behind : ℕ → ℕ → ℤ → ℕ
steps_behind frames step o = (frames - 1 - nat_of o) / step

-- of offset i, the place of its last frame, and 1 more; the greatest of these
abbrev pub every_length : ℕ → ℕ → ℕ → ℕ → List ℤ → ℕ
every_length frames step k i [] = 0
every_length frames step k i (o ∷ os) =
    max (steps_behind frames step o * k + i + 1) (every_length frames step k (i + 1) os)

abbrev pub every_number : ℕ → ℕ → List ℤ → ℕ → ℕ
every_number frames step offsets n =
    let o = slice_index_or offsets (n % length offsets) (pos 0) in
    nat_of o + min (n / length offsets) (steps_behind frames step o) * step

-- Interleave: of clip i, the place of its last frame, and 1 more; the greatest of these
abbrev pub woven_length : ℕ → ℕ → List Info → ℕ
woven_length k i [] = 0
woven_length k i (d ∷ ds) = max ((d.frames - 1) * k + i + 1) (woven_length k (i + 1) ds)

abbrev pub from_input : ℕ → ℕ → Origin
from_input input number = record { input = input; number = number }

-- Splices: frame n of the clips one after the other, from clip i on
abbrev pub spliced : ℕ → List Info → ℕ → Origin
spliced i [] n = from_input 0 n
spliced i (d ∷ []) n = from_input i n
spliced i (d ∷ e ∷ ds) n = if nat_lt n d.frames then from_input i n else spliced (i + 1) (e ∷ ds) (n - d.frames)

abbrev pub all_frames : List Info → ℕ
all_frames infos = sum_by (λ (d : Info). d.frames) infos

-- Loop
abbrev pub part_length : ℤ → ℤ → ℕ
part_length start end = nat_of end + 1 - nat_of start

abbrev pub loop_length : ℕ → ℕ → ℕ → ℕ
loop_length frames times long = frames + times * long - long

abbrev pub looped : ℕ → ℕ → ℕ → ℕ → ℕ
looped times start long n =
    if nat_lt n start then n
    else if nat_lt n (start + times * long) then start + (n - start) % long
    else n + long - times * long

-- DuplicateFrame, DeleteFrame
abbrev pub mentions : List ℤ → ℕ → ℕ
mentions fs k = count_by (λ f. nat_of f == k) fs

abbrev pub is_named : List ℤ → ℕ → Bool
is_named fs k = list_any (λ f. nat_of f == k) fs

abbrev pub different : List ℤ → ℕ
different [] = 0
different (f ∷ fs) = if is_named fs (nat_of f) then different fs else 1 + different fs

abbrev pub duplicated : List ℤ → ℕ → List ℕ
duplicated fs frames = flat_map (λ k. replicate (1 + mentions fs k) k) (range_with_len 0 frames)

abbrev pub kept : List ℤ → ℕ → List ℕ
kept fs frames = filter (λ k. not (is_named fs k)) (range_with_len 0 frames)

abbrev pub is_between : ℤ → ℤ → ℕ → Bool
is_between first last n = nat_le (nat_of first) n && nat_le n (nat_of last)

-- not 0 <= first <= last < end
abbrev pub bad_part : ℤ → ℤ → ℕ → Bool
bad_part first last end = below first 0 || int_lt last first || not (below last end)

abbrev pub bad_loop : ℤ → ℤ → ℤ → ℕ → Bool
bad_loop times start end frames = below times 0 || bad_part start end frames

abbrev pub bad_freeze : ℤ → ℤ → ℤ → ℕ → Bool
bad_freeze first last source frames = below first 0 || int_lt last first || below source 0 || not (below source frames)

abbrev pub bad_rate : ℤ → ℤ → Bool
bad_rate num den = below num 1 || below den 1

abbrev pub any_outside : List ℤ → ℕ → Bool
any_outside fs end = list_any (λ f. below f 0 || not (below f end)) fs

-- What is said of a filter: how many clips it takes, and whether its lists have numbers; then, of clips of which c is the
-- first, what it refuses, in this order, the length, the rate, and the frame at n.
pub record TimeRow : Type 0 where
  pub filter : Filter
  pub inputs : ℕ → Bool
  pub lists : Bool
  pub refusals : Info → List Info → Refusals FilterFault
  pub length : Info → List Info → ℕ
  pub rate : Info → List Info → Rate
  pub at : Info → List Info → ℕ → Origin

-- one clip, of which nothing is refused, and whose length and rate stay
abbrev of_one : Filter → (Info → ℕ → ℕ) → TimeRow
of_one filter number = record {
  filter = filter;
  inputs = λ k. k == 1;
  lists = true;
  refusals = λ c infos. [];
  length = λ c infos. c.frames;
  rate = λ c infos. rate_of c;
  at = λ c infos n. from_input 0 (number c n);
}

-- two clips or more, of one format and size
abbrev of_many : Filter → (List Info → ℕ) → (List Info → ℕ → Origin) → TimeRow
of_many filter frames at = record {
  filter = filter;
  inputs = λ k. nat_le 2 k;
  lists = true;
  refusals = λ c infos. disagreements infos;
  length = λ c infos. frames infos;
  rate = λ c infos. rate_of c;
  at = λ c infos n. at infos n;
}

abbrev pub time_row : TimeOp → TimeRow
time_row (op.Trim first bound) = record (of_one filters.Trim (λ c n. nat_of first + n)) {
  refusals = λ c infos. (BadRange, below first 0 || not (below first c.frames) || bad_bound bound first) ∷ [];
  length = λ c infos. min (nat_of (last_of bound first c.frames +ℤ pos 1)) c.frames - nat_of first;
}
time_row op.Reverse = of_one filters.Reverse (λ c n. c.frames - 1 - n)
time_row (op.FreezeFrame first last source) =
    record (of_one filters.FreezeFrame (λ c n. if is_between first last n then nat_of source else n)) {
      refusals = λ c infos. (BadRange, bad_freeze first last source c.frames) ∷ [];
    }
time_row op.SelectEven = record (of_one filters.SelectEven (λ c n. 2 * n)) {
  length = λ c infos. (c.frames + 1) / 2;
  rate = λ c infos. record { num = c.num; den = c.den * 2 };
}
time_row op.SelectOdd = record (of_one filters.SelectOdd (λ c n. 2 * n + 1)) {
  length = λ c infos. c.frames / 2;
  rate = λ c infos. record { num = c.num; den = c.den * 2 };
}
time_row (op.SelectEvery step offsets) =
    record (of_one filters.SelectEvery (λ c n. every_number c.frames (nat_of step) offsets n)) {
      lists = nat_le 1 (length offsets);
      refusals = λ c infos.
          (BadRange, below step 1 || list_any (λ o. below o 0) offsets)
          ∷ (EmptyClip, list_any (λ o. not (below o c.frames)) offsets) ∷ [];
      length = λ c infos. every_length c.frames (nat_of step) (length offsets) 0 offsets;
      rate = λ c infos. record { num = c.num * length offsets; den = c.den * nat_of step };
    }
time_row op.Interleave = record (of_many filters.Interleave (λ infos. woven_length (length infos) 0 infos)
    (λ infos n. from_input (n % length infos) (n / length infos))) {
      rate = λ c infos. record { num = c.num * length infos; den = c.den };
    }
time_row op.UnalignedSplice = of_many filters.UnalignedSplice all_frames (spliced 0)
time_row op.AlignedSplice = of_many filters.AlignedSplice all_frames (spliced 0)
time_row (op.Loop times start end) =
    record (of_one filters.Loop (λ c n. looped (nat_of times) (nat_of start) (part_length start end) n)) {
      refusals = λ c infos. (BadRange, bad_loop times start end c.frames) ∷ [];
      length = λ c infos. loop_length c.frames (nat_of times) (part_length start end);
    }
time_row (op.DuplicateFrame frames) =
    record (of_one filters.DuplicateFrame (λ c n. slice_index (duplicated frames c.frames) n)) {
      lists = nat_le 1 (length frames);
      refusals = λ c infos. (BadRange, any_outside frames c.frames) ∷ [];
      length = λ c infos. c.frames + length frames;
    }
time_row (op.DeleteFrame frames) = record (of_one filters.DeleteFrame (λ c n. slice_index (kept frames c.frames) n)) {
  lists = nat_le 1 (length frames);
  refusals = λ c infos. (BadRange, any_outside frames c.frames) ∷ [];
  length = λ c infos. c.frames - different frames;
}
time_row (op.AssumeFPS num denominator) = record (of_one filters.AssumeFPS (λ c n. n)) {
  refusals = λ c infos. (BadRange, bad_rate num denominator) ∷ [];
  rate = λ c infos. record { num = nat_of num; den = nat_of denominator };
}
time_row (op.ChangeFPS num denominator) =
    record (of_one filters.ChangeFPS (λ c n. n * (c.num * nat_of denominator) / (c.den * nat_of num))) {
      refusals = λ c infos. (BadRange, bad_rate num denominator) ∷ [];
      length = λ c infos.
          let a = c.num * nat_of denominator in
          let b = c.den * nat_of num in
          (c.frames * b + a - 1) / a;
      rate = λ c infos. record { num = nat_of num; den = nat_of denominator };
    }
time_row (op.ApplyRange first last) = record {
  filter = filters.ApplyRange;
  inputs = λ k. k == 2;
  lists = true;
  refusals = λ c infos. (BadRange, bad_part first last c.frames) ∷ disagreements infos;
  length = λ c infos. c.frames;
  rate = λ c infos. rate_of c;
  at = λ c infos n. from_input (if is_between first last n then 1 else 0) n;
}

-- The words of a row.

abbrev pub time_filter : TimeOp → Filter
time_filter op = (time_row op).filter

abbrev pub time_inputs : TimeOp → ℕ → Bool
time_inputs op = (time_row op).inputs

abbrev pub time_lists : TimeOp → Bool
time_lists op = (time_row op).lists

abbrev pub time_refusals : TimeOp → Info → List Info → Refusals FilterFault
time_refusals op = (time_row op).refusals

abbrev pub time_length : TimeOp → Info → List Info → ℕ
time_length op = (time_row op).length

abbrev pub time_rate : TimeOp → Info → List Info → Rate
time_rate op = (time_row op).rate

abbrev pub frame_at : TimeOp → Info → List Info → ℕ → Origin
frame_at op = (time_row op).at

abbrev pub check_time : TimeOp → List Info → Result Info FilterFault
check_time op infos =
    let c = info_at infos 0 in
    unless (first_fault (time_refusals op c infos)) (limits c (time_length op c infos) (time_rate op c infos) c.shape)

-- a number is first brought into those of its clip
abbrev pub in_range : List Info → Origin → Origin
in_range infos origin = from_input origin.input (min origin.number ((info_at infos origin.input).frames - 1))

abbrev pub source_number : TimeOp → List Info → ℕ → Origin
source_number op infos n = in_range infos (frame_at op (info_at infos 0) infos n)

-- ==== The filters on fields, which are the even and the odd rows of a frame (AviSynth+ wiki, "Interlaced and Fieldbased").
-- c is the clip.

abbrev pub is_top_first : Field → Bool
is_top_first Bottom = false
is_top_first _ = true

abbrev pub exchanged : Field → Field
exchanged Top = Bottom
exchanged Bottom = Top
exchanged field = field

abbrev pub is_even : ℕ → Bool
is_even n = n % 2 == 0

abbrev pub same_bool : Bool → Bool → Bool
same_bool true b = b
same_bool false b = not b

-- the rows of a frame are two fields of whole chroma rows
abbrev pub has_fields : Shape → Bool
has_fields shape = shape.height % (2 * sub_h shape.kind) == 0

-- frame n of the fields of a clip is the even rows
abbrev pub is_upper : Field → ℕ → Bool
is_upper field n = same_bool (is_even n) (is_top_first field)

-- the frame of the two that has row y of a woven one
abbrev pub woven_from : Field → ℕ → ℕ
woven_from field y = if same_bool (is_even y) (is_top_first field) then 0 else 1

abbrev pub other_row : ℕ → ℕ
other_row y = if is_even y then y + 1 else y - 1

-- What is said of a filter over the clip c: what it refuses, in this order; the size, the length, the rate and the order of
-- fields; the frames of c for frame n; and the sample in a plane at x and y.
pub record FieldRow : Type 0 where
  pub filter : Filter
  pub refusals : Shape → Refusals FilterFault
  pub shape : Shape → Shape
  pub length : ℕ → ℕ
  pub rate : Info → Rate
  pub order : Field → Field
  pub numbers : ℕ → List ℕ
  pub at : Info → ℕ → List Look → Look

-- nothing is refused, and all but the order of fields stays
abbrev in_order : Filter → (Field → Field) → FieldRow
in_order filter order = record {
  filter = filter;
  refusals = λ shape. [];
  shape = λ shape. shape;
  length = λ frames. frames;
  rate = λ c. rate_of c;
  order = order;
  numbers = λ n. n ∷ [];
  at = λ c n looks p x y. look_at looks 0 p x y;
}

abbrev pub field_row : FieldOp → FieldRow
field_row f.SeparateFields = record {
  filter = filters.SeparateFields;
  refusals = λ shape. (NotWholeChroma, not (has_fields shape)) ∷ [];
  shape = λ shape. sized shape shape.width (shape.height / 2);
  length = λ frames. 2 * frames;
  rate = λ c. record { num = c.num * 2; den = c.den };
  order = λ field. field;
  numbers = λ n. (n / 2) ∷ [];
  at = λ c n looks p x y. look_at looks 0 p x (2 * y + (if is_upper c.field n then 0 else 1));
}
field_row f.Weave = record {
  filter = filters.Weave;
  refusals = λ shape. [];
  shape = λ shape. sized shape shape.width (2 * shape.height);
  length = λ frames. frames / 2;
  rate = λ c. record { num = c.num; den = c.den * 2 };
  order = λ field. field;
  numbers = λ n. (2 * n) ∷ (2 * n + 1) ∷ [];
  at = λ c n looks p x y. look_at looks (woven_from c.field y) p x (y / 2);
}
field_row f.SwapFields = record (in_order filters.SwapFields (λ field. field)) {
  refusals = λ shape. (NotWholeChroma, not (has_fields shape)) ∷ [];
  at = λ c n looks p x y. look_at looks 0 p x (other_row y);
}
field_row f.AssumeTFF = in_order filters.AssumeTFF (λ field. Top)
field_row f.AssumeBFF = in_order filters.AssumeBFF (λ field. Bottom)
field_row f.ComplementParity = in_order filters.ComplementParity exchanged

-- The words of a row.

abbrev pub field_filter : FieldOp → Filter
field_filter op = (field_row op).filter

abbrev pub field_refusals : FieldOp → Shape → Refusals FilterFault
field_refusals op = (field_row op).refusals

abbrev pub field_shape : FieldOp → Shape → Shape
field_shape op = (field_row op).shape

abbrev pub field_length : FieldOp → ℕ → ℕ
field_length op = (field_row op).length

abbrev pub field_rate : FieldOp → Info → Rate
field_rate op = (field_row op).rate

abbrev pub field_order : FieldOp → Field → Field
field_order op = (field_row op).order

abbrev pub field_numbers : FieldOp → ℕ → List ℕ
field_numbers op = (field_row op).numbers

abbrev pub field_at : FieldOp → Info → ℕ → List Look → Look
field_at op = (field_row op).at

abbrev pub check_field : FieldOp → List Info → Result Info FilterFault
check_field op infos =
    let c = info_at infos 0 in
    unless (first_fault (field_refusals op c.shape))
    (limits (record c { field = field_order op c.field }) (field_length op c.frames) (field_rate op c) (field_shape op c.shape))

abbrev pub field_asked : FieldOp → List Info → ℕ → List Origin
field_asked op infos n = map (λ k. in_range infos (from_input 0 k)) (field_numbers op n)

-- ---- the law: fields that are separated and woven again

-- what a filter makes of a clip's frames
abbrev pub field_frames : FieldOp → Info → (ℕ → Look) → ℕ → Look
field_frames op c frames n = field_at op c n (map (λ (o : Origin). frames o.number) (field_asked op (c ∷ []) n))

pub record WovenAgain (c separated : Info) : Type 0 where
  pub info : check_field f.Weave (separated ∷ []) ≡ Ok c
  pub samples : (frames : ℕ → Look) (n p x y : ℕ) → n < c.frames
      → field_frames f.Weave separated (field_frames f.SeparateFields c frames) n p x y ≡ frames n p x y

abbrev pub WeavesAgain : Type 0
WeavesAgain = (c separated : Info) → IsLawful c → check_field f.SeparateFields (c ∷ []) ≡ Ok separated → WovenAgain c separated
