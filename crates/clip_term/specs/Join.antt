-- The filters that join clips, a frame of each at a time (AviSynth+ wiki, "StackHorizontal / StackVertical", "Merge" and
-- "YToUV"). c is the first clip.
use Rattle.std.specs.Prelude.{ℕ, ◌+◌, ◌-◌, ◌*◌, ◌/◌, max, Bool, not, ◌&&◌, ◌||◌, if◌then◌else◌, ◌==◌, nat_lt, nat_le, List, [], ◌∷◌, Option, is_none, Result}
use Rattle.std.specs.Option.{unwrap_or}
use Rattle.std.specs.List.{list_all, find, fold, sum_by}
use Rattle.fv_plane.specs.declared.format.Info.{Info}
use Rattle.fv_plane.specs.declared.format.Shape.{Shape}
use Rattle.fv_plane.specs.declared.format.PixelType.{PixelType}
use Rattle.fv_plane.specs.declared.format.PixelType.TheVariants.{Y8, YV12, YV16, YV24, YV411}
use Rattle.fv_plane.specs.Format.{has_depth, sub_w, sub_h, plane_width, plane_height}
use Rattle.clip_term.specs.declared.fault.FilterFault.{FilterFault}
use Rattle.clip_term.specs.declared.fault.FilterFault.TheVariants.{FormatDiffers, SizeDiffers, DepthRefused}
use Rattle.clip_term.specs.declared.filter.Filter.{Filter}
use Rattle.clip_term.specs.declared.filter.Filter.TheVariants as filters
use Rattle.clip_term.specs.declared.op.JoinOp.{JoinOp}
use Rattle.clip_term.specs.declared.op.JoinOp.TheVariants as op
use Rattle.fv_plane.specs.Picture.{Look, look_at}
use Rattle.fv_plane.specs.Refusals.{Refusals, first_fault}
use Rattle.clip_term.specs.Refusals.{rate_of, info_at, sized, same_format, same_size, disagreements, unless, limits}

abbrev pub longest : List Info → ℕ
longest infos = fold (λ most (d : Info). max most d.frames) 0 infos

-- StackHorizontal, StackVertical: one picture after the other, from the left or from the top
abbrev pub beside : List Info → List Look → Look
beside [] looks p x y = 0
beside (d ∷ ds) [] p x y = 0
beside (d ∷ ds) (from ∷ looks) p x y =
    let width = plane_width d.shape p in
    if nat_lt x width then from p x y else beside ds looks p (x - width) y

abbrev pub beneath : List Info → List Look → Look
beneath [] looks p x y = 0
beneath (d ∷ ds) [] p x y = 0
beneath (d ∷ ds) (from ∷ looks) p x y =
    let height = plane_height d.shape p in
    if nat_lt y height then from p x y else beneath ds looks p x (y - height)

-- YToUV: the format in which luma of the size of y has chroma of the size of u
abbrev pub has_sizes : Shape → Shape → PixelType → Bool
has_sizes u y kind = y.width == u.width * sub_w kind && y.height == u.height * sub_h kind

abbrev pub kind_of : Shape → Shape → Option PixelType
kind_of u y = find (has_sizes u y) (YV24 ∷ YV16 ∷ YV12 ∷ YV411 ∷ [])

-- 4:1:1 has eight bits alone
abbrev pub chroma_refusals : Bool → Shape → Shape → Shape → Refusals FilterFault
chroma_refusals same_bits u v y =
    (FormatDiffers, not same_bits)
    ∷ (SizeDiffers, not (same_size u v) || is_none (kind_of u y))
    ∷ (DepthRefused, not (has_depth (unwrap_or (kind_of u y) Y8) u.bits))
    ∷ []

-- YToUV: each plane is the luma of one clip, which are U, V and Y
abbrev pub luma_source : ℕ → ℕ
luma_source p = if p == 0 then 2 else if p == 1 then 0 else 1

-- What is said of a filter: how many clips it takes; then, of clips of which c is the first, what it refuses, in this order,
-- the length, the size, and the sample in a plane at x and y.
pub record JoinRow : Type 0 where
  pub filter : Filter
  pub inputs : ℕ → Bool
  pub refusals : Info → List Info → Refusals FilterFault
  pub length : Info → List Info → ℕ
  pub shape : Info → List Info → Shape
  pub at : List Info → List Look → Look

-- two clips of one format and size; the length and the size are those of the first
abbrev of_two : Filter → (List Look → Look) → JoinRow
of_two filter at = record {
  filter = filter;
  inputs = λ k. k == 2;
  refusals = λ c infos. disagreements infos;
  length = λ c infos. c.frames;
  shape = λ c infos. c.shape;
  at = λ infos looks p x y. at looks p x y;
}

abbrev pub join_row : JoinOp → JoinRow
join_row op.StackHorizontal = record {
  filter = filters.StackHorizontal;
  inputs = λ k. nat_le 2 k;
  refusals = λ c infos.
      (FormatDiffers, not (list_all (λ (d : Info). same_format d.shape c.shape) infos))
      ∷ (SizeDiffers, not (list_all (λ (d : Info). d.shape.height == c.shape.height) infos))
      ∷ [];
  length = λ c infos. longest infos;
  shape = λ c infos. sized c.shape (sum_by (λ (d : Info). d.shape.width) infos) c.shape.height;
  at = beside;
}
join_row op.StackVertical = record {
  filter = filters.StackVertical;
  inputs = λ k. nat_le 2 k;
  refusals = λ c infos.
      (FormatDiffers, not (list_all (λ (d : Info). same_format d.shape c.shape) infos))
      ∷ (SizeDiffers, not (list_all (λ (d : Info). d.shape.width == c.shape.width) infos))
      ∷ [];
  length = λ c infos. longest infos;
  shape = λ c infos. sized c.shape c.shape.width (sum_by (λ (d : Info). d.shape.height) infos);
  at = beneath;
}
join_row op.Merge = of_two filters.Merge (λ looks p x y. (look_at looks 0 p x y + look_at looks 1 p x y + 1) / 2)
join_row op.MergeLuma = of_two filters.MergeLuma (λ looks p x y. look_at looks (if p == 0 then 1 else 0) p x y)
join_row op.MergeChroma = of_two filters.MergeChroma (λ looks p x y. look_at looks (if p == 0 then 0 else 1) p x y)
join_row op.YToUV = record {
  filter = filters.YToUV;
  inputs = λ k. k == 3;
  refusals = λ c infos.
      let same_bits = list_all (λ (d : Info). d.shape.bits == c.shape.bits) infos in
      chroma_refusals same_bits c.shape (info_at infos 1).shape (info_at infos 2).shape;
  length = λ c infos. c.frames;
  shape = λ c infos.
      let y = (info_at infos 2).shape in
      record c.shape { kind = unwrap_or (kind_of c.shape y) Y8; width = y.width; height = y.height };
  at = λ infos looks p x y. look_at looks (luma_source p) 0 x y;
}

-- The words of a row.

abbrev pub join_filter : JoinOp → Filter
join_filter op = (join_row op).filter

abbrev pub join_inputs : JoinOp → ℕ → Bool
join_inputs op = (join_row op).inputs

abbrev pub join_refusals : JoinOp → Info → List Info → Refusals FilterFault
join_refusals op = (join_row op).refusals

abbrev pub join_length : JoinOp → Info → List Info → ℕ
join_length op = (join_row op).length

abbrev pub join_shape : JoinOp → Info → List Info → Shape
join_shape op = (join_row op).shape

abbrev pub join_at : JoinOp → List Info → List Look → Look
join_at op = (join_row op).at

abbrev pub check_join : JoinOp → List Info → Result Info FilterFault
check_join op infos =
    let c = info_at infos 0 in
    unless (first_fault (join_refusals op c infos))
    (limits c (join_length op c infos) (rate_of c) (join_shape op c infos))
