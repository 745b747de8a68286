-- What a filter makes of a picture of each clip.
use Rattle.std.specs.Prelude.{◌≡◌, Bool, true, false, List, map, length, IsTrue, None}
use Rattle.std.specs.List.{All}
use Rattle.fv_plane.specs.declared.format.Info.{Info}
use Rattle.fv_plane.specs.declared.format.Shape.{Shape}
use Rattle.fv_plane.specs.Format.{IsLegal}
use Rattle.fv_plane.specs.Picture.{Picture, IsPicture, look_in, picture_from}
use Rattle.fv_plane.specs.Refusals.{first_fault}
use Rattle.clip_term.specs.declared.op.JoinOp.{JoinOp}
use Rattle.clip_term.specs.declared.op.JoinOp.TheVariants as op
use Rattle.clip_term.specs.Refusals.{info_at, no_info}
use Rattle.clip_term.specs.Join.{join_refusals, join_shape, join_at}
use Rattle.clip_term.specs.Terms.{join_inputs}
use Rattle.flt_merge.specs.Rows.{HaveHeight}

-- clips of the pictures' shapes
abbrev pub infos_in : List Picture → List Info
infos_in pictures = map (λ (picture : Picture). record no_info { shape = picture.shape }) pictures

abbrev pub shape_joined : JoinOp → List Picture → Shape
shape_joined op pictures = join_shape op (info_at (infos_in pictures) 0) (infos_in pictures)

abbrev pub join_picture : JoinOp → List Picture → Picture
join_picture op pictures = picture_from (shape_joined op pictures) (join_at op (infos_in pictures) (map look_in pictures))

-- as many pictures as the op joins, of shapes that its row doesn't refuse
pub record CanJoin (op : JoinOp) (pictures : List Picture) : Type 0 where
  pub inputs : IsTrue (join_inputs op (length pictures))
  pub accepted : first_fault (join_refusals op (info_at (infos_in pictures) 0) (infos_in pictures)) ≡ None
  pub legal : IsLegal (shape_joined op pictures)

-- pictures that stand side by side in a picture of this shape
pub record AreBeside (shape : Shape) (pictures : List Picture) : Type 0 where
  pub is : shape ≡ shape_joined op.StackHorizontal pictures
  pub legal : IsLegal shape
  pub sizes : All IsPicture pictures
  pub alike : HaveHeight (shape_joined op.StackHorizontal pictures) pictures

-- a filter that writes rows: the planes of the others are planes of the inputs
abbrev pub writes_rows : JoinOp → Bool
writes_rows op.StackHorizontal = true
writes_rows op.StackVertical = true
writes_rows op.Merge = true
writes_rows _ = false
