-- What a filter on fields makes of the pictures that it asks.
use Rattle.std.specs.Prelude.{◌≡◌, ℕ, ◌/◌, Bool, true, false, List, map, length, slice_index_or, None}
use Rattle.std.specs.List.{All}
use Rattle.fv_plane.specs.declared.format.Field.{Field}
use Rattle.fv_plane.specs.declared.format.Shape.{Shape}
use Rattle.fv_plane.specs.Format.{IsLegal}
use Rattle.fv_plane.specs.Picture.{look_in, picture_from, Picture}
use Rattle.fv_plane.specs.Refusals.{first_fault}
use Rattle.clip_term.specs.declared.field.FieldOp.{FieldOp}
use Rattle.clip_term.specs.declared.field.FieldOp.TheVariants as op
use Rattle.clip_term.specs.Time.{field_at, field_numbers, field_refusals, field_shape, other_row, woven_from}
use Rattle.clip_term.specs.Refusals.{no_info}
use Rattle.clip_term.specs.Terms.{no_picture}

abbrev pub shape_of : List Picture → Shape
shape_of pictures = (slice_index_or pictures 0 no_picture).shape

abbrev pub shape_made : FieldOp → List Picture → Shape
shape_made op pictures = field_shape op (shape_of pictures)

-- the picture for frame n; of the clip's info the order of fields alone counts
abbrev pub field_picture : FieldOp → Field → ℕ → List Picture → Picture
field_picture op field n pictures =
    picture_from (shape_made op pictures) (field_at op (record no_info { field = field }) n (map look_in pictures))

-- as many pictures as the filter asks, of one shape that its row doesn't refuse
pub record CanMake (op : FieldOp) (pictures : List Picture) : Type 0 where
  pub count : length pictures ≡ length (field_numbers op 0)
  pub alike : All (λ (picture : Picture). picture.shape ≡ shape_of pictures) pictures
  pub accepted : first_fault (field_refusals op (shape_of pictures)) ≡ None
  pub legal : IsLegal (shape_made op pictures)

-- the filter writes rows; else it shares the bytes of its input
abbrev pub takes_memory : FieldOp → Bool
takes_memory op.Weave = true
takes_memory op.SwapFields = true
takes_memory _ = false

-- a row that is written is a row of one of the pictures: which picture, and which row
abbrev pub picture_for : FieldOp → Field → ℕ → ℕ
picture_for op.Weave field y = woven_from field y
picture_for _ field y = 0

abbrev pub row_for : FieldOp → ℕ → ℕ
row_for op.Weave y = y / 2
row_for op.SwapFields y = other_row y
row_for _ y = y
