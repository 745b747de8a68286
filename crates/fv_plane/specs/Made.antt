-- What is made of a picture row by row.
use Rattle.std.specs.Prelude.{◌≡◌, ℕ, ◌<◌, ◌≤◌, List}
use Rattle.fv_plane.specs.declared.format.Shape.{Shape}
use Rattle.fv_plane.specs.Picture.{bytes_of_row, Look, look_in, row_from, Picture}
use Rattle.fv_plane.specs.Format.{HasSamePlane, largest_sample, planes, plane_width}

-- no sample is over the largest one
abbrev pub FitsLook : Shape → Look → Type 0
FitsLook shape at = (p x y : ℕ) → at p x y ≤ largest_sample shape

-- the bytes of a row
abbrev pub bytes_made : Shape → Look → ℕ → ℕ → List ℕ
bytes_made shape at p y = bytes_of_row shape (row_from at p (plane_width shape p) y)

-- a plane is a plane of another picture
pub record IsPlaneOf (shape : Shape) (at : Look) (p : ℕ) (picture : Picture) (q : ℕ) : Type 0 where
  pub there : q < planes picture.shape.kind
  pub same : HasSamePlane shape p picture.shape q
  pub shown : (x y : ℕ) → at p x y ≡ look_in picture q x y
