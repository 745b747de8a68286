-- What a filter makes of pictures.
use Rattle.std.specs.Prelude.{◌≡◌, ℕ, ◌+◌, ◌*◌, ◌/◌, ◌<◌, ◌≤◌, ◌⊎◌, ℤ, Bool, List, map, length, slice_index_or, IsTrue, None}
use Rattle.std.specs.List.{All}
use Rattle.fv_plane.specs.declared.format.Shape.{Shape}
use Rattle.fv_plane.specs.Picture.{Picture, row_of, bytes_of_row, Look, look_at, look_in, picture_from, row_from}
use Rattle.fv_plane.specs.Format.{planes, plane_width, plane_height}
use Rattle.fv_plane.specs.Refusals.{first_fault}
use Rattle.clip_term.specs.declared.op.SoftOp.{SoftOp}
use Rattle.clip_term.specs.Soft.{soft_row, samples_at, soft_refusals, soft_at, softened}
use Rattle.clip_term.specs.Terms.{no_picture, soft_lists}
use Rattle.flt_rows.specs.Rows.{AreWeights, IsBias}

abbrev pub shape_of : List Picture → Shape
shape_of pictures = (slice_index_or pictures 0 no_picture).shape

abbrev pub HaveShape : Shape → List Picture → Type 0
HaveShape shape pictures = All (λ (picture : Picture). picture.shape ≡ shape) pictures

abbrev pub soft_picture : SoftOp → List Picture → Picture
soft_picture op pictures = picture_from (shape_of pictures) (soft_at op (shape_of pictures) (map look_in pictures))

-- the means of the samples at each place
abbrev pub means_at : List Picture → ℕ → Look
means_at pictures threshold p x y =
    let half = length pictures / 2 in
    softened half threshold (look_at (map look_in pictures) half p x y) (samples_at (map look_in pictures) p x y)

-- a row of them
abbrev pub row_of_means : List Picture → ℕ → ℕ → ℕ → List ℕ
row_of_means pictures threshold p y = row_from (means_at pictures threshold) p (plane_width (shape_of pictures) p) y

-- a row that a filter makes
abbrev pub row_made : SoftOp → List Picture → ℕ → ℕ → List ℕ
row_made op pictures p y =
    let shape = shape_of pictures in
    row_from (soft_at op shape (map look_in pictures)) p (plane_width shape p) y

-- its bytes
abbrev pub bytes_made : SoftOp → List Picture → ℕ → ℕ → List ℕ
bytes_made op pictures p y = bytes_of_row (shape_of pictures) (row_made op pictures p y)

-- how many frames a filter asks
abbrev pub asked_count : SoftOp → ℕ
asked_count op = (soft_row op).count

-- as many pictures of one shape as the filter asks, and arguments that its row doesn't refuse
pub record CanSoften (op : SoftOp) (pictures : List Picture) : Type 0 where
  pub accepted : first_fault (soft_refusals op) ≡ None
  pub lists : IsTrue (soft_lists op)
  pub asked : length pictures ≡ asked_count op
  pub alike : HaveShape (shape_of pictures) pictures

-- and room for rows of them
pub record CanFill (op : SoftOp) (pictures : List Picture) (room : ℕ) : Type 0 where
  pub able : CanSoften op pictures
  pub enough : (shape_of pictures).width ≤ room

-- a plane of the result is that plane of the middle picture
abbrev pub keeps_plane : SoftOp → ℕ → Bool
keeps_plane op = (soft_row op).keeps

-- a row of one of the pictures
abbrev pub row_in : List Picture → ℕ → ℕ → ℕ → List ℕ
row_in pictures i p y = row_of (slice_index_or pictures i no_picture).planes p y

-- a row of 3 to 15 pictures of one shape
pub record AreAround (pictures : List Picture) (p y : ℕ) : Type 0 where
  pub some : 1 ≤ length pictures / 2
  pub few : length pictures ≤ 15
  pub odd : length pictures ≡ 2 * (length pictures / 2) + 1
  pub alike : HaveShape (shape_of pictures) pictures
  pub plane : p < planes (shape_of pictures).kind
  pub inside : y < plane_height (shape_of pictures) p

-- a row of a picture, and a bias and a square of weights for its sums
pub record CanConvolve (picture : Picture) (p y : ℕ) (bias : ℤ) (weights : List ℤ) : Type 0 where
  pub plane : p < planes picture.shape.kind
  pub inside : y < plane_height picture.shape p
  pub small : IsBias bias
  pub light : AreWeights weights
  pub square : (length weights ≡ 9) ⊎ (length weights ≡ 25)
