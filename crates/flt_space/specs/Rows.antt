-- The rows that makers put.
use Rattle.std.specs.Prelude.{◌≡◌, ℕ, ◌-◌, ◌<◌, pos, Bool, not, None, false, List, ◌++◌, length, map, replicate}
use Rattle.fv_plane.specs.declared.format.Shape.{Shape}
use Rattle.fv_plane.specs.Format.{IsLegal, planes, plane_width, plane_height, row_bytes}
use Rattle.fv_plane.specs.Picture.{look_in, row_from, Picture, row_of}
use Rattle.fv_plane.specs.Refusals.{first_fault}
use Rattle.clip_term.specs.declared.op.SpaceOp.{SpaceOp}
use Rattle.clip_term.specs.declared.op.SpaceOp.TheVariants as op
use Rattle.clip_term.specs.Space.{converted, space_at, space_refusals, space_shape}
use Rattle.flt_space.specs.Kept.{keeps_plane}

-- the samples of a row that a filter makes
abbrev pub row_made : SpaceOp → Picture → ℕ → ℕ → List ℕ
row_made op input p y = row_from (space_at op input.shape (look_in input)) p (plane_width (space_shape op input.shape) p) y

-- the samples of a row in other bits
abbrev pub row_converted : Picture → ℕ → ℕ → ℕ → List ℕ
row_converted input bits p y = map (converted input.shape.bits bits) (row_of input.planes p y)

-- an input, and its shape in other bits
pub record CanConvert (input : Picture) (shape : Shape) : Type 0 where
  pub is : shape ≡ space_shape (op.ConvertBits (pos shape.bits)) input.shape
  pub legal : IsLegal shape

-- an input that a filter accepts, which keeps its bits, and the shape of the picture
pub record CanMake (op : SpaceOp) (input : Picture) (shape : Shape) : Type 0 where
  pub accepted : first_fault (space_refusals op input.shape) ≡ None
  pub is : shape ≡ space_shape op input.shape
  pub bits : shape.bits ≡ input.shape.bits
  pub legal : IsLegal shape

-- a row that a filter makes: its input was accepted, and the plane is not kept
pub record IsRowToMake (op : SpaceOp) (input : Picture) (p y : ℕ) : Type 0 where
  pub accepted : first_fault (space_refusals op input.shape) ≡ None
  pub changed : keeps_plane op p ≡ false
  pub plane : p < planes (space_shape op input.shape).kind
  pub inside : y < plane_height (space_shape op input.shape) p

-- such a row, whose samples have the bits of the input, with room for its samples and its bytes
pub record IsRowToPut (op : SpaceOp) (input : Picture) (p y : ℕ) (samples bytes : List ℕ) : Type 0 where
  pub row : IsRowToMake op input p y
  pub bits : (space_shape op input.shape).bits ≡ input.shape.bits
  pub wide : length samples ≡ plane_width (space_shape op input.shape) p
  pub whole : length bytes ≡ row_bytes (space_shape op input.shape) p

-- a row of this width that is another row between samples of one value
abbrev pub padded : ℕ → ℕ → List ℕ → ℕ → List ℕ
padded before value row width = replicate before value ++ (row ++ replicate (width - before - length row) value)

-- a plane whose rows a filter writes: the other planes are shared, one by one or with the whole picture
abbrev pub writes_plane : SpaceOp → ℕ → Bool
writes_plane (op.Crop left top width height) p = false
writes_plane (op.CropBottom n) p = false
writes_plane op.FlipVertical p = false
writes_plane op.SwapUV p = false
writes_plane op.UToY8 p = false
writes_plane op.VToY8 p = false
writes_plane op.ConvertToY8 p = false
writes_plane filter p = not (keeps_plane filter p)
