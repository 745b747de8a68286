-- Rows of a turned plane that lie side by side.
use Rattle.std.specs.Prelude.{◌≡◌, ℕ, ◌+◌, ◌*◌, ◌<◌, ◌≤◌, List, slice_index}
use Rattle.fv_plane.specs.Picture.{bytes_of_row, row_of_bytes, Look, look_in, Picture, row_of, sample_of}
use Rattle.fv_plane.specs.declared.format.Shape.{Shape}
use Rattle.fv_plane.specs.Format.{planes, plane_width, plane_height, sample_bytes}
use Rattle.clip_term.specs.declared.op.SpaceOp.{SpaceOp}
use Rattle.clip_term.specs.Space.{space_at}

-- rows of a turned plane, from row y on, few enough to be made at a time
pub record AreRows (input : Picture) (p y count : ℕ) : Type 0 where
  pub plane : p < planes input.shape.kind
  pub inside : y + count ≤ plane_width input.shape p
  pub few : count ≤ 128
  pub high : plane_height input.shape p ≤ 65535

-- how many bytes rows of a turned plane have
abbrev pub size_of_rows : Shape → ℕ → ℕ → ℕ
size_of_rows shape p count = count * (plane_height shape p * sample_bytes shape)

-- rows of this width that lie side by side, from row y on
abbrev pub HasRows : Look → ℕ → ℕ → ℕ → ℕ → List ℕ → Type 0
HasRows at p y count width rows =
    (k x : ℕ) → k < count → x < width → slice_index rows (k * width + x) ≡ at p x (y + k)

-- column x of a turned plane is a row of the picture, and row y of it a column, which these name by the plane's sizes
abbrev pub turned_at : (ℕ → ℕ → ℕ) → (ℕ → ℕ → ℕ) → Picture → Look
turned_at row column input p x y =
    sample_of input.planes p (column (plane_width input.shape p) y) (row (plane_height input.shape p) x)

abbrev pub Turns : SpaceOp → (ℕ → ℕ → ℕ) → (ℕ → ℕ → ℕ) → Picture → Type 0
Turns op row column input =
    (p x y : ℕ) → space_at op input.shape (look_in input) p x y ≡ turned_at row column input p x y

-- bytes of rows that lie side by side, whose first columns are those of a turned plane from row y on
abbrev pub HasColumns : (ℕ → ℕ → ℕ) → (ℕ → ℕ → ℕ) → Picture → ℕ → ℕ → ℕ → ℕ → List ℕ → Type 0
HasColumns row column input p y count columns bytes =
    (k x : ℕ) → k < count → x < columns
    → slice_index (row_of_bytes input.shape bytes) (k * plane_height input.shape p + x)
    ≡ turned_at row column input p x (y + k)

-- such bytes, where each row has its first x columns, and the rows above row `top` have 16 more
pub record HasMoreAbove (row column : ℕ → ℕ → ℕ) (input : Picture) (p y count top x : ℕ) (bytes : List ℕ) : Type 0 where
  pub above : HasColumns row column input p y top (x + 16) bytes
  pub before : HasColumns row column input p y count x bytes

-- 16 bytes, from one on, of each of the rows that 16 columns of a turned plane are
abbrev pub HasBlock : (ℕ → ℕ → ℕ) → Picture → ℕ → ℕ → ℕ → List ℕ → Type 0
HasBlock row input p from x block =
    (k i : ℕ) → k < 16 → i < 16 → slice_index block (16 * i + k)
    ≡ slice_index (bytes_of_row input.shape (row_of input.planes p (row (plane_height input.shape p) (x + i)))) (from + k)
