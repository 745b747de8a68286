-- The rows that each maker puts, by plane and place, and the samples in them.
use Rattle.std.specs.Prelude.{◌≡◌, ℕ, ◌+◌, ◌/◌, List, [], if◌then◌else◌, ◌==◌, slice_index_or}
use Rattle.std.specs.List.{All, flat_map, sum_by}
use Rattle.std.specs.Simd.Lanes.{zip2}
use Rattle.fv_plane.specs.declared.format.Shape.{Shape}
use Rattle.fv_plane.specs.Picture.{bytes_of_row, Picture, row_of, Look, look_in}

-- luma of one picture and chroma of another
abbrev pub one_of_two : Picture → Picture → ℕ → Picture
one_of_two luma chroma p = if p == 0 then luma else chroma

abbrev pub rows_of_two : Picture → Picture → ℕ → ℕ → List ℕ
rows_of_two luma chroma p z = row_of (one_of_two luma chroma p).planes p z

abbrev pub look_of_two : Picture → Picture → Look
look_of_two luma chroma p x y = look_in (one_of_two luma chroma p) p x y

-- luma of three pictures
abbrev pub one_of_three : Picture → Picture → Picture → ℕ → Picture
one_of_three y u v p = if p == 0 then y else if p == 1 then u else v

abbrev pub rows_of_luma : Picture → Picture → Picture → ℕ → ℕ → List ℕ
rows_of_luma y u v p z = row_of (one_of_three y u v p).planes 0 z

abbrev pub look_of_luma : Picture → Picture → Picture → Look
look_of_luma y u v p x z = look_in (one_of_three y u v p) 0 x z

-- means of two pictures
abbrev pub mean : ℕ → ℕ → ℕ
mean a b = (a + b + 1) / 2

abbrev pub rows_of_means : Picture → Picture → ℕ → ℕ → List ℕ
rows_of_means a b p z = zip2 mean (row_of a.planes p z) (row_of b.planes p z)

abbrev pub look_of_means : Picture → Picture → Look
look_of_means a b p x y = mean (look_in a p x y) (look_in b p x y)

-- pictures below each other: a plane is the rows of all of them
abbrev pub plane_of_all : List Picture → ℕ → List (List ℕ)
plane_of_all pictures p = flat_map (λ (picture : Picture). slice_index_or picture.planes p []) pictures

abbrev pub rows_beneath : List Picture → ℕ → ℕ → List ℕ
rows_beneath pictures p z = slice_index_or (plane_of_all pictures p) z []

-- pictures side by side: a row is those of all of them
abbrev pub rows_beside : List Picture → ℕ → ℕ → List ℕ
rows_beside pictures p z = flat_map (λ (picture : Picture). row_of picture.planes p z) pictures

-- and their bytes
abbrev pub bytes_beside : List Picture → ℕ → ℕ → List ℕ
bytes_beside pictures p z = flat_map (λ (picture : Picture). bytes_of_row picture.shape (row_of picture.planes p z)) pictures

-- of the kind, the width and the bits of this shape
abbrev pub HaveWidth : Shape → List Picture → Type 0
HaveWidth shape pictures =
    All (λ (picture : Picture).
    (picture.shape.kind ≡ shape.kind) × (picture.shape.width ≡ shape.width) × (picture.shape.bits ≡ shape.bits)) pictures

-- of the kind, the height and the bits of this shape
abbrev pub HaveHeight : Shape → List Picture → Type 0
HaveHeight shape pictures =
    All (λ (picture : Picture).
    (picture.shape.kind ≡ shape.kind) × (picture.shape.height ≡ shape.height) × (picture.shape.bits ≡ shape.bits)) pictures

abbrev pub width_of_all : List Picture → ℕ
width_of_all pictures = sum_by (λ (picture : Picture). picture.shape.width) pictures

abbrev pub height_of_all : List Picture → ℕ
height_of_all pictures = sum_by (λ (picture : Picture). picture.shape.height) pictures
