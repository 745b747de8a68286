-- What other crates may cite: frames and their bytes.
use Rattle.std.proofs.Common.{◌≡◌, ℕ, ◌<◌, ◌≤◌, ◌*◌, ◌/◌, ◌%◌, ◌==◌, Bool, true, false, nat_le, if◌then◌else◌, eqb-true, eq-eqb, List, [], length, get_or, take, refl, sym, ◌∙◌, ap, arith, ◌⊎◌, inl, inr}
use Rattle.std.proofs.lemmas.Bool.{and_parts, and_from, leb-true, le-leb, cases_Bool}
use Rattle.fv_plane.specs.declared.format.TheConstants.Shape.{MAX_SIDE, MAX_BYTES}
use Rattle.fv_plane.specs.declared.format.PixelType.{PixelType}
use Rattle.fv_plane.specs.declared.format.PixelType.TheVariants.{Y8, YV12, YV16, YV24, YV411}
use Rattle.fv_plane.specs.declared.format.Shape.{Shape}
use Rattle.fv_plane.specs.Format.{IsLegal, has_depth, has_whole_sides, largest_sample, scale, sample_bytes, planes, plane_width, plane_height, sub_w, sub_h, frame_bytes}
use Rattle.fv_plane.specs.Picture.{Picture, IsPicture, row_of, bytes_of, bytes_of_row, picture_of, row_of_bytes, in_range, wide_bytes, wide_samples, FitsRow, FitBytes}
use Rattle.fv_plane.proofs.BytesLemmas.{row-bytes_of_row}
use Rattle.fv_plane.proofs.CutLemmas as cut
use Rattle.fv_plane.proofs.PictureLemmas as picture

-- the bytes of luma alone are some
some_luma : (w h : ℕ) → 0 < w → 0 < h → 0 < w * h
some_luma w h some_w some_h = grind arith

some_by : (b : Bool) (n : ℕ) → 0 < n → 0 < n * (if b then 1 else 2)
some_by true n some = omega arith
some_by false n some = omega arith

-- a legal frame has a byte
pub some_bytes : (shape : Shape) → IsLegal shape → 0 < frame_bytes shape
some_bytes shape legal = some_by (shape.bits == 8) _ (omega (arith, some_luma shape.width shape.height legal.some_width legal.some_height))

-- bits of the format, whole sides, and bytes that are not too many, are a legal shape
pub legal_by : (shape : Shape) → has_depth shape.kind shape.bits ≡ true → has_whole_sides shape ≡ true → frame_bytes shape ≤ MAX_BYTES → IsLegal shape
legal_by shape depth whole small =
    let a = and_parts (nat_le 1 shape.width) _ whole in
    let b = and_parts (nat_le shape.width MAX_SIDE) _ a.1 in
    let c = and_parts (nat_le 1 shape.height) _ b.1 in
    let d = and_parts (nat_le shape.height MAX_SIDE) _ c.1 in
    let e = and_parts (shape.width % sub_w shape.kind == 0) (shape.height % sub_h shape.kind == 0) d.1 in
    record {
      depth = depth;
      some_width = leb-true 1 shape.width a.0;
      some_height = leb-true 1 shape.height c.0;
      most_width = leb-true shape.width MAX_SIDE b.0;
      most_height = leb-true shape.height MAX_SIDE d.0;
      whole_width = eqb-true (shape.width % sub_w shape.kind) 0 e.0;
      whole_height = eqb-true (shape.height % sub_h shape.kind) 0 e.1;
      most_bytes = small;
    }

-- a legal shape has whole sides
pub whole_sides : (shape : Shape) → IsLegal shape → has_whole_sides shape ≡ true
whole_sides shape legal =
    and_from (nat_le 1 shape.width) _ (le-leb 1 shape.width legal.some_width) (and_from (nat_le shape.width MAX_SIDE) _ (le-leb shape.width MAX_SIDE legal.most_width)
    (and_from (nat_le 1 shape.height) _ (le-leb 1 shape.height legal.some_height) (and_from (nat_le shape.height MAX_SIDE) _ (le-leb shape.height MAX_SIDE legal.most_height)
    (and_from (shape.width % sub_w shape.kind == 0) (shape.height % sub_h shape.kind == 0) (eq-eqb (shape.width % sub_w shape.kind) 0 legal.whole_width)
    (eq-eqb (shape.height % sub_h shape.kind) 0 legal.whole_height)))))

-- the frame that is cut has the shape
pub shape-picture_of : (shape : Shape) (bytes : List ℕ) → (picture_of shape bytes).shape ≡ shape
shape-picture_of shape bytes = refl

-- the planes that are cut are as many as the format has
pub length-picture_of : (shape : Shape) (bytes : List ℕ) → length (picture_of shape bytes).planes ≡ planes shape.kind
length-picture_of shape bytes = cut.length-cut shape (in_range shape bytes)

-- a frame that is cut from its bytes is a picture
pub IsPicture-picture_of : (shape : Shape) (bytes : List ℕ) → IsLegal shape → frame_bytes shape ≤ length bytes → ((k : ℕ) → get_or bytes k 0 ≤ 255) → IsPicture (picture_of shape bytes)
IsPicture-picture_of shape bytes legal whole bounded = cut.IsPicture-picture_of shape bytes legal whole bounded

-- a frame is cut from the first bytes alone, as many as it has
pub picture_of-take : (shape : Shape) (bytes : List ℕ) → picture_of shape (take (frame_bytes shape) bytes) ≡ picture_of shape bytes
picture_of-take shape bytes = cut.picture_of-take shape bytes

-- the bytes of a frame that was cut from bytes are these bytes in range
pub bytes_of-picture_of : (shape : Shape) (bytes : List ℕ) → length bytes ≡ frame_bytes shape → bytes_of (picture_of shape bytes) ≡ in_range shape bytes
bytes_of-picture_of shape bytes whole = cut.bytes_of-picture_of shape bytes whole

-- cutting the bytes of a frame gives the frame
pub picture_of-bytes_of : (picture : Picture) → IsPicture picture → picture_of picture.shape (bytes_of picture) ≡ picture
picture_of-bytes_of picture is = cut.picture_of-bytes_of picture is

-- a frame has the bytes of its shape
pub length-bytes_of : (picture : Picture) → IsPicture picture → length (bytes_of picture) ≡ frame_bytes picture.shape
length-bytes_of picture is = cut.length-bytes_of picture is

-- frames of one shape with equal bytes are equal
pub same_bytes : (a b : Picture) → IsPicture a → IsPicture b → a.shape ≡ b.shape → bytes_of a ≡ bytes_of b → a ≡ b
same_bytes a b a_is b_is shapes same =
    sym (picture_of-bytes_of a a_is) ∙ ap (λ s. picture_of s (bytes_of a)) shapes ∙ ap (λ l. picture_of b.shape l) same ∙ picture_of-bytes_of b b_is

some_down : (kind : PixelType) (n : ℕ) → 0 < n → n % sub_h kind ≡ 0 → 0 < n / sub_h kind
some_down Y8 n some whole = omega arith
some_down YV12 n some whole = omega arith
some_down YV16 n some whole = omega arith
some_down YV24 n some whole = omega arith
some_down YV411 n some whole = omega arith

some_either : (b : Bool) (x y : ℕ) → 0 < x → 0 < y → 0 < (if b then x else y)
some_either true x y first second = first
some_either false x y first second = second

-- a plane of a legal frame has a row
pub some_rows : (shape : Shape) (p : ℕ) → IsLegal shape → 0 < plane_height shape p
some_rows shape p legal = some_either (p == 0) _ _ legal.some_height (some_down shape.kind shape.height legal.some_height legal.whole_height)

-- a plane has as many rows as its height
pub length-plane : (picture : Picture) (p : ℕ) → IsPicture picture → p < planes picture.shape.kind → length (get_or picture.planes p []) ≡ plane_height picture.shape p
length-plane picture p is there = let plane = is.sizes p (let count = is.count in omega arith) in plane.count

-- a row of a plane has as many samples as its width
pub length-row : (picture : Picture) (p y : ℕ) → IsPicture picture → p < planes picture.shape.kind → y < plane_height picture.shape p → length (row_of picture.planes p y) ≡ plane_width picture.shape p
length-row picture p y is there inside = let plane = is.sizes p (let count = is.count in omega arith) in plane.widths y inside

-- the bytes of a frame are in range
pub in_range-bytes_of : (picture : Picture) → IsPicture picture → in_range picture.shape (bytes_of picture) ≡ bytes_of picture
in_range-bytes_of picture is = cut.in_range-bytes_of picture is

-- bytes of samples of eight bits are in range
pub in_range-narrow : (shape : Shape) (bytes : List ℕ) → shape.bits ≡ 8 → in_range shape bytes ≡ bytes
unfolding in_range
in_range-narrow shape bytes narrow = rw narrow refl

-- the bytes of samples of eight bits are these samples
pub bytes_of_narrow : (shape : Shape) (row : List ℕ) → shape.bits ≡ 8 → bytes_of_row shape row ≡ row
unfolding bytes_of_row
bytes_of_narrow shape row narrow = rw narrow refl

-- the samples of bytes are these bytes, where a sample has eight bits
pub narrow_of_bytes : (shape : Shape) (bytes : List ℕ) → shape.bits ≡ 8 → row_of_bytes shape bytes ≡ bytes
unfolding row_of_bytes
narrow_of_bytes shape bytes narrow = rw narrow refl

-- the bytes of a sample
abbrev size_by : Bool → ℕ
size_by b = if b then 1 else 2

wide_row_by : (b : Bool) (row : List ℕ) → b ≡ false → (if b then row else wide_bytes row) ≡ wide_bytes row
wide_row_by true row wide = cc
wide_row_by false row wide = refl

-- the bytes of samples of two bytes
pub bytes_of_wide : (shape : Shape) (row : List ℕ) → (shape.bits == 8) ≡ false → bytes_of_row shape row ≡ wide_bytes row
unfolding bytes_of_row
bytes_of_wide shape row wide = wide_row_by (shape.bits == 8) row wide

wide_read_by : (b : Bool) (bytes : List ℕ) → b ≡ false → (if b then bytes else wide_samples bytes) ≡ wide_samples bytes
wide_read_by true bytes wide = cc
wide_read_by false bytes wide = refl

-- and the samples of their bytes
pub wide_of_bytes : (shape : Shape) (bytes : List ℕ) → (shape.bits == 8) ≡ false → row_of_bytes shape bytes ≡ wide_samples bytes
unfolding row_of_bytes
wide_of_bytes shape bytes wide = wide_read_by (shape.bits == 8) bytes wide

-- bytes of samples of eight bits fit
pub fit_narrow : (shape : Shape) (bytes : List ℕ) → shape.bits ≡ 8 → FitBytes shape bytes
fit_narrow shape bytes narrow = λ wide. absurd (let e = rw narrow at wide in omega arith)

-- the bytes of samples that fit do
pub fit_row : (shape : Shape) (row : List ℕ) → FitsRow shape row → FitBytes shape (bytes_of_row shape row)
fit_row shape row fits = λ wide x. rw (row-bytes_of_row shape row) (fits x)

-- the samples of a row's bytes are the row
pub row_again : (shape : Shape) (row : List ℕ) → row_of_bytes shape (bytes_of_row shape row) ≡ row
row_again shape row = row-bytes_of_row shape row

-- a part of a colour of eight bits is a sample, scaled
pub scaled : (shape : Shape) (n : ℕ) → has_depth shape.kind shape.bits ≡ true → n ≤ 255 → n * scale shape ≤ largest_sample shape
scaled shape n is small = picture.scaled shape n is small

two_bytes_by : (b : Bool) → size_by b ≡ 2 → b ≡ false
two_bytes_by true is = absurd (omega arith)
two_bytes_by false is = refl

-- samples of two bytes have more than eight bits
pub is_wide : (shape : Shape) → sample_bytes shape ≡ 2 → (shape.bits == 8) ≡ false
is_wide shape is = two_bytes_by (shape.bits == 8) is

two_by : (b : Bool) → b ≡ false → size_by b ≡ 2
two_by true is = cc
two_by false is = refl

-- and samples of more have two bytes
pub two_bytes : (shape : Shape) → (shape.bits == 8) ≡ false → sample_bytes shape ≡ 2
two_bytes shape is = two_by (shape.bits == 8) is

-- a sample has more than eight bits, or eight
pub depth_cases : (shape : Shape) → (shape.bits ≡ 8) ⊎ ((shape.bits == 8) ≡ false)
depth_cases shape = elim (cases_Bool (shape.bits == 8)) [ inl is ↦ inl (eqb-true shape.bits 8 is) | inr wide ↦ inr wide ]
