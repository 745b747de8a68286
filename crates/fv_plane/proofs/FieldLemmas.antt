-- Every second row of a picture.
use Rattle.std.proofs.Common.{◌≡◌, ℕ, ◌+◌, ◌*◌, ◌/◌, ◌%◌, ◌<◌, List, [], length, get_or, drop, map, refl, sym, ◌∙◌, ap, arith, Bool, true, false, if◌then◌else◌, ◌==◌, inl, inr, Option}
use Rattle.std.proofs.Math.ListN.{get_or-map}
use Rattle.std.proofs.lemmas.Bool.{cases_lt}
use Rattle.std.proofs.lemmas.List.{get_or_past, length-map}
use Rattle.std.proofs.lemmas.List.FromFn.{fill_by_all, get_or-map-range_with_len, length-map-range_with_len}
use Rattle.std.specs.List.{range_with_len}
use Rattle.fv_plane.specs.declared.format.PixelType.{PixelType}
use Rattle.fv_plane.specs.declared.format.PixelType.TheVariants.{Y8, YV12, YV16, YV24, YV411}
use Rattle.fv_plane.specs.declared.format.Shape.{Shape}
use Rattle.fv_plane.specs.Format.{HasFields, IsLegal, IsWindow, half_shape, planes, plane_width, plane_height, sub_h, window_at}
use Rattle.fv_rows.specs.Rows.{IsPlane, every_second}
use Rattle.fv_plane.specs.Picture.{Picture, IsPicture, row_of_bytes, decoded_rows, chroma_list, frame_of, AreWhole, Look, look_in, field_in}
use Rattle.fv_plane.proofs.BytesLemmas.{row_of_bytes-nil, decoded-same, whole_none}
use Rattle.fv_plane.proofs.WindowLemmas.{plane_listed, frame_listed, get_or-picture_from, IsPicture-picture_from, legal_window}

-- a row of every second one
second_row : (rows : List (List ℕ)) (from y : ℕ) → y < length rows / 2 → get_or (every_second from rows) y [] ≡ get_or rows (2 * y + from) []
second_row rows from y h = get_or-map-range_with_len (λ z. get_or rows (2 * z + from) []) 0 (length rows / 2) y y [] h (omega arith)

second_count : (rows : List (List ℕ)) (from : ℕ) → length (every_second from rows) ≡ length rows / 2
second_count rows from = length-map-range_with_len (λ z. get_or rows (2 * z + from) []) 0 (length rows / 2)

-- every second row, decoded
decoded-second : (shape : Shape) (rows : List (List ℕ)) (from : ℕ) → decoded_rows shape (every_second from rows) ≡ every_second from (decoded_rows shape rows)
decoded-second shape rows from =
    let all = decoded_rows shape rows in
    let count : length all ≡ length rows = length-map rows (row_of_bytes shape) in
    fill_by_all (λ y. get_or all (2 * y + from) []) (decoded_rows shape (every_second from rows)) (length rows / 2) []
    (length-map (every_second from rows) (row_of_bytes shape) ∙ second_count rows from)
    (λ y inside.
    let place = ap (λ (d : List ℕ). get_or (decoded_rows shape (every_second from rows)) y d) (sym (row_of_bytes-nil shape)) in
    place ∙ get_or-map (row_of_bytes shape) (every_second from rows) y [] ∙ ap (row_of_bytes shape) (second_row rows from y inside)
    ∙ sym (ap (λ (d : List ℕ). get_or all (2 * y + from) d) (sym (row_of_bytes-nil shape)) ∙ get_or-map (row_of_bytes shape) rows (2 * y + from) []))
    ∙ ap (λ n. map (λ y. get_or all (2 * y + from) []) (range_with_len 0 (n / 2))) (sym count)

-- whole rows are whole
pub whole-second : (shape : Shape) (rows : List (List ℕ)) (from : ℕ) → AreWhole shape rows → AreWhole shape (every_second from rows)
whole-second shape rows from are = record {
  whole = λ y. elim (cases_lt y (length rows / 2)) [
    | inl there ↦ rw (second_row rows from y there) (are.whole (2 * y + from))
    | inr past ↦ rw (get_or_past (every_second from rows) y [] (omega (arith, second_count rows from))) ((whole_none shape).whole 0)
  ];
}

half_of : (luma : Bool) (kind : PixelType) (h : ℕ) → h % (2 * sub_h kind) ≡ 0 → (if luma then h else h / sub_h kind) / 2 ≡ (if luma then h / 2 else (h / 2) / sub_h kind)
half_of true kind h even = refl
half_of false Y8 h even = omega arith
half_of false YV12 h even = omega arith
half_of false YV16 h even = omega arith
half_of false YV24 h even = omega arith
half_of false YV411 h even = omega arith

even_rows : (luma : Bool) (kind : PixelType) (h : ℕ) → h % (2 * sub_h kind) ≡ 0 → (if luma then h else h / sub_h kind) % 2 ≡ 0
even_rows true Y8 h even = omega arith
even_rows true YV12 h even = omega arith
even_rows true YV16 h even = omega arith
even_rows true YV24 h even = omega arith
even_rows true YV411 h even = omega arith
even_rows false Y8 h even = omega arith
even_rows false YV12 h even = omega arith
even_rows false YV16 h even = omega arith
even_rows false YV24 h even = omega arith
even_rows false YV411 h even = omega arith

-- the height of a plane of a field
pub half_height : (shape : Shape) (p : ℕ) → HasFields shape → plane_height shape p / 2 ≡ plane_height (half_shape shape) p
half_height shape p even = half_of (p == 0) shape.kind shape.height even

-- each plane has as many even rows as odd ones
pub even_height : (shape : Shape) (p : ℕ) → HasFields shape → plane_height shape p % 2 ≡ 0
even_height shape p even = even_rows (p == 0) shape.kind shape.height even

whole_half : (kind : PixelType) (h : ℕ) → h % (2 * sub_h kind) ≡ 0 → (h / 2) % sub_h kind ≡ 0
whole_half Y8 h even = omega arith
whole_half YV12 h even = omega arith
whole_half YV16 h even = omega arith
whole_half YV24 h even = omega arith
whole_half YV411 h even = omega arith

-- the part of the same width and half the height
half_window : (shape : Shape) → HasFields shape → IsLegal shape → IsWindow shape (window_at 0 0 shape.width (shape.height / 2))
half_window shape even legal =
    let two = even_height shape 0 even in
    record {
      some_width = legal.some_width;
      some_height = omega (arith, two, legal.some_height);
      across = omega arith;
      down = omega arith;
      whole_x = omega arith;
      whole_y = omega arith;
      whole_width = legal.whole_width;
      whole_height = whole_half shape.kind shape.height even;
    }

pub legal_half : (shape : Shape) → HasFields shape → IsLegal shape → IsLegal (half_shape shape)
legal_half shape even legal = legal_window shape (window_at 0 0 shape.width (shape.height / 2)) (half_window shape even legal) legal

IsPlane-second : (width height from : ℕ) (rows : List (List ℕ)) → from < 2 → IsPlane width height rows → IsPlane width (height / 2) (every_second from rows)
IsPlane-second width height from rows few is = record {
  count = second_count rows from ∙ ap (λ n. n / 2) is.count;
  widths = λ y within.
      let inside : y < length rows / 2 = omega (arith, within, is.count) in
      ap length (second_row rows from y inside) ∙ is.widths (2 * y + from) (omega (arith, within));
}

-- every second row of a plane is that of the field
second_listed : (picture : Picture) (from p : ℕ) → from < 2 → HasFields picture.shape → IsPicture picture → p < planes picture.shape.kind
    → every_second from (get_or picture.planes p []) ≡ get_or (field_in picture from).planes p []
second_listed picture from p few even is there =
    let shape = picture.shape in
    let rows : List (List ℕ) = get_or picture.planes p [] in
    let at : Look = λ q x y. look_in picture q x (2 * y + from) in
    let sizes : IsPlane (plane_width shape p) (plane_height shape p) rows = is.sizes p (omega (arith, is.count)) in
    let half = half_height shape p even in
    plane_listed (every_second from rows) at p (plane_width shape p) (plane_height (half_shape shape) p)
    (rw (← half) (IsPlane-second (plane_width shape p) (plane_height shape p) from rows few sizes))
    (λ x z wide high. ap (λ (r : List ℕ). get_or r x 0) (second_row rows from z (omega (arith, high, half, sizes.count))))
    ∙ sym (get_or-picture_from (half_shape shape) at p there)

-- the rows of bytes of every second row show the field
pub second_shown : (picture : Picture) (from p : ℕ) (stored made : List (List ℕ)) → from < 2 → HasFields picture.shape → IsPicture picture → p < planes picture.shape.kind
    → decoded_rows picture.shape stored ≡ get_or picture.planes p [] → made ≡ every_second from stored → decoded_rows (half_shape picture.shape) made ≡ get_or (field_in picture from).planes p []
second_shown picture from p stored made few even is there shows made_is =
    ap (decoded_rows (half_shape picture.shape)) made_is ∙ decoded-same (half_shape picture.shape) picture.shape (every_second from stored) refl
    ∙ decoded-second picture.shape stored from ∙ ap (every_second from) shows ∙ second_listed picture from p few even is there

-- a field of a picture is one
pub IsPicture-field_in : (picture : Picture) (from : ℕ) → HasFields picture.shape → IsPicture picture → IsPicture (field_in picture from)
IsPicture-field_in picture from even is =
    IsPicture-picture_from (half_shape picture.shape) _ (legal_half picture.shape even is.legal) (λ p x y. is.bounded p x (2 * y + from))

-- a frame of such planes is the field
pub frame_of_field : (shape : Shape) (picture : Picture) (from : ℕ) (luma : List (List ℕ)) (chroma : Option (List (List ℕ) × List (List ℕ))) → shape ≡ picture.shape
    → decoded_rows (half_shape picture.shape) luma ≡ get_or (field_in picture from).planes 0 [] → map (decoded_rows (half_shape picture.shape)) (chroma_list chroma) ≡ drop 1 (field_in picture from).planes
    → frame_of (half_shape shape) luma chroma ≡ field_in picture from
frame_of_field shape picture from luma chroma same luma_is chroma_is =
    ap (λ (s : Shape). frame_of (half_shape s) luma chroma) same ∙ frame_listed (half_shape picture.shape) _ luma chroma luma_is chroma_is
