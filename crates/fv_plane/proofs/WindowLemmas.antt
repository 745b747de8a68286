-- The part of a picture that is in a window, and one plane of it.
use Rattle.std.proofs.Common.{◌≡◌, ℕ, zero, suc, ◌+◌, ◌-◌, ◌*◌, ◌/◌, ◌%◌, ◌<◌, ◌≤◌, List, [], ◌∷◌, length, get_or, take, drop, map, refl, sym, ◌∙◌, ap, arith, Bool, true, false, if◌then◌else◌, ◌==◌, inl, inr, Option}
use Rattle.std.specs.Prelude.{◌≢◌}
use Rattle.std.proofs.Math.ListN.{get_or-map}
use Rattle.std.proofs.lemmas.Bool.{cases_lt, eqb-true}
use Rattle.std.proofs.lemmas.Nat.{mul-le}
use Rattle.std.proofs.lemmas.List.{take-map, drop-map, get_or-take, get_or-drop, get_or_past, length-map, length-take, length-take-le, length-drop}
use Rattle.std.proofs.lemmas.List.FromFn.{fill_by_all, get_or-map-range_with_len, length-map-range_with_len}
use Rattle.std.specs.List.{range_with_len}
use Rattle.fv_plane.specs.declared.format.PixelType.{PixelType}
use Rattle.fv_plane.specs.declared.format.PixelType.TheVariants.{Y8, YV12, YV16, YV24, YV411}
use Rattle.fv_plane.specs.declared.format.Shape.{Shape}
use Rattle.fv_plane.specs.declared.format.Window.{Window}
use Rattle.fv_plane.specs.Format.{IsLegal, IsWindow, planes, sub_w, sub_h, plane_width, plane_height, sample_bytes, largest_sample, has_depth, frame_samples, window_shape, shape_of_plane}
use Rattle.fv_rows.specs.Rows.{IsPlane, rows_part}
use Rattle.fv_plane.specs.Picture.{Picture, IsPicture, row_of_bytes, decoded_rows, chroma_list, frame_of, AreWhole, Look, across, down, look_in, row_from, plane_from, picture_from, picture_in, plane_alone}
use Rattle.fv_plane.proofs.BytesLemmas.{row_of_bytes-take, row_of_bytes-drop, decoded-same, whole_none, whole-part}
use Rattle.fv_plane.proofs.PictureLemmas.{one_or_three}
use Rattle.fv_plane.proofs.FillLemmas.{row_listed}
use Rattle.fv_plane.proofs.FrameLemmas.{frame_is, plane_height_le}
use Rattle.fv_plane.proofs.CallerLemmas.{some_rows}

-- a part of the bytes of a row is that part of its samples
part-row_of_bytes : (shape : Shape) (bytes : List ℕ) (x w : ℕ) → row_of_bytes shape (take (w * sample_bytes shape) (drop (x * sample_bytes shape) bytes)) ≡ take w (drop x (row_of_bytes shape bytes))
part-row_of_bytes shape bytes x w =
    row_of_bytes-take shape w (drop (x * sample_bytes shape) bytes) ∙ ap (λ (l : List ℕ). take w l) (row_of_bytes-drop shape x bytes)

part-decoded : (shape : Shape) (rows : List (List ℕ)) (x w : ℕ)
    → decoded_rows shape (map (λ row. take (w * sample_bytes shape) (drop (x * sample_bytes shape) row)) rows) ≡ map (λ row. take w (drop x row)) (decoded_rows shape rows)
part-decoded shape [] x w = refl
part-decoded shape (row ∷ rows) x w =
    ap (λ r. r ∷ decoded_rows shape (map (λ row. take (w * sample_bytes shape) (drop (x * sample_bytes shape) row)) rows)) (part-row_of_bytes shape row x w)
    ∙ ap (λ l. take w (drop x (row_of_bytes shape row)) ∷ l) (part-decoded shape rows x w)

-- the part of a plane, from the bytes that show it
pub part-shown : (shape made : Shape) (stored plane : List (List ℕ)) (x y w h : ℕ) → made.bits ≡ shape.bits → decoded_rows shape stored ≡ plane
    → decoded_rows made (rows_part stored (x * sample_bytes shape) y (w * sample_bytes shape) h) ≡ rows_part plane x y w h
part-shown shape made stored plane x y w h same shows =
    decoded-same made shape (rows_part stored (x * sample_bytes shape) y (w * sample_bytes shape) h) same
    ∙ part-decoded shape (take h (drop y stored)) x w
    ∙ ap (map (λ row. take w (drop x row))) (sym (take-map (row_of_bytes shape) h (drop y stored)) ∙ ap (take h) (sym (drop-map (row_of_bytes shape) y stored) ∙ ap (drop y) shows))

-- no samples
abbrev none : List ℕ
none = []

no_part : (x w : ℕ) → take w (drop x none) ≡ none
no_part zero zero = refl
no_part zero (suc w) = refl
no_part (suc x) zero = refl
no_part (suc x) (suc w) = refl

-- each row of a part is a part of a row
row_part : (plane : List (List ℕ)) (x y w h z : ℕ) → z < h → get_or (rows_part plane x y w h) z [] ≡ take w (drop x (get_or plane (y + z) []))
row_part plane x y w h z within =
    ap (λ (d : List ℕ). get_or (rows_part plane x y w h) z d) (sym (no_part x w)) ∙ get_or-map (λ (row : List ℕ). take w (drop x row)) (take h (drop y plane)) z []
    ∙ ap (λ (row : List ℕ). take w (drop x row)) (get_or-take h (drop y plane) z [] within ∙ get_or-drop y plane z [])

-- a part of whole rows is whole
pub whole-part_of_rows : (shape : Shape) (stored : List (List ℕ)) (x y w h : ℕ) → AreWhole shape stored → AreWhole shape (rows_part stored (x * sample_bytes shape) y (w * sample_bytes shape) h)
whole-part_of_rows shape stored x y w h are = record {
  whole = λ z.
      let rows = rows_part stored (x * sample_bytes shape) y (w * sample_bytes shape) h in
      elim (cases_lt z h) [
        | inl within ↦ rw (row_part stored (x * sample_bytes shape) y (w * sample_bytes shape) h z within) (whole-part shape (get_or stored (y + z) []) x w (are.whole (y + z)))
        | inr past ↦ rw (get_or_past rows z [] (omega (arith, length-map (take h (drop y stored)) (λ (row : List ℕ). take (w * sample_bytes shape) (drop (x * sample_bytes shape) row)), length-take h (drop y stored)))) ((whole_none shape).whole 0)
      ];
}

-- a part of a plane is a plane
IsPlane-rows_part : (plane : List (List ℕ)) (width height x y w h : ℕ) → IsPlane width height plane → x + w ≤ width → y + h ≤ height → IsPlane w h (rows_part plane x y w h)
IsPlane-rows_part plane width height x y w h is wide high = record {
  count = length-map (take h (drop y plane)) (λ (row : List ℕ). take w (drop x row)) ∙ length-take-le h (drop y plane) (omega (arith, is.count, length-drop y plane));
  widths = λ z within.
      let row : List ℕ = get_or plane (y + z) [] in
      ap length (row_part plane x y w h z within) ∙ length-take-le w (drop x row) (omega (arith, length-drop x row, is.widths (y + z) (omega arith)));
}

-- LISTED

-- a plane whose samples are these is the plane that is listed
pub plane_listed : (rows : List (List ℕ)) (at : Look) (p width height : ℕ) → IsPlane width height rows → ((x z : ℕ) → x < width → z < height → get_or (get_or rows z []) x 0 ≡ at p x z)
    → rows ≡ plane_from at p width height
plane_listed rows at p width height is each =
    fill_by_all (λ z. row_from at p width z) rows height [] is.count (λ z within. row_listed (get_or rows z []) at p width z (is.widths z within) (λ x inside. each x z inside within))

-- a plane of a picture that is listed
pub get_or-picture_from : (shape : Shape) (at : Look) (p : ℕ) → p < planes shape.kind → get_or (picture_from shape at).planes p [] ≡ plane_from at p (plane_width shape p) (plane_height shape p)
unfolding picture_from
get_or-picture_from shape at p within = get_or-map-range_with_len (λ q. plane_from at q (plane_width shape q) (plane_height shape q)) 0 (planes shape.kind) p p [] within (omega arith)

pub length-picture_from : (shape : Shape) (at : Look) → length (picture_from shape at).planes ≡ planes shape.kind
unfolding picture_from
length-picture_from shape at = length-map-range_with_len (λ q. plane_from at q (plane_width shape q) (plane_height shape q)) 0 (planes shape.kind)

pub shape-picture_from : (shape : Shape) (at : Look) → (picture_from shape at).shape ≡ shape
unfolding picture_from
shape-picture_from shape at = refl

-- the planes that are listed are a plane
pub IsPlane-plane_from : (at : Look) (p width height : ℕ) → IsPlane width height (plane_from at p width height)
IsPlane-plane_from at p width height = record {
  count = length-map-range_with_len (λ z. row_from at p width z) 0 height;
  widths = λ z within.
      ap length (get_or-map-range_with_len (λ z. row_from at p width z) 0 height z z [] within (omega arith)) ∙ length-map-range_with_len (λ x. at p x z) 0 width;
}

-- no sample of a row that is listed is greater
bounded_listed : (f : ℕ → ℕ) (most a n x : ℕ) → ((k : ℕ) → f k ≤ most) → get_or (map f (range_with_len a n)) x 0 ≤ most
bounded_listed f most a zero x few = omega arith
bounded_listed f most a (suc n) zero few = few a
bounded_listed f most a (suc n) (suc x) few = bounded_listed f most (a + 1) n x few

-- nor of rows
bounded_rows : (f : ℕ → ℕ → ℕ) (most a width n x y : ℕ) → ((k z : ℕ) → f k z ≤ most) → get_or (get_or (map (λ z. map (λ k. f k z) (range_with_len 0 width)) (range_with_len a n)) y []) x 0 ≤ most
bounded_rows f most a width zero x y few = omega arith
bounded_rows f most a width (suc n) x zero few = bounded_listed (λ k. f k a) most 0 width x (λ k. few k a)
bounded_rows f most a width (suc n) x (suc y) few = bounded_rows f most (a + 1) width n x y few

sizes_listed : (shape : Shape) (at : Look) (p : ℕ) → p < planes shape.kind → IsPlane (plane_width shape p) (plane_height shape p) (get_or (picture_from shape at).planes p [])
sizes_listed shape at p there = rw (get_or-picture_from shape at p there) (IsPlane-plane_from at p (plane_width shape p) (plane_height shape p))

bounded_picture : (shape : Shape) (at : Look) (most p x y : ℕ) → ((q k z : ℕ) → at q k z ≤ most) → get_or (get_or (get_or (picture_from shape at).planes p []) y []) x 0 ≤ most
bounded_picture shape at most p x y few = elim (cases_lt p (planes shape.kind)) [
  | inl there ↦ rw (get_or-picture_from shape at p there) (bounded_rows (λ k z. at p k z) most 0 (plane_width shape p) (plane_height shape p) x y (λ k z. few p k z))
  | inr past ↦ rw (get_or_past (picture_from shape at).planes p [] (omega (arith, length-picture_from shape at))) (omega arith)
]

-- a picture that is listed is one
pub IsPicture-picture_from : (shape : Shape) (at : Look) → IsLegal shape → ((p x y : ℕ) → at p x y ≤ largest_sample shape) → IsPicture (picture_from shape at)
unfolding picture_from
IsPicture-picture_from shape at legal few = record {
  legal = legal;
  count = length-picture_from shape at;
  sizes = λ p within. sizes_listed shape at p (omega (arith, length-picture_from shape at));
  bounded = λ p x y. bounded_picture shape at (largest_sample shape) p x y few;
}

first_and_rest : (all : List (List (List ℕ))) → 0 < length all → get_or all 0 [] ∷ drop 1 all ≡ all
first_and_rest [] some = absurd (omega arith)
first_and_rest (rows ∷ all) some = refl

after_one : (all : List (List (List ℕ))) → length all ≡ 1 → [] ≡ drop 1 all
after_one [] long = refl
after_one (y ∷ []) long = refl
after_one (y ∷ u ∷ all) long = absurd (omega arith)

after_three : (all : List (List (List ℕ))) → length all ≡ 3 → get_or all 1 [] ∷ get_or all 2 [] ∷ [] ≡ drop 1 all
after_three [] long = absurd (omega arith)
after_three (y ∷ []) long = absurd (omega arith)
after_three (y ∷ u ∷ []) long = absurd (omega arith)
after_three (y ∷ u ∷ v ∷ []) long = refl
after_three (y ∷ u ∷ v ∷ w ∷ all) long = absurd (omega arith)

-- what follows luma where there is luma alone
pub no_chroma : (shape : Shape) (at : Look) → planes shape.kind ≡ 1 → [] ≡ drop 1 (picture_from shape at).planes
no_chroma shape at one = after_one (picture_from shape at).planes (length-picture_from shape at ∙ one)

-- and where there is chroma
pub two_chroma : (shape : Shape) (at : Look) (u v : List (List ℕ)) → planes shape.kind ≢ 1 → u ≡ get_or (picture_from shape at).planes 1 [] → v ≡ get_or (picture_from shape at).planes 2 []
    → u ∷ v ∷ [] ≡ drop 1 (picture_from shape at).planes
two_chroma shape at u v more u_is v_is =
    let three : planes shape.kind ≡ 3 = elim (one_or_three shape.kind) [ inl one ↦ absurd (more one) | inr three ↦ three ] in
    rw (u_is, v_is) (after_three (picture_from shape at).planes (length-picture_from shape at ∙ three))

all_of_it : (shape : Shape) (at : Look) → record { shape = shape; planes = (picture_from shape at).planes } ≡ picture_from shape at
unfolding picture_from
all_of_it shape at = refl

some_planes : (kind : PixelType) → 0 < planes kind
some_planes kind = elim (one_or_three kind) [ inl one ↦ omega arith | inr three ↦ omega arith ]

-- a frame whose planes are those that are listed
pub frame_listed : (shape : Shape) (at : Look) (luma : List (List ℕ)) (chroma : Option (List (List ℕ) × List (List ℕ))) → decoded_rows shape luma ≡ get_or (picture_from shape at).planes 0 []
    → map (decoded_rows shape) (chroma_list chroma) ≡ drop 1 (picture_from shape at).planes → frame_of shape luma chroma ≡ picture_from shape at
frame_listed shape at luma chroma luma_is chroma_is =
    let made = picture_from shape at in
    frame_is shape luma chroma (get_or made.planes 0 []) (drop 1 made.planes) luma_is chroma_is
    ∙ ap (λ l. record { shape = shape; planes = l }) (first_and_rest made.planes (omega (arith, length-picture_from shape at, some_planes shape.kind))) ∙ all_of_it shape at

-- WINDOWS

fits_across : (luma : Bool) (kind : PixelType) (x w width : ℕ) → x + w ≤ width → (if luma then x else x / sub_w kind) + (if luma then w else w / sub_w kind) ≤ (if luma then width else width / sub_w kind)
fits_across true kind x w width fits = fits
fits_across false Y8 x w width fits = omega arith
fits_across false YV12 x w width fits = omega arith
fits_across false YV16 x w width fits = omega arith
fits_across false YV24 x w width fits = omega arith
fits_across false YV411 x w width fits = omega arith

fits_down : (luma : Bool) (kind : PixelType) (y h height : ℕ) → y + h ≤ height → (if luma then y else y / sub_h kind) + (if luma then h else h / sub_h kind) ≤ (if luma then height else height / sub_h kind)
fits_down true kind y h height fits = fits
fits_down false Y8 y h height fits = omega arith
fits_down false YV12 y h height fits = omega arith
fits_down false YV16 y h height fits = omega arith
fits_down false YV24 y h height fits = omega arith
fits_down false YV411 y h height fits = omega arith

module _ (shape : Shape) (window : Window) (is : IsWindow shape window) where
  -- a window of a picture is one of each plane
  pub inside_across : (p : ℕ) → across shape p window.x + plane_width (window_shape shape window) p ≤ plane_width shape p
  inside_across p = fits_across (p == 0) shape.kind window.x window.width shape.width is.across

  pub inside_down : (p : ℕ) → down shape p window.y + plane_height (window_shape shape window) p ≤ plane_height shape p
  inside_down p = fits_down (p == 0) shape.kind window.y window.height shape.height is.down

  -- the part of a legal frame is one
  pub legal_window : IsLegal shape → IsLegal (window_shape shape window)
  legal_window legal =
      let wide = inside_across 1 in
      let high = inside_down 1 in
      let luma = mul-le window.width window.height shape.width shape.height (omega (arith, is.across)) (omega (arith, is.down)) in
      let chroma = mul-le (window.width / sub_w shape.kind) (window.height / sub_h shape.kind) (shape.width / sub_w shape.kind) (shape.height / sub_h shape.kind) (omega arith) (omega arith) in
      let both = mul-le (planes shape.kind - 1) ((window.width / sub_w shape.kind) * (window.height / sub_h shape.kind)) (planes shape.kind - 1) ((shape.width / sub_w shape.kind) * (shape.height / sub_h shape.kind)) (omega arith) chroma in
      let size = mul-le (frame_samples (window_shape shape window)) (sample_bytes shape) (frame_samples shape) (sample_bytes shape) (omega arith) (omega arith) in
      record {
        depth = legal.depth;
        some_width = is.some_width;
        some_height = is.some_height;
        most_width = omega (arith, is.across, legal.most_width);
        most_height = omega (arith, is.down, legal.most_height);
        whole_width = is.whole_width;
        whole_height = is.whole_height;
        most_bytes = omega (arith, size, legal.most_bytes);
      }

-- the part of a plane that is in a window
pub part_listed : (picture : Picture) (window : Window) (p : ℕ) → IsPicture picture → IsWindow picture.shape window → p < planes picture.shape.kind
    → rows_part (get_or picture.planes p []) (across picture.shape p window.x) (down picture.shape p window.y) (plane_width (window_shape picture.shape window) p) (plane_height (window_shape picture.shape window) p)
    ≡ get_or (picture_in picture window).planes p []
part_listed picture window p picture_is is there =
    let shape = picture.shape in
    let made = window_shape shape window in
    let plane : List (List ℕ) = get_or picture.planes p [] in
    let dx = across shape p window.x in
    let dy = down shape p window.y in
    let w = plane_width made p in
    let h = plane_height made p in
    let at : Look = λ q x y. look_in picture q (x + across shape q window.x) (y + down shape q window.y) in
    let sizes : IsPlane (plane_width shape p) (plane_height shape p) plane = picture_is.sizes p (omega (arith, picture_is.count)) in
    plane_listed (rows_part plane dx dy w h) at p w h
    (IsPlane-rows_part plane (plane_width shape p) (plane_height shape p) dx dy w h sizes (inside_across shape window is p) (inside_down shape window is p))
    (λ x z wide high.
    let row : List ℕ = get_or plane (dy + z) [] in
    ap (λ (r : List ℕ). get_or r x 0) (row_part plane dx dy w h z high) ∙ get_or-take w (drop dx row) x 0 wide ∙ get_or-drop dx row x 0
    ∙ ap (λ n. get_or row n 0) (omega arith) ∙ ap (λ n. get_or (get_or plane n []) (x + dx) 0) (omega arith))
    ∙ sym (get_or-picture_from made at p there)

-- the part of a picture is one
pub IsPicture-picture_in : (picture : Picture) (window : Window) → IsPicture picture → IsWindow picture.shape window → IsPicture (picture_in picture window)
IsPicture-picture_in picture window picture_is is =
    IsPicture-picture_from (window_shape picture.shape window) _ (legal_window picture.shape window is picture_is.legal) (λ p x y. picture_is.bounded p (x + across picture.shape p window.x) (y + down picture.shape p window.y))

-- ONE PLANE

if_at_most : (b : Bool) (n m : ℕ) → m ≤ n → (if b then n else m) ≤ n
if_at_most true n m less = omega arith
if_at_most false n m less = less

some_across : (luma : Bool) (kind : PixelType) (w : ℕ) → 0 < w → w % sub_w kind ≡ 0 → 0 < (if luma then w else w / sub_w kind)
some_across true kind w some whole = some
some_across false Y8 w some whole = omega arith
some_across false YV12 w some whole = omega arith
some_across false YV16 w some whole = omega arith
some_across false YV24 w some whole = omega arith
some_across false YV411 w some whole = omega arith

-- luma alone may have the bits of each format
depth_alone : (kind : PixelType) (bits : ℕ) → has_depth kind bits ≡ true → has_depth Y8 bits ≡ true
depth_alone Y8 bits is = is
depth_alone YV12 bits is = is
depth_alone YV16 bits is = is
depth_alone YV24 bits is = is
depth_alone YV411 bits is = rw (eqb-true bits 8 is) refl

-- a plane of a legal frame is a legal frame
pub legal_plane : (shape : Shape) (p : ℕ) → IsLegal shape → IsLegal (shape_of_plane shape p)
legal_plane shape p legal =
    let high = plane_height_le shape p in
    let few : plane_width shape p ≤ shape.width = if_at_most (p == 0) shape.width (shape.width / sub_w shape.kind) (omega arith) in
    let luma = mul-le (plane_width shape p) (plane_height shape p) shape.width shape.height few high in
    let size = mul-le (frame_samples (shape_of_plane shape p)) (sample_bytes shape) (frame_samples shape) (sample_bytes shape) (omega (arith, luma)) (omega arith) in
    record {
      depth = depth_alone shape.kind shape.bits legal.depth;
      some_width = some_across (p == 0) shape.kind shape.width legal.some_width legal.whole_width;
      some_height = some_rows shape p legal;
      most_width = omega (arith, few, legal.most_width);
      most_height = omega (arith, high, legal.most_height);
      whole_width = omega arith;
      whole_height = omega arith;
      most_bytes = omega (arith, size, legal.most_bytes);
    }

-- a plane is that of the picture of it alone
pub alone_listed : (picture : Picture) (p : ℕ) → IsPicture picture → p < planes picture.shape.kind → get_or picture.planes p [] ≡ get_or (plane_alone picture p).planes 0 []
alone_listed picture p picture_is there =
    let made = shape_of_plane picture.shape p in
    let at : Look = λ q x y. look_in picture p x y in
    plane_listed (get_or picture.planes p []) at 0 (plane_width picture.shape p) (plane_height picture.shape p) (picture_is.sizes p (omega (arith, picture_is.count))) (λ x z wide high. refl)
    ∙ sym (get_or-picture_from made at 0 (omega arith))

pub IsPicture-plane_alone : (picture : Picture) (p : ℕ) → IsPicture picture → IsPicture (plane_alone picture p)
IsPicture-plane_alone picture p picture_is =
    IsPicture-picture_from (shape_of_plane picture.shape p) _ (legal_plane picture.shape p picture_is.legal) (λ q x y. picture_is.bounded p x y)
