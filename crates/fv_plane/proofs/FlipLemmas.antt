-- Rows that are seen from the last one up, and pictures upside down.
use Rattle.std.proofs.Common.{◌≡◌, ℕ, ◌-◌, ◌<◌, List, [], ◌∷◌, length, get_or, drop, map, sym, ◌∙◌, ap, arith, Option, None, Some, inl, inr}
use Rattle.std.specs.Prelude.{reverse}
use Rattle.std.proofs.lemmas.List.{length-reverse, get_or-reverse, get_or_past}
use Rattle.fv_plane.specs.declared.format.Shape.{Shape}
use Rattle.fv_plane.specs.Format.{planes, plane_width, plane_height}
use Rattle.fv_rows.specs.Rows.{IsPlane}
use Rattle.fv_plane.specs.Picture.{Picture, IsPicture, row_of_bytes, decoded_rows, chroma_list, frame_of, AreWhole, Look, look_in, upside_down}
use Rattle.std.proofs.Math.ListN.{get_or-map}
use Rattle.std.proofs.lemmas.Bool.{cases_lt}
use Rattle.fv_plane.proofs.BytesLemmas.{whole_none}
use Rattle.fv_rows.proofs.SeenLemmas.{map-reverse}
use Rattle.fv_plane.proofs.WindowLemmas.{plane_listed, get_or-picture_from, IsPicture-picture_from, frame_listed, no_chroma, two_chroma}

-- whole rows are whole in the other order
pub whole-reverse : (shape : Shape) (rows : List (List ℕ)) → AreWhole shape rows → AreWhole shape (reverse rows)
whole-reverse shape rows are = record {
  whole = λ y. elim (cases_lt y (length rows)) [
    | inl there ↦ rw (get_or-reverse rows y [] there) (are.whole (length rows - 1 - y))
    | inr past ↦ rw (get_or_past (reverse rows) y [] (omega (arith, length-reverse rows))) ((whole_none shape).whole 0)
  ];
}

-- the rows of a plane in the other order are a plane
IsPlane-reverse : (width height : ℕ) (rows : List (List ℕ)) → IsPlane width height rows → IsPlane width height (reverse rows)
IsPlane-reverse width height rows is = record {
  count = length-reverse rows ∙ is.count;
  widths = λ y within. ap length (get_or-reverse rows y [] (omega (arith, is.count))) ∙ is.widths (length rows - 1 - y) (omega (arith, is.count));
}

-- a plane in the other order is that of the picture upside down
reverse_listed : (picture : Picture) (p : ℕ) → IsPicture picture → p < planes picture.shape.kind → reverse (get_or picture.planes p []) ≡ get_or (upside_down picture).planes p []
reverse_listed picture p is there =
    let shape = picture.shape in
    let rows : List (List ℕ) = get_or picture.planes p [] in
    let at : Look = λ q x y. look_in picture q x (plane_height shape q - 1 - y) in
    let sizes : IsPlane (plane_width shape p) (plane_height shape p) rows = is.sizes p (omega (arith, is.count)) in
    plane_listed (reverse rows) at p (plane_width shape p) (plane_height shape p) (IsPlane-reverse (plane_width shape p) (plane_height shape p) rows sizes)
    (λ x z wide high. ap (λ (r : List ℕ). get_or r x 0) (get_or-reverse rows z [] (omega (arith, sizes.count)) ∙ ap (λ n. get_or rows (n - 1 - z) []) sizes.count))
    ∙ sym (get_or-picture_from shape at p there)

-- a picture upside down is one
pub IsPicture-upside_down : (picture : Picture) → IsPicture picture → IsPicture (upside_down picture)
IsPicture-upside_down picture is = IsPicture-picture_from picture.shape _ is.legal (λ p x y. is.bounded p x (plane_height picture.shape p - 1 - y))

chroma_flipped : (shape : Shape) (luma : List (List ℕ)) (chroma : Option (List (List ℕ) × List (List ℕ))) → IsPicture (frame_of shape luma chroma)
    → map (decoded_rows shape) (map reverse (chroma_list chroma)) ≡ drop 1 (upside_down (frame_of shape luma chroma)).planes
chroma_flipped shape luma None is = no_chroma shape _ (sym is.count)
chroma_flipped shape luma (Some (u, v)) is =
    let picture = frame_of shape luma (Some (u, v)) in
    two_chroma shape _ _ _ (λ one. omega (arith, one, is.count))
    (map-reverse (row_of_bytes shape) u ∙ reverse_listed picture 1 is (omega (arith, is.count)))
    (map-reverse (row_of_bytes shape) v ∙ reverse_listed picture 2 is (omega (arith, is.count)))

-- planes in the other order are whole
pub stored_flipped : (shape : Shape) (luma made : List (List ℕ)) (chroma uv : Option (List (List ℕ) × List (List ℕ))) → made ≡ reverse luma → chroma_list uv ≡ map reverse (chroma_list chroma)
    → ((p : ℕ) → AreWhole shape (get_or (luma ∷ chroma_list chroma) p [])) → (p : ℕ) → AreWhole shape (get_or (made ∷ chroma_list uv) p [])
stored_flipped shape luma made chroma uv luma_is chroma_is are p =
    let all : made ∷ chroma_list uv ≡ map reverse (luma ∷ chroma_list chroma) = ap (λ l. l ∷ chroma_list uv) luma_is ∙ ap (λ l. reverse luma ∷ l) chroma_is in
    rw (all, get_or-map reverse (luma ∷ chroma_list chroma) p []) (whole-reverse shape (get_or (luma ∷ chroma_list chroma) p []) (are p))

-- a frame of planes in the other order is the picture upside down
pub frame_flipped : (shape : Shape) (luma made : List (List ℕ)) (chroma uv : Option (List (List ℕ) × List (List ℕ))) → IsPicture (frame_of shape luma chroma)
    → made ≡ reverse luma → chroma_list uv ≡ map reverse (chroma_list chroma) → frame_of shape made uv ≡ upside_down (frame_of shape luma chroma)
frame_flipped shape luma made chroma uv is luma_is chroma_is =
    let picture = frame_of shape luma chroma in
    frame_listed shape _ made uv
    (ap (decoded_rows shape) luma_is ∙ map-reverse (row_of_bytes shape) luma ∙ reverse_listed picture 0 is (omega (arith, is.count)))
    (ap (map (decoded_rows shape)) chroma_is ∙ chroma_flipped shape luma chroma is)
