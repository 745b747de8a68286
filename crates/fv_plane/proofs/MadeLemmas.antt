-- Planes that are made row by row.
use Rattle.std.proofs.Common.{◌≡◌, ◌∙◌, ℕ, zero, suc, ◌+◌, ◌*◌, ◌<◌, ◌++◌, List, [], ◌∷◌, length, map, get_or, ap, sym, subst, arith}
use Rattle.std.specs.List.{flat_map}
use Rattle.std.proofs.lemmas.Grind.{flat_map-append}
use Rattle.std.proofs.lemmas.List.{append-nil}
use Rattle.std.proofs.lemmas.List.FromFn.{map-range_with_len_more}
use Rattle.fv_rows.specs.Rows.{rows_of}
use Rattle.fv_rows.proofs.RowLemmas.{length-flat_rows, rows_of-flat_all}
use Rattle.fv_plane.specs.declared.format.Shape.{Shape}
use Rattle.fv_plane.specs.Picture.{bytes_of_row, bytes_of_rows, decoded_rows, row_of_bytes, AreWhole, Look, picture_from, plane_from, row_from, Picture, IsPicture}
use Rattle.fv_plane.specs.Format.{planes, plane_width, plane_height, row_bytes}
use Rattle.fv_plane.specs.Made.{bytes_made, IsPlaneOf}
use Rattle.fv_plane.proofs.BytesLemmas.{decoded-encoded, decoded-same, flat-encoded, row-bytes_of_row, whole_none, IsPlane-encoded}
use Rattle.fv_plane.proofs.WindowLemmas.{get_or-picture_from, IsPlane-plane_from, plane_listed}

one_row : (f : List ℕ → List ℕ) (row : List ℕ) → flat_map f (row ∷ []) ≡ f row
one_row f row = append-nil (f row)

-- the next row is appended
pub more_made : (shape : Shape) (at : Look) (p y : ℕ) (bytes row : List ℕ) → bytes ≡ bytes_of_rows shape (plane_from at p (plane_width shape p) y) → row ≡ bytes_made shape at p y
    → bytes ++ row ≡ bytes_of_rows shape (plane_from at p (plane_width shape p) (y + 1))
more_made shape at p y bytes row before next =
    let width : ℕ = plane_width shape p in
    let rows : List (List ℕ) = plane_from at p width y in
    let one : List (List ℕ) = row_from at p width y ∷ [] in
    let more : plane_from at p width (y + 1) ≡ rows ++ one = map-range_with_len_more (λ z. row_from at p width z) 0 y y (omega arith) in
    let alone : bytes_of_rows shape one ≡ row = one_row (bytes_of_row shape) (row_from at p width y) ∙ sym next in
    ap (λ l. l ++ row) before ∙ ap (λ l. bytes_of_rows shape rows ++ l) (sym alone)
    ∙ sym (flat_map-append (bytes_of_row shape) rows one) ∙ ap (bytes_of_rows shape) (sym more)

whole_row : (shape : Shape) (rows : List (List ℕ)) (y : ℕ) → bytes_of_row shape (row_of_bytes shape (get_or (map (bytes_of_row shape) rows) y [])) ≡ get_or (map (bytes_of_row shape) rows) y []
whole_row shape [] y = (whole_none shape).whole y
whole_row shape (row ∷ rows) zero = ap (bytes_of_row shape) (row-bytes_of_row shape row)
whole_row shape (row ∷ rows) (suc y) = whole_row shape rows y

module _ (shape : Shape) (at : Look) (p : ℕ) (bytes : List ℕ) (all : bytes ≡ bytes_of_rows shape (plane_from at p (plane_width shape p) (plane_height shape p))) where
  encoded : rows_of bytes (row_bytes shape p) (row_bytes shape p) (plane_height shape p) ≡ map (bytes_of_row shape) (plane_from at p (plane_width shape p) (plane_height shape p))
  encoded =
      let plane = plane_from at p (plane_width shape p) (plane_height shape p) in
      ap (λ l. rows_of l (row_bytes shape p) (row_bytes shape p) (plane_height shape p)) (all ∙ sym (flat-encoded shape plane))
      ∙ rows_of-flat_all (row_bytes shape p) (plane_height shape p) (map (bytes_of_row shape) plane)
      (IsPlane-encoded shape (plane_width shape p) (plane_height shape p) plane (IsPlane-plane_from at p (plane_width shape p) (plane_height shape p)))

  -- the bytes are those of a whole plane
  pub length-made : length bytes ≡ plane_height shape p * row_bytes shape p
  length-made =
      let plane = plane_from at p (plane_width shape p) (plane_height shape p) in
      ap length (all ∙ sym (flat-encoded shape plane))
      ∙ length-flat_rows (row_bytes shape p) (plane_height shape p) (map (bytes_of_row shape) plane)
      (IsPlane-encoded shape (plane_width shape p) (plane_height shape p) plane (IsPlane-plane_from at p (plane_width shape p) (plane_height shape p)))

  -- whose rows are the plane that is listed
  pub made_listed : p < planes shape.kind → decoded_rows shape (rows_of bytes (row_bytes shape p) (row_bytes shape p) (plane_height shape p)) ≡ get_or (picture_from shape at).planes p []
  made_listed there = ap (decoded_rows shape) encoded ∙ decoded-encoded shape (plane_from at p (plane_width shape p) (plane_height shape p)) ∙ sym (get_or-picture_from shape at p there)

  pub made_whole : AreWhole shape (rows_of bytes (row_bytes shape p) (row_bytes shape p) (plane_height shape p))
  made_whole = subst (λ (l : List (List ℕ)). AreWhole shape l) (sym encoded) (record { whole = whole_row shape (plane_from at p (plane_width shape p) (plane_height shape p)) })

-- a plane of another picture is the plane that is listed
pub kept_listed : (shape : Shape) (at : Look) (p : ℕ) (picture : Picture) (q : ℕ) (stored : List (List ℕ)) → IsPicture picture → p < planes shape.kind → IsPlaneOf shape at p picture q
    → decoded_rows picture.shape stored ≡ get_or picture.planes q [] → decoded_rows shape stored ≡ get_or (picture_from shape at).planes p []
kept_listed shape at p picture q stored sizes there is shown =
    let plane : List (List ℕ) = get_or picture.planes q [] in
    decoded-same shape picture.shape stored is.same.bits ∙ shown
    ∙ plane_listed plane at p (plane_width shape p) (plane_height shape p)
    (rw (is.same.width, is.same.height) (sizes.sizes q (omega (arith, is.there, sizes.count))))
    (λ x z across down. sym (is.shown x z))
    ∙ sym (get_or-picture_from shape at p there)
