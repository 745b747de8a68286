-- A frame, from planes of bytes.
use Rattle.std.proofs.Common.{◌≡◌, ℕ, ◌+◌, ◌*◌, ◌/◌, ◌<◌, ◌≤◌, List, [], ◌∷◌, length, get_or, set, take, drop, map, sym, ◌∙◌, ap, subst, arith, Option, Bool, true, false, if◌then◌else◌, ◌==◌, ◌^◌, ◌-◌, inl, inr}
use Rattle.std.proofs.Math.ListN.{get_or-map}
use Rattle.std.proofs.lemmas.List.{map-set, take-map, drop-map, take_all, length-map, length-take, get_or-take, get_or-drop, get_or_past, get_or-set_same, get_or-set_other}
use Rattle.std.proofs.lemmas.Bool.{cases_eq, cases_lt}
use Rattle.fv_plane.specs.declared.format.Shape.{Shape}
use Rattle.std.proofs.lemmas.Nat.{mul-le}
use Rattle.fv_plane.specs.declared.format.TheConstants.Shape.{MAX_BYTES}
use Rattle.fv_plane.specs.Format.{IsLegal, HasSamePlane, planes, plane_width, plane_height, row_bytes, sample_bytes, frame_samples, sub_w, sub_h, largest_sample}
use Rattle.fv_rows.specs.Rows.{IsPlane, LiesIn, rows_of, rows_put, bytes_put, flat_rows, width_of}
use Rattle.fv_plane.specs.Picture.{Picture, IsPicture, with_row, with_rows, bytes_of_row, row_of_bytes, bytes_of_rows, rows_of_bytes, decoded_rows, chroma_list, frame_of, plane_list, AreWhole, IsStored, FitBytes, HoldsPlane}
use Rattle.fv_rows.proofs.RowLemmas.{IsPlane-rows_of, length-flat_rows, IsPlane-other, rows_of-like, times-like, put_one}
use Rattle.fv_plane.proofs.PictureLemmas.{IsPlane-rows_put, bounded-rows_put, IsPicture-set}
use Rattle.fv_plane.proofs.BytesLemmas.{bytes-row_of_bytes, bytes_of_rows-decoded, get_or-decoded, IsPlane-decoded, IsPlane-stored, bounded-decoded, fits-bytes, decoded-rows_put, decoded-same, whole_none, whole-rows_of, whole-put, whole-same}

times_three : (n w s : ℕ) → n * (w * s) ≡ (n * w) * s
times_three n w s = grind arith

-- a run of whole rows is whole
whole-run : (shape : Shape) (rows : List (List ℕ)) (y n : ℕ) → AreWhole shape rows → AreWhole shape (take n (drop y rows))
whole-run shape rows y n are = record {
  whole = λ k. elim (cases_lt k n) [
    | inl within ↦ rw (get_or-take n (drop y rows) k [] within, get_or-drop y rows k []) (are.whole (y + k))
    | inr past ↦ rw (get_or_past (take n (drop y rows)) k [] (omega (arith, length-take n (drop y rows)))) ((whole_none shape).whole 0)
  ];
}

three_swapped : (n w s : ℕ) → n * (w * s) ≡ (w * n) * s
three_swapped n w s = grind arith

either_le : (b : Bool) (x y n : ℕ) → x ≤ n → y ≤ n → (if b then x else y) ≤ n
either_le true x y n first second = first
either_le false x y n first second = second

-- no plane is higher than luma
pub plane_height_le : (shape : Shape) (p : ℕ) → plane_height shape p ≤ shape.height
plane_height_le shape p = either_le (p == 0) shape.height (shape.height / sub_h shape.kind) shape.height (omega arith) (omega arith)

-- no plane is wider
pub plane_width_le : (shape : Shape) (p : ℕ) → plane_width shape p ≤ shape.width
plane_width_le shape p = either_le (p == 0) shape.width (shape.width / sub_w shape.kind) shape.width (omega arith) (omega arith)

-- and none has more bytes than a frame may
pub plane_small : (shape : Shape) (p : ℕ) → IsLegal shape → plane_height shape p * row_bytes shape p ≤ MAX_BYTES
plane_small shape p legal =
    let area = mul-le (plane_width shape p) (plane_height shape p) shape.width shape.height (plane_width_le shape p) (plane_height_le shape p) in
    let size = mul-le (plane_width shape p * plane_height shape p) (sample_bytes shape) (frame_samples shape) (sample_bytes shape) (omega (arith, area)) (omega arith) in
    omega (arith, size, legal.most_bytes, three_swapped (plane_height shape p) (plane_width shape p) (sample_bytes shape))

-- the bytes of a plane are rows of its width
pub stored_plane : (shape : Shape) (all : List (List (List ℕ))) (p : ℕ) (stored : List (List ℕ)) → IsPicture (record { shape = shape; planes = all }) → p < planes shape.kind
    → decoded_rows shape stored ≡ get_or all p [] → AreWhole shape stored → IsPlane (row_bytes shape p) (plane_height shape p) stored
stored_plane shape all p stored is within shows are =
    IsPlane-stored shape (plane_width shape p) (plane_height shape p) stored are
    (subst (λ rows. IsPlane (plane_width shape p) (plane_height shape p) rows) (sym shows) (is.sizes p (omega (arith, is.count))))

-- a row of the bytes is the bytes of the row
pub stored_row : (shape : Shape) (stored rows : List (List ℕ)) (y : ℕ) → decoded_rows shape stored ≡ rows → AreWhole shape stored → get_or stored y [] ≡ bytes_of_row shape (get_or rows y [])
stored_row shape stored rows y shows are =
    sym (are.whole y) ∙ ap (bytes_of_row shape) (sym (get_or-decoded shape stored y) ∙ ap (λ (l : List (List ℕ)). get_or l y []) shows)

-- a run of rows of the bytes is the bytes of these rows
pub stored_rows : (shape : Shape) (stored rows : List (List ℕ)) (y n : ℕ) → decoded_rows shape stored ≡ rows → AreWhole shape stored → flat_rows (take n (drop y stored)) ≡ bytes_of_rows shape (take n (drop y rows))
stored_rows shape stored rows y n shows are =
    sym (bytes_of_rows-decoded shape (take n (drop y stored)) (whole-run shape stored y n are))
    ∙ ap (bytes_of_rows shape) (sym (take-map (row_of_bytes shape) n (drop y stored)) ∙ ap (take n) (sym (drop-map (row_of_bytes shape) y stored) ∙ ap (drop y) shows))

-- a frame that is built, as it is seen
module _ (shape : Shape) (luma : List (List ℕ)) (chroma : Option (List (List ℕ) × List (List ℕ))) (now : Picture) (view_is : frame_of shape luma chroma ≡ now)
    (invariant : IsStored shape luma chroma) (p : ℕ) (plane : p < planes now.shape.kind) where
  abbrev pub all : List (List (List ℕ))
  all = luma ∷ chroma_list chroma

  -- the plane in bytes
  abbrev pub old : List (List ℕ)
  old = get_or all p []

  shape_is : shape ≡ now.shape
  shape_is = ap (λ (v : Picture). v.shape) view_is

  is : IsPicture now
  is = subst (λ (v : Picture). IsPicture v) view_is invariant.picture

  planes_are : map (decoded_rows shape) all ≡ now.planes
  planes_are = ap (λ (v : Picture). v.planes) view_is

  shown : decoded_rows now.shape old ≡ get_or now.planes p []
  shown = ap (λ (s : Shape). decoded_rows s old) (sym shape_is) ∙ sym (get_or-map (decoded_rows shape) all p []) ∙ ap (λ l. get_or l p []) planes_are

  old_whole : AreWhole now.shape old
  old_whole = whole-same shape now.shape old (ap (λ (s : Shape). s.bits) shape_is) (invariant.rows p)

  old_plane : IsPlane (row_bytes now.shape p) (plane_height now.shape p) old
  old_plane = stored_plane now.shape now.planes p old is plane shown old_whole

  -- planes that are whole, one of them new
  all_whole : (rows : List (List ℕ)) → AreWhole now.shape rows → (q : ℕ) → AreWhole shape (get_or (set all p rows) q [])
  all_whole rows new q = elim (cases_eq q p) [
    | inl is_p ↦ rw (is_p, get_or-set_same all p rows [] many) (whole-same now.shape shape rows (sym (ap (λ (s : Shape). s.bits) shape_is)) new)
    | inr other ↦ rw (get_or-set_other all p q rows [] other) (invariant.rows q)
  ]
    where
      many : p < length all
      many = omega (arith, ap length planes_are, length-map all (decoded_rows shape), is.count, plane)

  -- what is put into the bytes is put into the frame
  set_decoded : (rows : List (List ℕ)) → map (decoded_rows shape) (set all p rows) ≡ set now.planes p (decoded_rows now.shape rows)
  set_decoded rows = map-set (decoded_rows shape) all p rows ∙ ap (λ l. set l p (decoded_rows shape rows)) planes_are ∙ ap (λ (s : Shape). set now.planes p (decoded_rows s rows)) shape_is

  -- a frame of new planes is a picture where these are
  IsPicture-new : (y : List (List ℕ)) (uv : Option (List (List ℕ) × List (List ℕ))) (new : List (List (List ℕ))) → map (decoded_rows shape) (y ∷ chroma_list uv) ≡ new
      → IsPicture (record { shape = now.shape; planes = new }) → IsPicture (frame_of shape y uv)
  IsPicture-new y uv new same new_is = subst (λ (s : Shape). IsPicture (record { shape = s; planes = map (decoded_rows shape) (y ∷ chroma_list uv) })) (sym shape_is)
      (subst (λ l. IsPicture (record { shape = now.shape; planes = l })) (sym same) new_is)

  -- and it is stored where a whole plane was put in place of one
  pub IsStored-new : (y : List (List ℕ)) (uv : Option (List (List ℕ) × List (List ℕ))) (rows : List (List ℕ)) (new : List (List (List ℕ))) → y ∷ chroma_list uv ≡ set all p rows → AreWhole now.shape rows
      → map (decoded_rows shape) (y ∷ chroma_list uv) ≡ new → IsPicture (record { shape = now.shape; planes = new }) → IsStored shape y uv
  IsStored-new y uv rows new put are same new_is = record {
    picture = IsPicture-new y uv new same new_is;
    rows = λ q. subst (λ (l : List (List (List ℕ))). AreWhole shape (get_or l q [])) (sym put) (all_whole rows are q);
  }

  -- rows that are put have the width of the plane
  pub whole_rows : (y n : ℕ) (bytes : List ℕ) → y + n ≤ plane_height now.shape p → length bytes ≡ n * row_bytes now.shape p → length bytes ≡ n * width_of old
  whole_rows y n bytes inside long =
      long ∙ sym (times-like (row_bytes now.shape p) (plane_height now.shape p) y n old old_plane (omega (arith, old_plane.count)))

  pub frame_put : (y n : ℕ) (bytes : List ℕ) → y + n ≤ plane_height now.shape p → map (decoded_rows shape) (set all p (bytes_put old y n bytes)) ≡ with_rows now.planes p y (rows_of_bytes now.shape p n bytes)
  frame_put y n bytes inside =
      let width : ℕ = row_bytes now.shape p in
      let new : List (List ℕ) = rows_of bytes width width n in
      let put : bytes_put old y n bytes ≡ rows_put old y new = ap (rows_put old y) (rows_of-like width (plane_height now.shape p) y n old bytes old_plane (omega (arith, old_plane.count))) in
      set_decoded (bytes_put old y n bytes)
      ∙ ap (set now.planes p) (ap (decoded_rows now.shape) put ∙ decoded-rows_put now.shape old y new ∙ ap (λ (rows : List (List ℕ)). rows_put rows y (decoded_rows now.shape new)) shown)

  -- the rows that are put are whole
  pub whole_put : (y n : ℕ) (bytes : List ℕ) → y + n ≤ plane_height now.shape p → length bytes ≡ n * row_bytes now.shape p → ((k : ℕ) → get_or bytes k 0 ≤ 255) → AreWhole now.shape (bytes_put old y n bytes)
  whole_put y n bytes inside long few =
      let width : ℕ = row_bytes now.shape p in
      let samples : length bytes ≡ (n * plane_width now.shape p) * sample_bytes now.shape = long ∙ times_three n (plane_width now.shape p) (sample_bytes now.shape) in
      let new : AreWhole now.shape (rows_of bytes width width n)
      = whole-rows_of now.shape bytes (plane_width now.shape p) n (bytes-row_of_bytes now.shape (n * plane_width now.shape p) bytes samples few) in
      subst (λ rows. AreWhole now.shape rows) (sym (ap (rows_put old y) (rows_of-like width (plane_height now.shape p) y n old bytes old_plane (omega (arith, old_plane.count)))))
      (whole-put now.shape old (rows_of bytes width width n) y old_whole new)

  pub IsPicture-put : (y n : ℕ) (bytes : List ℕ) → y + n ≤ plane_height now.shape p → length bytes ≡ n * row_bytes now.shape p → ((k : ℕ) → get_or bytes k 0 ≤ 255) → FitBytes now.shape bytes
      → IsPicture (record { shape = now.shape; planes = with_rows now.planes p y (rows_of_bytes now.shape p n bytes) })
  IsPicture-put y n bytes inside long few fit =
      let width : ℕ = row_bytes now.shape p in
      let before : List (List ℕ) = get_or now.planes p [] in
      let rows : List (List ℕ) = rows_of_bytes now.shape p n bytes in
      let new : IsPlane (plane_width now.shape p) n rows = IsPlane-decoded now.shape (plane_width now.shape p) n _ (IsPlane-rows_of bytes width n (omega (arith, long))) in
      let sizes : IsPlane (plane_width now.shape p) (plane_height now.shape p) before = is.sizes p (omega (arith, is.count)) in
      IsPicture-set now.shape now.planes p _ is plane (IsPlane-rows_put (plane_width now.shape p) (plane_height now.shape p) n y before rows sizes new inside)
      (bounded-rows_put (largest_sample now.shape) y before rows (is.bounded p) (bounded-decoded now.shape bytes (plane_width now.shape p) n (fits-bytes now.shape bytes few fit)))

  -- a plane of another frame is put in place of one
  module _ (from : Picture) (of : ℕ) (shared : List (List ℕ)) (from_is : IsPicture from) (of_there : of < planes from.shape.kind) (same : HasSamePlane now.shape p from.shape of)
      (shows : decoded_rows from.shape shared ≡ get_or from.planes of []) (are : AreWhole from.shape shared) where
    pub shared_like : IsPlane (width_of old) (length old) shared
    shared_like =
        let other : IsPlane (row_bytes from.shape of) (plane_height from.shape of) shared = stored_plane from.shape from.planes of shared from_is of_there shows are in
        IsPlane-other (row_bytes now.shape p) (plane_height now.shape p) old shared old_plane
        (subst (λ h. IsPlane (row_bytes now.shape p) h shared) (sym same.height)
        (subst (λ n. IsPlane (plane_width now.shape p * (if n == 8 then 1 else 2)) (plane_height from.shape of) shared) (sym same.bits) (subst (λ w. IsPlane (w * sample_bytes from.shape) (plane_height from.shape of) shared) (sym same.width) other)))

    pub shared_whole : AreWhole now.shape shared
    shared_whole = whole-same from.shape now.shape shared (sym same.bits) are

    pub frame_share : map (decoded_rows shape) (set all p shared) ≡ set now.planes p (get_or from.planes of [])
    frame_share = set_decoded shared ∙ ap (set now.planes p) (decoded-same now.shape from.shape shared same.bits ∙ shows)

    pub IsPicture-share : IsPicture (record { shape = now.shape; planes = set now.planes p (get_or from.planes of []) })
    IsPicture-share =
        let rows : List (List ℕ) = get_or from.planes of [] in
        let sizes : IsPlane (plane_width from.shape of) (plane_height from.shape of) rows = from_is.sizes of (omega (arith, from_is.count)) in
        IsPicture-set now.shape now.planes p rows is plane
        (subst (λ h. IsPlane (plane_width now.shape p) h rows) (sym same.height) (subst (λ w. IsPlane w (plane_height from.shape of) rows) (sym same.width) sizes))
        (λ x y. subst (λ n. get_or (get_or rows y []) x 0 ≤ 2 ^ n - 1) (sym same.bits) (from_is.bounded of x y))

-- one row that is put
pub one_row : (picture : Picture) (p y : ℕ) (row : List ℕ) → IsPicture picture → p < planes picture.shape.kind → y < plane_height picture.shape p → length row ≡ row_bytes picture.shape p
    → with_rows picture.planes p y (rows_of_bytes picture.shape p 1 row) ≡ with_row picture.planes p y (row_of_bytes picture.shape row)
one_row picture p y row is within inside long =
    let shape : Shape = picture.shape in
    let plane : List (List ℕ) = get_or picture.planes p [] in
    let sizes = is.sizes p (omega (arith, is.count)) in
    ap (λ (r : List ℕ). with_rows picture.planes p y (row_of_bytes shape r ∷ [])) (take_all (row_bytes shape p) row (omega (arith, long)))
    ∙ ap (set picture.planes p) (put_one plane y (row_of_bytes shape row) (omega (arith, sizes.count)))

-- a frame, from what its planes show
pub frame_is : (shape : Shape) (luma : List (List ℕ)) (chroma : Option (List (List ℕ) × List (List ℕ))) (y : List (List ℕ)) (uv : List (List (List ℕ)))
    → decoded_rows shape luma ≡ y → map (decoded_rows shape) (chroma_list chroma) ≡ uv → frame_of shape luma chroma ≡ record { shape = shape; planes = y ∷ uv }
frame_is shape luma chroma y uv luma_is chroma_is = ap (λ l. record { shape = shape; planes = l }) (ap (λ l. l ∷ map (decoded_rows shape) (chroma_list chroma)) luma_is ∙ ap (λ l. y ∷ l) chroma_is)

-- bytes in which the rows of a plane lie are no fewer than those of the plane
pub holds_plane : (shape : Shape) (luma : List (List ℕ)) (chroma : Option (List (List ℕ) × List (List ℕ))) (p : ℕ) (bytes : List ℕ) → IsStored shape luma chroma
    → p < length (plane_list luma chroma) → LiesIn bytes (get_or (plane_list luma chroma) p []) → HoldsPlane (frame_of shape luma chroma) bytes p
holds_plane shape luma chroma p bytes are there lies =
    let planes_of : List (List (List ℕ)) = plane_list luma chroma in
    let rows : List (List ℕ) = get_or planes_of p [] in
    let shown : decoded_rows shape rows ≡ get_or (map (decoded_rows shape) planes_of) p [] = sym (get_or-map (decoded_rows shape) planes_of p []) in
    let sizes = are.picture.sizes p (omega (arith, there, length-map planes_of (decoded_rows shape))) in
    let stored = IsPlane-stored shape (plane_width shape p) (plane_height shape p) rows (are.rows p) (subst (IsPlane (plane_width shape p) (plane_height shape p)) (sym shown) sizes) in
    record {
      rows = rows;
      stored = lies;
      shown = shown;
      large = omega (arith, lies.large, length-flat_rows (row_bytes shape p) (plane_height shape p) rows stored);
    }
