-- Pictures one after the other: the sizes of their planes together, and the samples in them.
use Rattle.std.proofs.Common.{◌≡◌, ℕ, zero, suc, ◌^◌, ◌+◌, ◌-◌, ◌*◌, ◌/◌, ◌%◌, ◌<◌, ◌≤◌, List, [], ◌∷◌, ◌++◌, length, get_or, take, map, refl, sym, ◌∙◌, ap, arith, inl, inr, Bool, true, false, if◌then◌else◌, ◌==◌, nat_lt, sum_by, All, flat_map, add-mul, mul-div_cancel, subst, drop, get_or-take, get_or-drop, length-take-le, length-drop}
use borrow.Rule.Slice.PartMut.{put_mid}
use Rattle.std.proofs.lemmas.List.{get_or_append_left, get_or-append_right, length-append, get_or_read_under}
use Rattle.std.proofs.lemmas.List.Concat.{length-flat_map, get_or-flat_map}
use Rattle.std.proofs.lemmas.List.Sums.{sum_by-cons, sum_by_more, sum_by_more_le}
use Rattle.std.proofs.lemmas.Bool.{cases_eq, cases_lt}
use Rattle.std.proofs.lemmas.Bool.Decides.{nat_tests}
use Rattle.std.proofs.lemmas.Grind.{common_steps}
use Rattle.fv_plane.specs.declared.format.PixelType.{PixelType}
use Rattle.fv_plane.specs.declared.format.Shape.{Shape}
use Rattle.fv_plane.specs.Format.{planes, sub_w, sub_h, plane_width, plane_height, largest_sample}
use Rattle.fv_plane.specs.Picture.{Picture, IsPicture, row_of, look_in, bytes_of_row, bytes_of_rows, FitsRow, FitBytes}
use Rattle.fv_plane.specs.Made.{FitsLook}
use Rattle.fv_rows.specs.Rows.{flat_rows}
use Rattle.fv_plane.proofs.CallerLemmas.{fit_row, length-plane, length-row}
use Rattle.fv_plane.proofs.BytesLemmas.{bytes_of_row-nil, bytes_of_row-same, bytes_of_row-append, bytes_of_rows-flat}
use Rattle.fv_plane.proofs.FillLemmas.{Lists, row_listed}
use Rattle.clip_term.proofs.BoundedLemmas as bounds
use Rattle.clip_term.proofs.JoinFacts.{join_facts}
use Rattle.clip_term.specs.Join.{beside, beneath, join_at}
use Rattle.clip_term.specs.declared.op.JoinOp.TheVariants.{StackHorizontal, StackVertical}
use Rattle.flt_merge.specs.Joined.{infos_in, shape_joined}
use Rattle.flt_merge.specs.Rows.{bytes_beside, plane_of_all, rows_beneath, rows_beside, HaveWidth, HaveHeight, width_of_all, height_of_all}

-- LISTS

pub all_rest : {X : Type 0} (P : X → Type 0) (x : X) (xs : List X) → All P (x ∷ xs) → P x × All P xs
all_rest P x xs all = (all 0 x (omega arith), λ k d h. all (suc k) d (omega arith))

sum_same : (f g : Picture → ℕ) (pictures : List Picture) → All (λ one. f one ≡ g one) pictures → sum_by f pictures ≡ sum_by g pictures
sum_same f g [] all = refl
sum_same f g (one ∷ more) all =
    let now = all_rest (λ q. f q ≡ g q) one more all in
    sum_by-cons f one more ∙ ap (λ n. n + sum_by f more) now.0 ∙ ap (λ n. g one + n) (sum_same f g more now.1) ∙ sym (sum_by-cons g one more)

zero_times : (n : ℕ) → 0 ≡ 0 * n
zero_times n = omega arith

sum_times : (f g : Picture → ℕ) (n : ℕ) (pictures : List Picture) → All (λ one. f one ≡ g one * n) pictures → sum_by f pictures ≡ sum_by g pictures * n
sum_times f g n [] all = zero_times n
sum_times f g n (one ∷ more) all =
    let now = all_rest (λ q. f q ≡ g q * n) one more all in
    sum_by-cons f one more ∙ ap (λ k. k + sum_by f more) now.0 ∙ ap (λ k. g one * n + k) (sum_times f g n more now.1)
    ∙ sym (add-mul (g one) (sum_by g more) n) ∙ ap (λ k. k * n) (sym (sum_by-cons g one more))

-- SIZES

-- sizes on a plane, where each is a whole number of chroma samples, are those of their sum
parts_of_all : (size : Picture → ℕ) (luma : Bool) (n total : ℕ) (pictures : List Picture) → 0 < n → total ≡ sum_by size pictures → All (λ one. size one ≡ size one / n * n) pictures
    → sum_by (λ one. if luma then size one else size one / n) pictures ≡ (if luma then total else total / n)
parts_of_all size true n total pictures some is all = sym is
parts_of_all size false n total pictures some is all =
    sym (ap (λ k. k / n) (is ∙ sum_times size (λ one. size one / n) n pictures all) ∙ mul-div_cancel (sum_by (λ one. size one / n) pictures) some)

some_sub_w : (kind : PixelType) → 0 < sub_w kind
some_sub_w kind = grind (arith, common_steps)

some_sub_h : (kind : PixelType) → 0 < sub_h kind
some_sub_h kind = grind (arith, common_steps)

whole_across : (kind : PixelType) (n : ℕ) → n % sub_w kind ≡ 0 → n ≡ n / sub_w kind * sub_w kind
whole_across kind n e = grind (arith, common_steps)

whole_down : (kind : PixelType) (n : ℕ) → n % sub_h kind ≡ 0 → n ≡ n / sub_h kind * sub_h kind
whole_down kind n e = grind (arith, common_steps)

-- pictures of one width, below each other, make this shape
pub record Beneath (shape : Shape) (pictures : List Picture) : Type 0 where
  pub sizes : All IsPicture pictures
  pub alike : HaveWidth shape pictures
  pub total : shape.height ≡ height_of_all pictures

-- pictures of one height, side by side, make this shape
pub record Beside (shape : Shape) (pictures : List Picture) : Type 0 where
  pub sizes : All IsPicture pictures
  pub alike : HaveHeight shape pictures
  pub total : shape.width ≡ width_of_all pictures

module _ (shape : Shape) (pictures : List Picture) (make : Beneath shape pictures) where
  -- each has the planes of the shape
  pub planes_beneath : (p : ℕ) → p < planes shape.kind → All (λ one. p < planes one.shape.kind) pictures
  planes_beneath p there k d h = rw (make.alike k d h).0 there

  heights_beneath : (p : ℕ) → p < planes shape.kind → All (λ one. length (get_or one.planes p []) ≡ plane_height one.shape p) pictures
  heights_beneath p there k d h = length-plane (get_or pictures k d) p (make.sizes k d h) (planes_beneath p there k d h)

  -- a plane of all of them has as many rows as the plane of the shape
  rows_of_all : (p : ℕ) → p < planes shape.kind → sum_by (λ one. length (get_or one.planes p [])) pictures ≡ plane_height shape p
  rows_of_all p there =
      let n = sub_h shape.kind in
      sum_same (λ one. length (get_or one.planes p [])) (λ one. if p == 0 then one.shape.height else one.shape.height / n) pictures
      (λ k d h. heights_beneath p there k d h ∙ ap (λ kind. if p == 0 then (get_or pictures k d).shape.height else (get_or pictures k d).shape.height / sub_h kind) (make.alike k d h).0)
      ∙ parts_of_all (λ one. one.shape.height) (p == 0) n shape.height pictures (some_sub_h shape.kind) make.total
      (λ k d h. whole_down shape.kind (get_or pictures k d).shape.height (rw (← (make.alike k d h).0) (make.sizes k d h).legal.whole_height))

  -- where the next picture begins
  pub next_top : (p i : ℕ) (d : Picture) → p < planes shape.kind → i < length pictures
      → length (plane_of_all (take (i + 1) pictures) p) ≡ length (plane_of_all (take i pictures) p) + plane_height (get_or pictures i d).shape p
  next_top p i d there h =
      let F : Picture → List (List ℕ) = λ one. get_or one.planes p [] in
      let rows : Picture → ℕ = λ one. length (F one) in
      length-flat_map F (take (i + 1) pictures) ∙ sum_by_more rows pictures i d h
      ∙ ap (λ n. n + rows (get_or pictures i d)) (sym (length-flat_map F (take i pictures))) ∙ ap (λ n. length (flat_map F (take i pictures)) + n) (heights_beneath p there i d h)

  -- it ends inside the plane of the shape
  pub ends_inside : (p i : ℕ) (d : Picture) → p < planes shape.kind → i < length pictures
      → length (plane_of_all (take i pictures) p) + plane_height (get_or pictures i d).shape p ≤ plane_height shape p
  ends_inside p i d there h =
      let F : Picture → List (List ℕ) = λ one. get_or one.planes p [] in
      let rows : Picture → ℕ = λ one. length (F one) in
      let top : length (plane_of_all (take i pictures) p) ≡ sum_by rows (take i pictures) = length-flat_map F (take i pictures) in
      let here : rows (get_or pictures i d) ≡ plane_height (get_or pictures i d).shape p = heights_beneath p there i d h in
      let whole : sum_by rows pictures ≡ plane_height shape p = rows_of_all p there in
      let fits : sum_by rows (take i pictures) + rows (get_or pictures i d) ≤ sum_by rows pictures = sum_by_more_le rows pictures i d h in
      omega (arith, top, here, whole, fits)

  -- all of them end where the plane of the shape does
  pub all_rows : (p : ℕ) → p < planes shape.kind → length (plane_of_all pictures p) ≡ plane_height shape p
  all_rows p there = length-flat_map (λ (one : Picture). get_or one.planes p []) pictures ∙ rows_of_all p there

  -- a row of one of them among those of all
  pub row_beneath : (p i y : ℕ) (d : Picture) → p < planes shape.kind → i < length pictures → y < plane_height (get_or pictures i d).shape p
      → rows_beneath pictures p (length (plane_of_all (take i pictures) p) + y) ≡ row_of (get_or pictures i d).planes p y
  row_beneath p i y d there h inside =
      let here = heights_beneath p there i d h in
      get_or-flat_map (λ (one : Picture). get_or one.planes p []) pictures i y d [] h (omega (arith, here))

module _ (shape : Shape) (pictures : List Picture) (make : Beside shape pictures) where
  pub planes_beside : (p : ℕ) → p < planes shape.kind → All (λ one. p < planes one.shape.kind) pictures
  planes_beside p there k d h = rw (make.alike k d h).0 there

  -- each has the rows of the shape
  pub heights_beside : (p y : ℕ) → y < plane_height shape p → All (λ one. y < plane_height one.shape p) pictures
  heights_beside p y inside k d h = rw ((make.alike k d h).0, (make.alike k d h).1) inside

  widths_beside : (p y : ℕ) → p < planes shape.kind → y < plane_height shape p → All (λ one. length (row_of one.planes p y) ≡ plane_width one.shape p) pictures
  widths_beside p y there inside k d h = length-row (get_or pictures k d) p y (make.sizes k d h) (planes_beside p there k d h) (heights_beside p y inside k d h)

  -- a row of all of them is as wide as the plane of the shape
  pub row_of_all : (p y : ℕ) → p < planes shape.kind → y < plane_height shape p → length (rows_beside pictures p y) ≡ plane_width shape p
  row_of_all p y there inside =
      let n = sub_w shape.kind in
      length-flat_map (λ (one : Picture). row_of one.planes p y) pictures
      ∙ sum_same (λ one. length (row_of one.planes p y)) (λ one. if p == 0 then one.shape.width else one.shape.width / n) pictures
      (λ k d h. widths_beside p y there inside k d h ∙ ap (λ kind. if p == 0 then (get_or pictures k d).shape.width else (get_or pictures k d).shape.width / sub_w kind) (make.alike k d h).0)
      ∙ parts_of_all (λ one. one.shape.width) (p == 0) n shape.width pictures (some_sub_w shape.kind) make.total
      (λ k d h. whole_across shape.kind (get_or pictures k d).shape.width (rw (← (make.alike k d h).0) (make.sizes k d h).legal.whole_width))

-- ONE MORE

pub total_more : (size : Picture → ℕ) (pictures : List Picture) (i total : ℕ) (one : Picture) → i < length pictures → one ≡ get_or pictures i one → total ≡ sum_by size (take i pictures)
    → total + size one ≡ sum_by size (take (i + 1) pictures)
total_more size pictures i total one h is so_far = grind (arith, common_steps)

pub sizes_more : (pictures : List Picture) (i : ℕ) (one : Picture) → i < length pictures → one ≡ get_or pictures i one → IsPicture one → ((k : ℕ) (d : Picture) → k < i → IsPicture (get_or pictures k d))
    → (k : ℕ) (d : Picture) → k < i + 1 → IsPicture (get_or pictures k d)
sizes_more pictures i one h is picture so_far k d within = elim (cases_eq k i) [
  | inl same ↦ rw same (subst (λ (q : Picture). IsPicture q) (get_or_read_under pictures i (length pictures) one d is h refl) picture)
  | inr other ↦ so_far k d (omega (arith, other))
]

-- the rows of the pictures so far, and of the next one
pub row_more : (row : Picture → List ℕ) (pictures : List Picture) (i : ℕ) (one : Picture) → i < length pictures → one ≡ get_or pictures i one
    → flat_map row (take (i + 1) pictures) ≡ flat_map row (take i pictures) ++ row one
row_more row pictures i one h is = grind (arith, common_steps)

-- they end inside the row of all
pub row_fits : (row : Picture → List ℕ) (pictures : List Picture) (i : ℕ) (one : Picture) → i < length pictures → one ≡ get_or pictures i one
    → length (flat_map row (take i pictures)) + length (row one) ≤ length (flat_map row pictures)
row_fits row pictures i one h is = search (arith, flat_map, sum_by, length-flat_map, sum_by_more_le)

-- SAMPLES

picks : (t : Bool) (u v w : ℕ) → (t ≡ true → w ≡ u) → (t ≡ false → w ≡ v) → w ≡ (if t then u else v)
picks t u v w first second = grind (arith, common_steps)

less : (a b : ℕ) → nat_lt a b ≡ true → a < b
less a b e = grind (arith, nat_tests)

not_less : (a b : ℕ) → nat_lt a b ≡ false → b ≤ a
not_less a b e = grind (arith, nat_tests)

sample_beneath : (pictures : List Picture) (p x y : ℕ) → All (λ one. length (get_or one.planes p []) ≡ plane_height one.shape p) pictures
    → get_or (rows_beneath pictures p y) x 0 ≡ beneath (infos_in pictures) (map look_in pictures) p x y
sample_beneath [] p x y all = refl
sample_beneath (one ∷ more) p x y all =
    let now = all_rest (λ (q : Picture). length (get_or q.planes p []) ≡ plane_height q.shape p) one more all in
    let plane = get_or one.planes p [] in
    let height = plane_height one.shape p in
    picks (nat_lt y height) (look_in one p x y) (beneath (infos_in more) (map look_in more) p x (y - height)) (get_or (rows_beneath (one ∷ more) p y) x 0)
    (λ t. ap (λ (l : List ℕ). get_or l x 0) (get_or_append_left plane (plane_of_all more p) [] y (let a = less y height t in let b = now.0 in omega arith)))
    (λ t. ap (λ (l : List ℕ). get_or l x 0) (get_or-append_right plane (plane_of_all more p) height y [] now.0 (not_less y height t)) ∙ sample_beneath more p x (y - height) now.1)

sample_beside : (pictures : List Picture) (p x y : ℕ) → All (λ one. length (row_of one.planes p y) ≡ plane_width one.shape p) pictures
    → get_or (rows_beside pictures p y) x 0 ≡ beside (infos_in pictures) (map look_in pictures) p x y
sample_beside [] p x y all = refl
sample_beside (one ∷ more) p x y all =
    let now = all_rest (λ (q : Picture). length (row_of q.planes p y) ≡ plane_width q.shape p) one more all in
    let row = row_of one.planes p y in
    let width = plane_width one.shape p in
    picks (nat_lt x width) (look_in one p x y) (beside (infos_in more) (map look_in more) p (x - width) y) (get_or (rows_beside (one ∷ more) p y) x 0)
    (λ t. get_or_append_left row (rows_beside more p y) 0 x (let a = less x width t in let b = now.0 in omega arith))
    (λ t. get_or-append_right row (rows_beside more p y) width x 0 now.0 (not_less x width t) ∙ sample_beside more p (x - width) y now.1)

long_rows : (pictures : List Picture) (p y width : ℕ) → All (λ one. (z : ℕ) → z < length (get_or one.planes p []) → length (row_of one.planes p z) ≡ width) pictures
    → y < length (plane_of_all pictures p) → length (rows_beneath pictures p y) ≡ width
long_rows [] p y width all inside = absurd (omega arith)
long_rows (one ∷ more) p y width all inside =
    let now = all_rest (λ (q : Picture). (z : ℕ) → z < length (get_or q.planes p []) → length (row_of q.planes p z) ≡ width) one more all in
    let plane = get_or one.planes p [] in
    elim (cases_lt y (length plane)) [
      | inl here ↦ ap (λ (l : List ℕ). length l) (get_or_append_left plane (plane_of_all more p) [] y here) ∙ now.0 y here
      | inr past ↦ ap (λ (l : List ℕ). length l) (get_or-append_right plane (plane_of_all more p) (length plane) y [] refl past)
          ∙ long_rows more p (y - length plane) width now.1 (omega (arith, length-append plane (plane_of_all more p)))
    ]

pub beneath_listed : (shape : Shape) (pictures : List Picture) → Beneath shape pictures → Lists (rows_beneath pictures) shape (join_at StackVertical (infos_in pictures) (map look_in pictures))
beneath_listed shape pictures make p y there inside =
    row_listed (rows_beneath pictures p y) (join_at StackVertical (infos_in pictures) (map look_in pictures)) p (plane_width shape p) y
    (long_rows pictures p y (plane_width shape p)
    (λ k d h z within.
    let one = get_or pictures k d in
    let high = length-plane one p (make.sizes k d h) (planes_beneath shape pictures make p there k d h) in
    length-row one p z (make.sizes k d h) (planes_beneath shape pictures make p there k d h) (omega (arith, high))
    ∙ ap (λ kind. if p == 0 then one.shape.width else one.shape.width / sub_w kind) (make.alike k d h).0
    ∙ ap (λ w. if p == 0 then w else w / sub_w shape.kind) (make.alike k d h).1)
    (omega (arith, all_rows shape pictures make p there)))
    (λ x within. sample_beneath pictures p x y (heights_beneath shape pictures make p there))

pub beside_listed : (shape : Shape) (pictures : List Picture) → Beside shape pictures → Lists (rows_beside pictures) shape (join_at StackHorizontal (infos_in pictures) (map look_in pictures))
beside_listed shape pictures make p y there inside =
    row_listed (rows_beside pictures p y) (join_at StackHorizontal (infos_in pictures) (map look_in pictures)) p (plane_width shape p) y
    (row_of_all shape pictures make p y there inside)
    (λ x within. sample_beside pictures p x y (widths_beside shape pictures make p y there inside))

-- the bytes side by side are those of the samples side by side
pub bytes_beside_are : (shape : Shape) (pictures : List Picture) (p y : ℕ) → All (λ (one : Picture). one.shape.bits ≡ shape.bits) pictures → bytes_beside pictures p y ≡ bytes_of_row shape (rows_beside pictures p y)
bytes_beside_are shape [] p y same = sym (bytes_of_row-nil shape)
bytes_beside_are shape (one ∷ more) p y same =
    let now = all_rest (λ (q : Picture). q.shape.bits ≡ shape.bits) one more same in
    let row : List ℕ = row_of one.planes p y in
    ap (λ (l : List ℕ). l ++ bytes_beside more p y) (bytes_of_row-same one.shape shape row now.0)
    ∙ ap (λ (l : List ℕ). bytes_of_row shape row ++ l) (bytes_beside_are shape more p y now.1) ∙ sym (bytes_of_row-append shape row (rows_beside more p y))

bounded-append : (most : ℕ) (front rest : List ℕ) → ((x : ℕ) → get_or front x 0 ≤ most) → ((x : ℕ) → get_or rest x 0 ≤ most) → (x : ℕ) → get_or (front ++ rest) x 0 ≤ most
bounded-append most [] rest few more x = more x
bounded-append most (s ∷ front) rest few more zero = few 0
bounded-append most (s ∷ front) rest few more (suc x) = bounded-append most front rest (λ k. few (suc k)) more x

-- samples of pictures fit in a shape of their bits
fits_shape : (picture : Picture) (shape : Shape) (p y : ℕ) → IsPicture picture → picture.shape.bits ≡ shape.bits → FitsRow shape (row_of picture.planes p y)
fits_shape picture shape p y is same x = subst (λ n. get_or (row_of picture.planes p y) x 0 ≤ 2 ^ n - 1) same (is.bounded p x y)

-- and so do the samples at each place of them
looks_of_all : (shape : Shape) (pictures : List Picture) → All IsPicture pictures → All (λ (one : Picture). one.shape.bits ≡ shape.bits) pictures → bounds.AllBounded shape (map look_in pictures)
looks_of_all shape [] all same = bounds.none
looks_of_all shape (one ∷ more) all same =
    let is = all_rest (λ (q : Picture). IsPicture q) one more all in
    let now = all_rest (λ (q : Picture). q.shape.bits ≡ shape.bits) one more same in
    bounds.more (record { at = λ p x y. fits_shape one shape p y is.0 now.0 x }) (looks_of_all shape more is.1 now.1)

-- also side by side
pub looks_beside : (shape : Shape) (pictures : List Picture) → Beside shape pictures → FitsLook shape (join_at StackHorizontal (infos_in pictures) (map look_in pictures))
looks_beside shape pictures make =
    let bounded = (join_facts StackHorizontal).bounded shape (infos_in pictures) (map look_in pictures) (looks_of_all shape pictures make.sizes (λ k d h. (make.alike k d h).2)) in
    bounded.at

fits_rows : (most : ℕ) (rows : List (List ℕ)) → ((x y : ℕ) → get_or (get_or rows y []) x 0 ≤ most) → (x : ℕ) → get_or (flat_rows rows) x 0 ≤ most
fits_rows most [] few x = omega arith
fits_rows most (row ∷ rows) few x = bounded-append most row (flat_rows rows) (λ k. few k 0) (fits_rows most rows (λ k y. few k (suc y))) x

part_few : (most : ℕ) (rows : List (List ℕ)) (y n : ℕ) → ((x z : ℕ) → get_or (get_or rows z []) x 0 ≤ most) → (x z : ℕ) → get_or (get_or (take n (drop y rows)) z []) x 0 ≤ most
part_few most rows y n few x z = grind (arith, common_steps)

-- the bytes of rows of a picture fit in a shape of its bits
pub fit_rows : (picture : Picture) (shape : Shape) (p y n : ℕ) (bytes : List ℕ) → IsPicture picture → picture.shape.bits ≡ shape.bits → bytes ≡ bytes_of_rows picture.shape (take n (drop y (get_or picture.planes p []))) → FitBytes shape bytes
fit_rows picture shape p y n bytes is same told =
    let rows : List (List ℕ) = take n (drop y (get_or picture.planes p [])) in
    let flat : bytes ≡ bytes_of_row shape (flat_rows rows) = told ∙ bytes_of_rows-flat picture.shape rows ∙ bytes_of_row-same picture.shape shape (flat_rows rows) same in
    let fits : FitsRow shape (flat_rows rows)
    = fits_rows (largest_sample shape) rows (part_few (largest_sample shape) (get_or picture.planes p []) y n (λ x z. subst (λ k. get_or (get_or (get_or picture.planes p []) z []) x 0 ≤ 2 ^ k - 1) same (is.bounded p x z))) in
    subst (λ (l : List ℕ). FitBytes shape l) (sym flat) (fit_row shape (flat_rows rows) fits)

-- STACKS

-- pictures of the format and width of a stack make it
pub beneath_by : (shape : Shape) (pictures : List Picture) → shape ≡ shape_joined StackVertical pictures → All IsPicture pictures → HaveWidth (shape_joined StackVertical pictures) pictures → Beneath shape pictures
beneath_by shape pictures is sizes alike = grind (arith, common_steps)

pub beside_by : (shape : Shape) (pictures : List Picture) → shape ≡ shape_joined StackHorizontal pictures → All IsPicture pictures → HaveHeight (shape_joined StackHorizontal pictures) pictures → Beside shape pictures
beside_by shape pictures is sizes alike = grind (arith, common_steps)

-- the picture that is read next, at place i
pub record Next (shape : Shape) (pictures : List Picture) (p i : ℕ) (one : Picture) : Type 0 where
  pub make : Beneath shape pictures
  pub there : p < planes shape.kind
  pub here : i < length pictures
  pub is : one ≡ get_or pictures i one

module _ {shape : Shape} {pictures : List Picture} {p i : ℕ} {one : Picture} (next : Next shape pictures p i one) where
  pub next_is : IsPicture one
  next_is = subst (λ (q : Picture). IsPicture q) (sym next.is) (next.make.sizes i one next.here)

  pub next_planes : p < planes one.shape.kind
  next_planes = subst (λ (q : Picture). p < planes q.shape.kind) (sym next.is) (planes_beneath shape pictures next.make p next.there i one next.here)

  pub next_width : plane_width one.shape p ≡ plane_width shape p
  next_width =
      ap (λ (q : Picture). plane_width q.shape p) next.is
      ∙ ap (λ kind. if p == 0 then (get_or pictures i one).shape.width else (get_or pictures i one).shape.width / sub_w kind) (next.make.alike i one next.here).0
      ∙ ap (λ w. if p == 0 then w else w / sub_w shape.kind) (next.make.alike i one next.here).1

  pub next_bits : one.shape.bits ≡ shape.bits
  next_bits = ap (λ (q : Picture). q.shape.bits) next.is ∙ (next.make.alike i one next.here).2

  next_height : plane_height (get_or pictures i one).shape p ≡ plane_height one.shape p
  next_height = ap (λ (q : Picture). plane_height q.shape p) (sym next.is)

  -- it ends inside the plane
  pub next_ends : (top : ℕ) → top ≡ length (plane_of_all (take i pictures) p) → top + plane_height one.shape p ≤ plane_height shape p
  next_ends top at = omega (arith, ends_inside shape pictures next.make p i one next.there next.here, next_height)

  pub next_after : (top : ℕ) → top ≡ length (plane_of_all (take i pictures) p) → top + plane_height one.shape p ≡ length (plane_of_all (take (i + 1) pictures) p)
  next_after top at = omega (arith, next_top shape pictures next.make p i one next.there next.here, next_height)

  -- its rows are the wanted ones
  pub next_wanted : (top y n z : ℕ) → top ≡ length (plane_of_all (take i pictures) p) → y + n ≤ plane_height one.shape p → z < n
      → get_or (take n (drop y (get_or one.planes p []))) z [] ≡ rows_beneath pictures p (top + y + z)
  next_wanted top y n z at inside within =
      let place : length (plane_of_all (take i pictures) p) + (y + z) ≡ top + y + z = omega arith in
      get_or-take n (drop y (get_or one.planes p [])) z [] within ∙ get_or-drop y (get_or one.planes p []) z []
      ∙ ap (λ (q : Picture). row_of q.planes p (y + z)) next.is ∙ sym (row_beneath shape pictures next.make p i (y + z) one next.there next.here (omega (arith, next_height))) ∙ ap (rows_beneath pictures p) place

-- what the loops over the pictures know of it
pub next_of : {inputs : List Picture} {got : Shape} {p i end : ℕ} {one : Picture} → All IsPicture inputs → HaveWidth (shape_joined StackVertical inputs) inputs → got ≡ shape_joined StackVertical inputs → end ≡ planes got.kind
    → p < end → i < length inputs → one ≡ get_or inputs i one → Next (shape_joined StackVertical inputs) inputs p i one
next_of {inputs} sizes alike is_shape all there here is = record {
  make = beneath_by (shape_joined StackVertical inputs) inputs refl sizes alike;
  there = omega (arith, ap (λ (s : Shape). planes s.kind) is_shape);
  here = here;
  is = is;
}

-- a part of a row is written
pub length-put_mid : (a k : ℕ) (xs ys : List ℕ) → length ys ≡ k → a + k ≤ length xs → length (put_mid a k xs ys) ≡ length xs
length-put_mid a k xs ys long fits =
    omega (arith, length-append (take a xs) (ys ++ drop k (drop a xs)), length-append ys (drop k (drop a xs)), length-take-le a xs (omega arith), length-drop k (drop a xs), length-drop a xs)
