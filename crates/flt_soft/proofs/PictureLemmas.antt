-- Pictures of one shape, and planes that stay.
use Rattle.std.proofs.Common.{◌≡◌, ℕ, suc, ◌+◌, ◌-◌, ◌*◌, ◌/◌, ◌%◌, ◌^◌, ◌<◌, ◌≤◌, ◌∙◌, List, [], ◌∷◌, length, map, get_or, ap, arith, Bool, true, eqb-true, eq-eqb}
use Rattle.std.specs.Prelude.{ℤ, pos, ◌*ℤ◌, unsigned_abs, ◌⊎◌, ◌||◌, if◌then◌else◌, ◌==◌}
use Rattle.std.specs.List.{All}
use Rattle.std.proofs.lemmas.List.{get_or_read, length-map}
use Rattle.fv_plane.specs.declared.format.PixelType.{PixelType}
use Rattle.fv_plane.specs.declared.format.Shape.{Shape}
use Rattle.fv_plane.specs.Format.{IsLegal, largest_sample, planes, plane_width, row_bytes, scale, sub_w}
use Rattle.fv_plane.specs.Picture.{Picture, IsPicture, row_of, look_in, look_at, row_from}
use Rattle.fv_plane.specs.Made.{IsPlaneOf}
use Rattle.fv_plane.proofs.CallerLemmas.{bytes_of_narrow}
use Rattle.fv_plane.proofs.PictureLemmas.{five_depths}
use Rattle.fv_plane.proofs.FillLemmas.{row_listed}
use Rattle.clip_term.specs.declared.op.Matrix.{Matrix}
use Rattle.clip_term.specs.declared.op.SoftOp.{SoftOp}
use Rattle.clip_term.specs.declared.op.SoftOp.TheVariants as op
use Rattle.clip_term.specs.Soft.{softened, samples_at, soft_at, convolved}
use Rattle.clip_term.specs.Terms.{no_picture}
use Rattle.clip_term.proofs.BoundedLemmas as bounds
use Rattle.clip_term.proofs.BoundedLemmas.{AllBounded, IsBounded}
use Rattle.std.proofs.lemmas.Int.{unsigned_abs-mul}
use Rattle.std.proofs.lemmas.Nat.{mul-le}
use Rattle.std.proofs.lemmas.Bool.Decides.{nat_tests}
use Rattle.std.proofs.lemmas.Grind.{common_steps}
use Rattle.flt_rows.specs.Rows.{IsBias}
use Rattle.flt_rows.specs.Squares.{AreAtMost}
use Rattle.flt_soft.specs.Pictures.{CanSoften, HaveShape, asked_count, bytes_made, keeps_plane, shape_of}
use Rattle.flt_soft.proofs.SoftenLemmas.{look_seen}
use Rattle.flt_rows.proofs.WeightLemmas.{size_of_bias}

-- a filter asks a frame
pub some_asked : (filter : SoftOp) → 0 < asked_count filter
some_asked filter = grind (arith, common_steps)

pub some_pictures : (filter : SoftOp) (pictures : List Picture) → CanSoften filter pictures → 0 < length pictures
some_pictures filter pictures can = omega (arith, can.asked, some_asked filter)

-- the first picture has the shape
pub first_shape : (pictures : List Picture) (one : Picture) → 0 < length pictures → one ≡ get_or pictures 0 one → one.shape ≡ shape_of pictures
first_shape pictures one some is = ap (λ (q : Picture). q.shape) (get_or_read pictures 0 one some is no_picture)

-- and so has each other
pub shape_same : (shape : Shape) (pictures : List Picture) (i : ℕ) (one : Picture) → HaveShape shape pictures → i < length pictures → one ≡ get_or pictures i one → one.shape ≡ shape
shape_same shape pictures i one alike there is = ap (λ (q : Picture). q.shape) is ∙ alike i one there

at_most : (test : Bool) (n m : ℕ) → m ≤ n → (if test then n else m) ≤ n
at_most test n m less = grind (arith, common_steps)

-- no plane is wider than the first
pub width_at_most : (shape : Shape) (p : ℕ) → plane_width shape p ≤ shape.width
width_at_most shape p = at_most (p == 0) shape.width (shape.width / sub_w shape.kind) (omega arith)

some_across : (kind : PixelType) (n : ℕ) → 0 < n → n % sub_w kind ≡ 0 → 0 < n / sub_w kind
some_across kind n some whole = grind (arith, common_steps)

some_either : (test : Bool) (n m : ℕ) → 0 < n → 0 < m → 0 < (if test then n else m)
some_either test n m first second = grind (arith, common_steps)

-- a row of samples of eight bits has as many bytes
pub narrow_width : (shape : Shape) (p bytes : ℕ) → shape.bits ≡ 8 → bytes ≡ row_bytes shape p → bytes ≡ plane_width shape p
narrow_width shape p bytes narrow long = (let same = rw narrow at long in omega arith)

-- in a picture of any depth no sample is over 65,535
pub wide_few : (picture : Picture) → IsPicture picture → (p x y : ℕ) → look_in picture p x y ≤ 65535
wide_few picture is p x y = grind (arith, common_steps)

-- and by at most 64 where the samples have at most 15 bits
small_by : (bits : ℕ) → (bits ≡ 8) ⊎ ((bits ≡ 10) ⊎ ((bits ≡ 12) ⊎ ((bits ≡ 14) ⊎ (bits ≡ 16)))) → 2 ^ bits - 1 < 2 ^ 15 → 2 ^ (bits - 8) ≤ 64
small_by bits h small = grind (arith, common_steps)

-- so that a bias stays below 2^15
pub scaled_small : (bias : ℤ) (shape : Shape) → IsBias bias → IsLegal shape → largest_sample shape < 2 ^ 15 → unsigned_abs (bias *ℤ pos (scale shape)) < 2 ^ 15
scaled_small bias shape is legal small = search (arith, small_by, five_depths, unsigned_abs-mul, mul-le, size_of_bias)

least_by : (bits : ℕ) → (bits ≡ 8) ⊎ ((bits ≡ 10) ⊎ ((bits ≡ 12) ⊎ ((bits ≡ 14) ⊎ (bits ≡ 16)))) → 255 ≤ 2 ^ bits - 1
least_by bits h = grind (arith, common_steps)

-- weights whose sums stay below 2^15 have sizes of at most 128 together
pub light_weights : (size : ℕ) (shape : Shape) → IsLegal shape → size * largest_sample shape < 2 ^ 15 → size ≤ 128
light_weights size shape legal light = search (arith, least_by, five_depths, mul-le)

-- no sample of a row is over the largest
pub row_fits : (picture : Picture) (p y most : ℕ) (row : List ℕ) → IsPicture picture → row ≡ row_of picture.planes p y → most ≡ largest_sample picture.shape → AreAtMost most row
row_fits picture p y most row is same most_is x = rw (same, most_is) (is.bounded p x y)

-- where a sample is one byte, the bytes are the samples
pub narrow_made : (filter : SoftOp) (pictures : List Picture) (p y bytes : ℕ) → (shape_of pictures).bits ≡ 8 → bytes ≡ row_bytes (shape_of pictures) p
    → row_from (soft_at filter (shape_of pictures) (map look_in pictures)) p bytes y ≡ bytes_made filter pictures p y
narrow_made filter pictures p y bytes narrow long = search (arith, narrow_width, bytes_of_narrow)

-- SAMPLES IN RANGE

all_bounded : (shape : Shape) (pictures : List Picture) → HaveShape shape pictures → All IsPicture pictures → AllBounded shape (map look_in pictures)
all_bounded shape [] alike are = bounds.none
all_bounded shape (picture ∷ pictures) alike are =
    let same : picture.shape ≡ shape = alike 0 picture (omega arith) in
    let is : IsPicture picture = are 0 picture (omega arith) in
    bounds.more (record { at = λ p x y. rw same at (is.bounded p x y) }) (all_bounded shape pictures (λ k d h. alike (suc k) d (omega arith)) (λ k d h. are (suc k) d (omega arith)))

-- no sample that a filter makes is over the largest one
pub soft_bounded : (filter : SoftOp) (pictures : List Picture) → CanSoften filter pictures → All IsPicture pictures → IsBounded (shape_of pictures) (soft_at filter (shape_of pictures) (map look_in pictures))
soft_bounded filter pictures can are =
    bounds.soft_bounded filter (shape_of pictures) (map look_in pictures) (length-map pictures look_in ∙ can.asked) (all_bounded (shape_of pictures) pictures can.alike are)

-- PLANES THAT STAY

either : (a b : Bool) → (a || b) ≡ true → (a ≡ true) ⊎ (b ≡ true)
either a b e = grind (arith, common_steps)

if_same : (test : Bool) (a b m : ℕ) → a ≡ m → b ≡ m → (if test then a else b) ≡ m
if_same test a b m e f = grind (arith, common_steps)

first_of : (test : Bool) (a b : ℕ) → test ≡ true → (if test then a else b) ≡ a
first_of test a b e = grind (arith, common_steps)

-- the mean of one sample
mean_of_one : (threshold m : ℕ) → softened 0 threshold m (m ∷ []) ≡ m
mean_of_one threshold m = grind (arith, common_steps)

one_stays : (radius threshold : ℕ) (pictures : List Picture) (p x y : ℕ) → radius ≡ 0 → length pictures ≡ 2 * radius + 1
    → softened radius threshold (look_at (map look_in pictures) radius p x y) (samples_at (map look_in pictures) p x y) ≡ look_in (get_or pictures (length pictures / 2) no_picture) p x y
one_stays radius threshold [] p x y e h = absurd (omega arith)
one_stays radius threshold (a ∷ []) p x y e h =
    ap (λ r. softened r threshold (look_at (look_in a ∷ []) r p x y) (look_in a p x y ∷ [])) e ∙ mean_of_one threshold (look_in a p x y)
one_stays radius threshold (a ∷ b ∷ more) p x y e h = absurd (omega arith)

middle_stays : (radius threshold s : ℕ) (pictures : List Picture) (p x y : ℕ) → threshold ≡ 0 → length pictures ≡ 2 * radius + 1
    → softened radius (threshold * s) (look_at (map look_in pictures) radius p x y) (samples_at (map look_in pictures) p x y) ≡ look_in (get_or pictures (length pictures / 2) no_picture) p x y
middle_stays radius threshold s pictures p x y e h = search (arith, first_of, eq-eqb, look_seen)

-- a plane that is kept shows the samples of the middle picture
pub kept_samples : (filter : SoftOp) (shape : Shape) (pictures : List Picture) (p : ℕ) → CanSoften filter pictures → keeps_plane filter p ≡ true
    → (x y : ℕ) → soft_at filter shape (map look_in pictures) p x y ≡ look_in (get_or pictures (length pictures / 2) no_picture) p x y
kept_samples filter shape pictures p can keeps x y = grind (arith, nat_tests, either, one_stays, eqb-true, middle_stays)

-- so it is that plane of the middle picture
pub kept_plane : (filter : SoftOp) (pictures : List Picture) (middle : Picture) (p : ℕ) → CanSoften filter pictures → keeps_plane filter p ≡ true → middle ≡ get_or pictures (length pictures / 2) middle
    → p < planes (shape_of pictures).kind → IsPlaneOf (shape_of pictures) (soft_at filter (shape_of pictures) (map look_in pictures)) p middle p
kept_plane filter pictures middle p can keeps is there = search (arith, some_pictures, shape_same, kept_samples, get_or_read)

-- SUMS

-- a row whose samples are those of the sums around them is listed
pub convolved_listed : (bias : ℤ) (matrix : Matrix) (pictures : List Picture) (one : Picture) (p y width : ℕ) (out : List ℕ) → length pictures ≡ 1 → one ≡ get_or pictures 0 one → length out ≡ width
    → ((x : ℕ) → x < length out → get_or out x 0 ≡ convolved bias matrix.entries one.shape (look_in one) p x y)
    → out ≡ row_from (soft_at (op.GeneralConvolution bias matrix) (shape_of pictures) (map look_in pictures)) p width y
convolved_listed bias matrix [] one p y width out count is long each = absurd (omega arith)
convolved_listed bias matrix (a ∷ []) one p y width out count is long each =
    row_listed out (soft_at (op.GeneralConvolution bias matrix) (shape_of (a ∷ [])) (map look_in (a ∷ []))) p width y long
    (λ x h. each x (rw long h) ∙ ap (λ (q : Picture). convolved bias matrix.entries q.shape (look_in q) p x y) is)
convolved_listed bias matrix (a ∷ b ∷ more) one p y width out count is long each = absurd (omega arith)
