-- Means of the samples at a place.
use Rattle.std.proofs.Common.{◌≡◌, ℕ, ◌+◌, ◌-◌, ◌*◌, ◌/◌, ◌<◌, ◌≤◌, ◌∙◌, List, [], ◌∷◌, length, map, get_or, take, refl, ap, arith, Bool, false}
use Rattle.std.specs.Prelude.{ℤ, pos, ◌≤ℤ◌, Some, None, if◌then◌else◌, ◌==◌}
use Rattle.std.specs.List.{sum}
use Rattle.std.proofs.lemmas.List.{get_or-map, length-map}
use Rattle.std.proofs.lemmas.Nat.{pow_pos}
use Rattle.std.proofs.lemmas.Bool.Decides.{nat_tests}
use Rattle.std.proofs.lemmas.List.Sums.{sum_by_more}
use Rattle.std.proofs.lemmas.Grind.{common_steps}
use Rattle.fv_plane.specs.declared.format.Shape.{Shape}
use Rattle.fv_plane.specs.Format.{plane_width, scale}
use Rattle.fv_plane.specs.Picture.{Picture, Look, look_in, look_at, nothing}
use Rattle.fv_plane.proofs.FillLemmas.{row_listed}
use Rattle.clip_term.specs.declared.op.SoftOp.TheVariants.{TemporalSoften}
use Rattle.clip_term.specs.declared.fault.FilterFault.{FilterFault}
use Rattle.clip_term.specs.Refusals.{beyond, nat_of}
use Rattle.clip_term.specs.Soft.{near, softened, samples_at, soft_at}
use Rattle.clip_term.specs.Terms.{no_picture}
use Rattle.flt_soft.specs.Pictures.{keeps_plane, means_at, row_in, row_made, row_of_means, shape_of}

-- what a picture shows is in its row
pub look_seen : (pictures : List Picture) (i p x y : ℕ) → i < length pictures → look_at (map look_in pictures) i p x y ≡ get_or (row_in pictures i p y) x 0
look_seen pictures i p x y h = ap (λ (l : Look). l p x y) (get_or-map look_in pictures i no_picture nothing h)

-- the samples that count at a place
abbrev pub nears : ℕ → ℕ → List Picture → ℕ → ℕ → ℕ → List ℕ
nears threshold middle pictures p x y = map (near threshold middle) (samples_at (map look_in pictures) p x y)

pub length-nears : (threshold middle : ℕ) (pictures : List Picture) (p x y : ℕ) → length (nears threshold middle pictures p x y) ≡ length pictures
length-nears threshold middle pictures p x y = simp length-map

-- one more counts
pub near_more : (threshold middle : ℕ) (pictures : List Picture) (i p x y : ℕ) → i < length pictures
    → sum (take (i + 1) (nears threshold middle pictures p x y)) ≡ sum (take i (nears threshold middle pictures p x y)) + near threshold middle (get_or (row_in pictures i p y) x 0)
near_more threshold middle pictures i p x y h =
    let all = nears threshold middle pictures p x y in
    let looks : List Look = map look_in pictures in
    let there : i < length all = rw (length-nears threshold middle pictures p x y) h in
    let seen : get_or all i 0 ≡ near threshold middle (get_or (row_in pictures i p y) x 0)
    = get_or-map (near threshold middle) (samples_at looks p x y) i 0 0 (simp length-map h)
    ∙ ap (near threshold middle) (get_or-map (λ (l : Look). l p x y) looks i nothing 0 (simp length-map h) ∙ look_seen pictures i p x y h) in
    sum_by_more (λ n. n) all i 0 there ∙ ap (λ n. sum (take i all) + n) seen

not_zero : (t : ℕ) → 0 < t → (t == 0) ≡ false
not_zero t h = grind (arith, nat_tests)

second_of : (test : Bool) (a b : ℕ) → test ≡ false → (if test then a else b) ≡ b
second_of test a b e = grind (arith, common_steps)

-- where the samples of all rows were added, and the sum is divided, the mean is there
pub many_is : (count threshold : ℕ) (pictures : List Picture) (i p x y total made : ℕ) → 0 < threshold → count ≡ 2 * (length pictures / 2) + 1 → length pictures ≤ i
    → total ≡ sum (take i (nears threshold (look_at (map look_in pictures) (length pictures / 2) p x y) pictures p x y))
    → made ≡ (total + count / 2) / count → made ≡ means_at pictures threshold p x y
many_is count threshold pictures i p x y total made some odd all added divided = grind (arith, common_steps)

some_product : (n m : ℕ) → 0 < n → 0 < m → 0 < n * m
some_product n m some more = grind arith

threshold_is : (luma_only : Bool) (luma chroma s : ℕ) → nat_of (if luma_only then pos luma else pos chroma) * s ≡ (if luma_only then luma else chroma) * s
threshold_is luma_only luma chroma s = grind (arith, common_steps)

-- a threshold that is not 0 stays so for samples of more bits
pub some_scaled : (shape : Shape) (n : ℕ) → 0 < n → 0 < n * scale shape
some_scaled shape n some = let one : 0 < scale shape = pow_pos (shape.bits - 8) in some_product n (scale shape) some one

some_by : (luma_only : Bool) (luma chroma : ℕ) → (nat_of (if luma_only then pos luma else pos chroma) == 0) ≡ false → 0 < (if luma_only then luma else chroma)
some_by luma_only luma chroma other = grind (arith, common_steps)

-- a plane that isn't kept has a threshold
pub some_threshold : (radius luma chroma p : ℕ) → keeps_plane (TemporalSoften (pos radius) (pos luma) (pos chroma)) p ≡ false → 0 < (if p == 0 then luma else chroma)
some_threshold radius luma chroma p changed = grind (arith, common_steps)

-- the definition at these numbers
soft_is : (radius luma chroma threshold : ℕ) (shape : Shape) (looks : List Look) (p x y : ℕ) → threshold ≡ (if p == 0 then luma else chroma) * scale shape
    → soft_at (TemporalSoften (pos radius) (pos luma) (pos chroma)) shape looks p x y ≡ softened radius threshold (look_at looks radius p x y) (samples_at looks p x y)
soft_is radius luma chroma threshold shape looks p x y is = grind (arith, common_steps)

map_same : (f g : ℕ → ℕ) (ns : List ℕ) → ((n : ℕ) → f n ≡ g n) → map f ns ≡ map g ns
map_same f g [] each = refl
map_same f g (n ∷ ns) each = ap (λ k. k ∷ map f ns) (each n) ∙ ap (λ l. g n ∷ l) (map_same f g ns each)

-- the means are what the filter is defined to make
pub means_made : (radius luma chroma threshold : ℕ) (pictures : List Picture) (p y : ℕ) → length pictures ≡ 2 * radius + 1 → threshold ≡ (if p == 0 then luma else chroma) * scale (shape_of pictures)
    → row_of_means pictures threshold p y ≡ row_made (TemporalSoften (pos radius) (pos luma) (pos chroma)) pictures p y
means_made radius luma chroma threshold pictures p y count is = search (arith, map_same, soft_is)

-- a row whose samples are these means is listed
pub means_listed : (pictures : List Picture) (threshold p y : ℕ) (out : List ℕ) → length out ≡ plane_width (shape_of pictures) p → ((x : ℕ) → x < length out → get_or out x 0 ≡ means_at pictures threshold p x y)
    → out ≡ row_of_means pictures threshold p y
means_listed pictures threshold p y out long each = search (arith, row_listed)

-- a sample of the mean of three rows
pub three_is : (threshold : ℕ) (pictures : List Picture) (p x y : ℕ) (a b c : List ℕ) → length pictures ≡ 3 → a ≡ row_in pictures 0 p y → b ≡ row_in pictures 1 p y → c ≡ row_in pictures 2 p y
    → softened 1 threshold (get_or b x 0) (get_or a x 0 ∷ get_or b x 0 ∷ get_or c x 0 ∷ []) ≡ softened 1 threshold (look_at (map look_in pictures) 1 p x y) (samples_at (map look_in pictures) p x y)
three_is threshold pictures p x y a b c count a_is b_is c_is = grind (arith, common_steps)

-- ARGUMENTS

in_bounds : (z : ℤ) (n : ℕ) → beyond z n ≡ false → (pos 0 ≤ℤ z) × (z ≤ℤ pos n)
in_bounds z n e = grind (arith, common_steps)

no_fault : (test : Bool) (fault : FilterFault) → (if test then Some fault else None) ≡ None → test ≡ false
no_fault test fault e = grind (arith, common_steps)

-- arguments that aren't refused are within their bounds
pub record AreTold (r l c : ℤ) : Type 0 where
  pub radius : (pos 0 ≤ℤ r) × (r ≤ℤ pos 7)
  pub luma : (pos 0 ≤ℤ l) × (l ≤ℤ pos 255)
  pub chroma : (pos 0 ≤ℤ c) × (c ≤ℤ pos 255)
