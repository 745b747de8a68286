-- Rows that are put are those that are listed.
use Rattle.std.proofs.Common.{◌≡◌, ℕ, ◌*◌, ◌<◌, List, length, get_or, refl, sym, ◌∙◌, ap, arith, Bool, true, false, if◌then◌else◌, ◌==◌}
use Rattle.std.specs.Simd.Lanes.{zip2}
use Rattle.std.proofs.lemmas.List.{ext_get_or}
use Rattle.std.proofs.lemmas.Simd.{length-zip2, get_or-zip2}
use Rattle.std.proofs.lemmas.Grind.{common_steps}
use Rattle.fv_plane.specs.declared.format.PixelType.{PixelType}
use Rattle.fv_plane.specs.declared.format.Shape.{Shape}
use Rattle.fv_plane.specs.Picture.{wide_samples, bytes_of_row, row_of_bytes, Picture, IsPicture, row_of}
use Rattle.fv_plane.specs.Format.{HasSamePlane, planes, plane_width, plane_height}
use Rattle.fv_plane.specs.Made.{bytes_made}
use Rattle.fv_plane.proofs.FillLemmas.{Lists, row_listed}
use Rattle.fv_plane.proofs.CallerLemmas.{length-row, row_again}
use Rattle.fv_plane.proofs.WideLemmas.{pair, length-wide_samples, wide_samples-at}
use Rattle.flt_merge.specs.Rows.{one_of_two, rows_of_two, look_of_two, one_of_three, rows_of_luma, look_of_luma, mean, rows_of_means, look_of_means}
use Rattle.fv_plane.proofs.WholePlaneLemmas.{row_seen}

-- PLANES

pub some_planes : (kind : PixelType) → 0 < planes kind
some_planes kind = grind (arith, common_steps)

-- a picture of the same shape has the same planes
pub same_plane : (a b : Shape) (p : ℕ) → b ≡ a → HasSamePlane a p b p
same_plane a b p same = rw same (record { width = refl; height = refl; bits = refl })

-- what is true of two pictures is true of the one that is chosen
pub chosen : (P : Picture → Type 0) (first : Bool) (a b : Picture) → P a → P b → P (if first then a else b)
chosen P true a b x y = x
chosen P false a b x y = y

pub two_listed : (luma chroma : Picture) → IsPicture luma → IsPicture chroma → chroma.shape ≡ luma.shape → Lists (rows_of_two luma chroma) luma.shape (look_of_two luma chroma)
two_listed luma chroma a b same p z there inside =
    let is = chosen (λ one. IsPicture one) (p == 0) luma chroma a b in
    let shape : (one_of_two luma chroma p).shape ≡ luma.shape = chosen (λ one. one.shape ≡ luma.shape) (p == 0) luma chroma refl same in
    row_seen (one_of_two luma chroma p) p (look_of_two luma chroma) p (plane_width luma.shape p) z is (rw shape there) (rw shape inside) (ap (λ (s : Shape). plane_width s p) shape) (λ x. refl)

-- each plane has the size of the luma that it is
pub three_same : (shape : Shape) (y u v : Picture) → HasSamePlane shape 0 y.shape 0 → HasSamePlane shape 1 u.shape 0 → HasSamePlane shape 2 v.shape 0 → (p : ℕ)
    → HasSamePlane shape p (one_of_three y u v p).shape 0
three_same shape y u v a b d p = grind (arith, common_steps)

three_pictures : (y u v : Picture) → IsPicture y → IsPicture u → IsPicture v → (p : ℕ) → IsPicture (one_of_three y u v p)
three_pictures y u v a b d p = chosen (λ one. IsPicture one) (p == 0) y (if p == 1 then u else v) a (chosen (λ one. IsPicture one) (p == 1) u v b d)

pub three_listed : (shape : Shape) (y u v : Picture) → IsPicture y → IsPicture u → IsPicture v → HasSamePlane shape 0 y.shape 0 → HasSamePlane shape 1 u.shape 0 → HasSamePlane shape 2 v.shape 0
    → Lists (rows_of_luma y u v) shape (look_of_luma y u v)
three_listed shape y u v is_y is_u is_v a b d p z there inside = search (arith, three_same, row_seen, three_pictures, some_planes)

-- MEANS

-- rows of equal length, sample by sample
pub means_are : (a b out : List ℕ) → length a ≡ length out → length b ≡ length out → ((k : ℕ) → k < length out → get_or out k 0 ≡ mean (get_or a k 0) (get_or b k 0)) → out ≡ zip2 mean a b
means_are a b out long_a long_b each =
    ext_get_or 0 out (zip2 mean a b) (sym (length-zip2 mean a b (long_a ∙ sym long_b) ∙ long_a)) (λ i h. each i h ∙ sym (get_or-zip2 mean a b i 0 0 0 (omega arith) (omega arith)))

pub wide_means_are : (a b out : List ℕ) → length a ≡ length out * 2 → length b ≡ length out * 2 → ((k : ℕ) → k < length out → get_or out k 0 ≡ mean (pair a k) (pair b k))
    → out ≡ zip2 mean (wide_samples a) (wide_samples b)
wide_means_are a b out long_a long_b each =
    means_are (wide_samples a) (wide_samples b) out (length-wide_samples (length out) a long_a) (length-wide_samples (length out) b long_b)
    (λ k within. each k within ∙ sym (ap (λ s. mean s (get_or (wide_samples b) k 0)) (wide_samples-at a k (omega arith)) ∙ ap (λ s. mean (pair a k) s) (wide_samples-at b k (omega arith))))

pub means_listed : (a b : Picture) → IsPicture a → IsPicture b → b.shape ≡ a.shape → Lists (rows_of_means a b) a.shape (look_of_means a b)
means_listed a b is_a is_b same p z there inside = search (arith, length-row, row_listed, length-zip2, get_or-zip2)

-- the bytes of the means of two rows are those of the row that is listed
pub means_put : (a b : Picture) (shape : Shape) (p y : ℕ) (first second out : List ℕ) → IsPicture a → IsPicture b → shape ≡ a.shape → b.shape ≡ a.shape → p < planes a.shape.kind → y < plane_height a.shape p
    → first ≡ bytes_of_row a.shape (row_of a.planes p y) → second ≡ bytes_of_row b.shape (row_of b.planes p y)
    → out ≡ bytes_of_row shape (zip2 mean (row_of_bytes shape first) (row_of_bytes shape second)) → out ≡ bytes_made a.shape (look_of_means a b) p y
means_put a b shape p y first second out is_a is_b is agree there inside row_a row_b put = search (arith, row_again, means_listed)
