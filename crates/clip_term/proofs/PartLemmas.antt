-- Sizes on planes: one on chroma is a part of one on luma.
use Rattle.std.proofs.Common.{◌≡◌, ℕ, ◌+◌, ◌*◌, ◌/◌, ◌%◌, ◌<◌, ◌≤◌, arith, Bool}
use Rattle.std.specs.Prelude.{if◌then◌else◌}
use Rattle.std.proofs.lemmas.Grind.{common_steps}
use Rattle.fv_plane.specs.declared.format.PixelType.{PixelType}
use Rattle.fv_plane.specs.declared.format.PixelType.TheVariants.{Y8, YV12, YV16, YV24, YV411}
use Rattle.fv_plane.specs.Format.{planes, sub_w, sub_h}

-- how many columns or rows of luma stand for one of chroma
pub data IsRatio : ℕ → Type 0 where
  same : IsRatio 1
  half : IsRatio 2
  quarter : IsRatio 4

pub across_ratio : (k : PixelType) → IsRatio (sub_w k)
across_ratio Y8 = same
across_ratio YV12 = half
across_ratio YV16 = half
across_ratio YV24 = same
across_ratio YV411 = quarter

pub down_ratio : (k : PixelType) → IsRatio (sub_h k)
down_ratio Y8 = same
down_ratio YV12 = half
down_ratio YV16 = same
down_ratio YV24 = same
down_ratio YV411 = same

-- an offset and a size that fit on luma fit on each plane
pub part_fits : (b : Bool) {s : ℕ} → IsRatio s → (x l w W : ℕ) → x < (if b then w else w / s) → l + w ≤ W → x + (if b then l else l / s) < (if b then W else W / s)
part_fits b is x l w W h g = grind (arith, common_steps)

pub whole_sum : {s : ℕ} → IsRatio s → (a b : ℕ) → a % s ≡ 0 → b % s ≡ 0 → (a + b) % s ≡ 0
whole_sum same a b e f = omega arith
whole_sum _ a b e f = omega arith

pub whole_part : {s : ℕ} → IsRatio s → (w : ℕ) → 0 < w → w % s ≡ 0 → 0 < w / s
whole_part same w h e = omega arith
whole_part _ w h e = omega arith

-- a whole multiple, and a place on one of its parts
pub multiple : {s : ℕ} → IsRatio s → (w u : ℕ) → w ≡ u * s → (w % s ≡ 0) × (w / s ≡ u)
multiple same w u e = (omega arith, omega arith)
multiple _ w u e = (omega arith, omega arith)

-- a picture has luma
pub some_planes : (k : PixelType) → 0 < planes k
some_planes k = grind (arith, common_steps)
