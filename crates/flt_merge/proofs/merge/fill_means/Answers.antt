use Rattle.std.proofs.Common.{◌≡◌, ℕ, ◌==◌, ◌*◌, ap, false, ne_eqb, arith}
use Rattle.fv_plane.proofs.CallerLemmas.{bytes_of_narrow, bytes_of_wide, narrow_of_bytes, wide_of_bytes, two_bytes}
use Rattle.fv_plane.specs.declared.format.Shape.{Shape}
use Rattle.fv_plane.specs.Format.{plane_width, row_bytes}
use Rattle.flt_merge.proofs.merge.fill_means.Goals as goal

-- a row of samples of two bytes has twice as many bytes
twice : (shape : Shape) (p : ℕ) → (shape.bits == 8) ≡ false → row_bytes shape p ≡ plane_width shape p * 2
twice shape p wide = ap (λ n. plane_width shape p * n) (two_bytes shape wide)

pub returns-then-shape-eq8 : goal.returns-then-shape-eq8
returns-then-shape-eq8 c = search (arith, narrow_of_bytes, bytes_of_narrow)

pub returns-else-shape-eq8 : goal.returns-else-shape-eq8
returns-else-shape-eq8 c = search (arith, ne_eqb, wide_of_bytes, bytes_of_wide)
