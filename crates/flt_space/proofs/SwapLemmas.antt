-- Planes of chroma exchanged.
use Rattle.std.proofs.Common.{ℕ, ◌<◌, arith}
use Rattle.std.proofs.lemmas.Grind.{common_steps}
use Rattle.fv_plane.specs.declared.format.PixelType.{PixelType}
use Rattle.fv_plane.specs.declared.format.Shape.{Shape}
use Rattle.fv_plane.specs.Format.{planes, HasSamePlane}
use Rattle.clip_term.specs.Space.{swapped}

-- the other plane is there
pub swapped_there : (kind : PixelType) (p : ℕ) → p < planes kind → swapped p < planes kind
swapped_there kind p h = grind (arith, common_steps)

same_among : (shape : Shape) (p : ℕ) → p < 3 → HasSamePlane shape p shape (swapped p)
same_among shape p h = grind (arith, common_steps)

few : (kind : PixelType) (p : ℕ) → p < planes kind → p < 3
few kind p h = grind (arith, common_steps)

-- and has the same sizes
pub swapped_same : (shape : Shape) (p : ℕ) → p < planes shape.kind → HasSamePlane shape p shape (swapped p)
swapped_same shape p h = same_among shape p (few shape.kind p h)
