-- Sums of weights.
use Rattle.std.proofs.Common.{◌≡◌, ℕ, ◌+◌, ◌<◌, List, length, get_or, drop, refl}
use Rattle.std.specs.Prelude.{ℤ, pos, ◌+ℤ◌, ◌*ℤ◌, ◌/◌, ◌%◌}
use Rattle.std.proofs.lemmas.List.{drop_more}
use Rattle.fv_plane.specs.declared.format.Shape.{Shape}
use Rattle.fv_plane.specs.Format.{plane_width, plane_height}
use Rattle.fv_plane.specs.Picture.{Look}
use Rattle.clip_term.specs.Soft.{place, total, weighed}

pub total_more : (entries : List ℤ) (i : ℕ) (d : ℤ) → i < length entries → total (drop i entries) ≡ get_or entries i d +ℤ total (drop (i + 1) entries)
total_more entries i d h = rw (drop_more entries i d h) refl

pub weighed_more : (side k : ℕ) (entries : List ℤ) (shape : Shape) (from : Look) (p x y : ℕ) (d : ℤ) → k < length entries
    → weighed side k (drop k entries) shape from p x y
    ≡ get_or entries k d *ℤ pos (from p (place x (k % side) (side / 2) (plane_width shape p)) (place y (k / side) (side / 2) (plane_height shape p)))
    +ℤ weighed side (k + 1) (drop (k + 1) entries) shape from p x y
weighed_more side k entries shape from p x y d h = rw (drop_more entries k d h) refl
