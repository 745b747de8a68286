-- Parts of pictures.
use Rattle.std.proofs.Common.{◌≡◌, ℕ, ◌+◌, ◌-◌, ◌≤◌, [], ◌∷◌, true, false, None, refl, arith}
use Rattle.std.specs.Prelude.{ℤ, pos, ◌+ℤ◌, ◌-ℤ◌}
use Rattle.std.proofs.lemmas.Bool.Decides.{nat_tests}
use Rattle.std.proofs.lemmas.Int.{ints}
use Rattle.std.proofs.lemmas.Grind.{common_steps}
use Rattle.fv_plane.specs.declared.format.Shape.{Shape}
use Rattle.fv_plane.specs.Format.{IsWindow}
use Rattle.fv_plane.specs.Refusals.{Refusals, first_fault}
use Rattle.clip_term.specs.declared.fault.FilterFault.{FilterFault}
use Rattle.clip_term.specs.declared.op.SpaceOp.TheVariants.{Crop, CropBottom}
use Rattle.clip_term.specs.Refusals.{nat_of, below, above}
use Rattle.clip_term.specs.Space.{space_refusals, size_from, is_no_part, cut_refusals}
use Rattle.clip_term.proofs.PassedLemmas.{Passed, or_false}

-- where nothing is refused, no test is true
pub accepted : (refusals : Refusals FilterFault) → first_fault refusals ≡ None → Passed refusals
accepted [] e = tt
accepted ((fault, true) ∷ more) e = cc
accepted ((fault, false) ∷ more) e = (refl, accepted more e)

inside : (whole : ℕ) (start size : ℤ) → below start 0 ≡ false → below size 1 ≡ false → above (start +ℤ size) whole ≡ false → nat_of start + nat_of size ≤ whole
inside whole start size e f g = grind (arith, ints, nat_tests)

-- what is cut is a window
pub cut_window : (shape : Shape) (left top width height : ℤ) → below left 0 ≡ false → below top 0 ≡ false → Passed (cut_refusals shape left top width height)
    → IsWindow shape (record { x = nat_of left; y = nat_of top; width = nat_of width; height = nat_of height })
cut_window shape left top width height e f told = grind (arith, common_steps)

-- what `Crop` that is accepted cuts, and where
pub record IsCut (shape : Shape) (left top width height : ℤ) : Type 0 where
  pub from_left : below left 0 ≡ false
  pub from_top : below top 0 ≡ false
  pub wide : is_no_part shape.width left width ≡ false
  pub high : is_no_part shape.height top height ≡ false
  pub window : IsWindow shape (record { x = nat_of left; y = nat_of top; width = nat_of width; height = nat_of height })

pub crop_cuts : (shape : Shape) (left top width height : ℤ) → first_fault (space_refusals (Crop left top width height) shape) ≡ None
    → IsCut shape left top (size_from left width shape.width) (size_from top height shape.height)
crop_cuts shape left top width height e =
    let w = size_from left width shape.width in
    let h = size_from top height shape.height in
    let told = accepted (space_refusals (Crop left top width height) shape) e in
    let start = or_false (below left 0) (below top 0) told.0 in
    let parts = or_false (is_no_part shape.width left w) (is_no_part shape.height top h) told.1.0 in
    record { from_left = start.0; from_top = start.1; wide = parts.0; high = parts.1; window = cut_window shape left top w h start.0 start.1 told.1 }

rest_of : (whole : ℕ) (n : ℤ) → below n 0 ≡ false → below (pos whole -ℤ n) 1 ≡ false → nat_of (pos whole -ℤ n) ≡ whole - nat_of n
rest_of whole n e f = grind (arith, ints, nat_tests)

-- what `CropBottom` that is accepted leaves
pub bottom_cut : (shape : Shape) (n : ℤ) → first_fault (space_refusals (CropBottom n) shape) ≡ None → IsWindow shape (record { x = 0; y = 0; width = shape.width; height = shape.height - nat_of n })
bottom_cut shape n e = grind (arith, common_steps)
