use Rattle.std.proofs.Common.{◌≡◌, arith, w32}
use Rattle.std.proofs.lemmas.Int.{ints}
use Rattle.clip_check.proofs.space.space_sides.Goals as goal
use mir.Val.{to_z, of_z}

pub returns-in-Crop-clause-sides : goal.returns-in-Crop-clause-sides
returns-in-Crop-clause-sides c =
    let op = c.in-Crop in
    let left : to_z w32 (of_z w32 op.left) ≡ op.left = omega (arith, ints) in
    let top : to_z w32 (of_z w32 op.top) ≡ op.top = omega (arith, ints) in
    let width : to_z w32 (of_z w32 op.width) ≡ op.width = omega (arith, ints) in
    let height : to_z w32 (of_z w32 op.height) ≡ op.height = omega (arith, ints) in
    rw op.is (rw (left, top, width, height) at c.cropped.ensures.sides)

pub returns-in-AddBorders-clause-sides : goal.returns-in-AddBorders-clause-sides
returns-in-AddBorders-clause-sides c =
    let op = c.in-AddBorders in
    let left : to_z w32 (of_z w32 op.left) ≡ op.left = omega (arith, ints) in
    let top : to_z w32 (of_z w32 op.top) ≡ op.top = omega (arith, ints) in
    let right : to_z w32 (of_z w32 op.right) ≡ op.right = omega (arith, ints) in
    let bottom : to_z w32 (of_z w32 op.bottom) ≡ op.bottom = omega (arith, ints) in
    rw op.is (rw (left, top, right, bottom) at c.bordered.ensures.sides)

pub returns-in-LetterBox-clause-sides : goal.returns-in-LetterBox-clause-sides
returns-in-LetterBox-clause-sides c = rw c.in-LetterBox.is (rw c.sides_of.ensures at c.unless.ensures.sides)
