use Rattle.std.proofs.lemmas.Grind.{common_steps}
use Rattle.std.proofs.Common.{w32, ◌≡◌, arith}
use Rattle.std.proofs.lemmas.Int.{ints}
use mir.Val.{to_z, of_z}
use Rattle.flt_space.proofs.make.make_space_in.Goals as goal

pub returns-in-Crop : goal.returns-in-Crop
returns-in-Crop c =
    let op = c.in-Crop in
    let a : to_z w32 (of_z w32 op.left) ≡ op.left = omega (arith, ints) in
    let b : to_z w32 (of_z w32 op.top) ≡ op.top = omega (arith, ints) in
    let d : to_z w32 (of_z w32 op.width) ≡ op.width = omega (arith, ints) in
    let e : to_z w32 (of_z w32 op.height) ≡ op.height = omega (arith, ints) in
    rw op.is (rw (a, b, d, e) at c.crop.ensures)

pub returns-in-AddBorders : goal.returns-in-AddBorders
returns-in-AddBorders c =
    let op = c.in-AddBorders in
    let a : to_z w32 (of_z w32 op.left) ≡ op.left = omega (arith, ints) in
    let b : to_z w32 (of_z w32 op.top) ≡ op.top = omega (arith, ints) in
    let d : to_z w32 (of_z w32 op.right) ≡ op.right = omega (arith, ints) in
    let e : to_z w32 (of_z w32 op.bottom) ≡ op.bottom = omega (arith, ints) in
    let f : to_z w32 (of_z w32 op.color_yuv) ≡ op.color_yuv = omega (arith, ints) in
    rw op.is (rw (a, b, d, e, f) at c.add_borders.ensures)

pub returns-in-LetterBox : goal.returns-in-LetterBox
returns-in-LetterBox c =
    let op = c.in-LetterBox in
    let a : to_z w32 (of_z w32 op.top) ≡ op.top = omega (arith, ints) in
    let b : to_z w32 (of_z w32 op.bottom) ≡ op.bottom = omega (arith, ints) in
    let d : to_z w32 (of_z w32 op.x1) ≡ op.x1 = omega (arith, ints) in
    let e : to_z w32 (of_z w32 op.x2) ≡ op.x2 = omega (arith, ints) in
    let f : to_z w32 (of_z w32 op.color_yuv) ≡ op.color_yuv = omega (arith, ints) in
    rw op.is (rw (a, b, d, e, f) at c.letter_box.ensures)

pub returns-in-Limiter : goal.returns-in-Limiter
returns-in-Limiter c = grind (arith, common_steps)
