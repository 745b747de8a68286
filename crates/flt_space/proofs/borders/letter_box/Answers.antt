use Rattle.std.proofs.Common.{w32}
use Rattle.std.proofs.lemmas.Int.{to_z-of_z}
use Rattle.flt_space.proofs.borders.letter_box.Goals as goal

pub returns : goal.returns
returns c =
    let a = to_z-of_z w32 c.args.top c.ranges.top in
    let b = to_z-of_z w32 c.args.bottom c.ranges.bottom in
    let d = to_z-of_z w32 c.args.x1 c.ranges.x1 in
    let e = to_z-of_z w32 c.args.x2 c.ranges.x2 in
    let f = to_z-of_z w32 c.args.color_yuv c.ranges.color_yuv in
    rw (a, b, d, e, f) at c.make_moved.ensures
