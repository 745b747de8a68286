use Rattle.std.proofs.Common.{w32, arith}
use Rattle.std.proofs.lemmas.Int.{to_z-of_z}
use Rattle.flt_space.proofs.borders.add_borders.Goals as goal

pub make_moved-requires-clause-legal : goal.make_moved-requires-clause-legal
make_moved-requires-clause-legal c = search (arith, to_z-of_z, w32)

pub returns : goal.returns
returns c =
    let a = to_z-of_z w32 c.args.left c.ranges.left in
    let b = to_z-of_z w32 c.args.top c.ranges.top in
    let d = to_z-of_z w32 c.args.right c.ranges.right in
    let e = to_z-of_z w32 c.args.bottom c.ranges.bottom in
    let f = to_z-of_z w32 c.args.color_yuv c.ranges.color_yuv in
    rw (a, b, d, e, f) at c.make_moved.ensures
