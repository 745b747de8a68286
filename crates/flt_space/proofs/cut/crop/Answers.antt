use Rattle.std.proofs.Common.{w32, arith}
use Rattle.std.proofs.lemmas.Int.{to_z-of_z}
use Rattle.flt_space.proofs.CutLemmas.{crop_cuts}
use Rattle.flt_space.proofs.cut.crop.Goals as goal

pub size_from-requires-clause-start : goal.size_from-requires-clause-start
size_from-requires-clause-start c = search (arith, crop_cuts, to_z-of_z, w32)

pub size_from-requires-clause-part : goal.size_from-requires-clause-part
size_from-requires-clause-part c = search (arith, crop_cuts, to_z-of_z, w32)

pub size_from-requires-2-clause-start : goal.size_from-requires-2-clause-start
size_from-requires-2-clause-start c = search (arith, crop_cuts, to_z-of_z, w32)

pub size_from-requires-2-clause-part : goal.size_from-requires-2-clause-part
size_from-requires-2-clause-part c = search (arith, crop_cuts, to_z-of_z, w32)

pub window-requires : goal.window-requires
window-requires c = search (arith, crop_cuts, to_z-of_z, w32)

pub returns : goal.returns
returns c =
    let a = to_z-of_z w32 c.args.left c.ranges.left in
    let b = to_z-of_z w32 c.args.top c.ranges.top in
    let d = to_z-of_z w32 c.args.width c.ranges.width in
    let e = to_z-of_z w32 c.args.height c.ranges.height in
    rw (c.unsigned_abs.ensures.value, c.unsigned_abs-2.ensures.value, c.size_from.ensures, c.size_from-2.ensures, c.shape-shape.ensures.shape, a, b, d, e) at c.window.ensures
