use Rattle.std.proofs.Common.{w32}
use Rattle.std.proofs.lemmas.Int.{to_z-of_z}
use Rattle.flt_space.proofs.adjust.limiter.Goals as goal

pub returns : goal.returns
returns c =
    let a = to_z-of_z w32 c.args.min_luma c.ranges.min_luma in
    let b = to_z-of_z w32 c.args.max_luma c.ranges.max_luma in
    let d = to_z-of_z w32 c.args.min_chroma c.ranges.min_chroma in
    let e = to_z-of_z w32 c.args.max_chroma c.ranges.max_chroma in
    rw (a, b, d, e) at c.make_by_rows.ensures
