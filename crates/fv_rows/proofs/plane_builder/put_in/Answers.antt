use Rattle.std.proofs.Common.{◌≡◌, ◌*◌, ◌+◌, ◌-◌, ℕ, arith}
use Rattle.fv_rows.proofs.RowLemmas.{put-rows_of, times_le, times_add}
use Rattle.fv_rows.proofs.plane_builder.put_in.Goals as goal

pub slice_bounds-copy_from_slice-end : goal.slice_bounds-copy_from_slice-end
slice_bounds-copy_from_slice-end c =
    omega (arith, times_le (c.args.y + c.args.count) c.args.height c.args.width c.requires.inside, times_add c.args.y c.args.count c.args.width)

pub returns : goal.returns
returns c =
    let at : ℕ = c.args.y * c.args.width in
    let size : at + c.args.count * c.args.width - at ≡ c.args.count * c.args.width = omega arith in
    rw (size, c.copy_from_slice.ensures.after)
    (put-rows_of c.args.bytes.now c.args.rows.now c.args.width c.args.height c.args.y c.args.count c.requires.inside c.requires.rows (omega arith))
