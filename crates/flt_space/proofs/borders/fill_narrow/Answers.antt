use Rattle.std.proofs.Common.{◌≡◌, ◌∙◌, ◌+◌, ◌-◌, length, take, drop, ap, arith}
use Rattle.fv_plane.specs.Picture.{row_of}
use Rattle.fv_plane.proofs.CallerLemmas.{bytes_of_narrow}
use Rattle.flt_space.specs.Rows.{padded}
use Rattle.flt_turn.proofs.PartLemmas.{narrow_bytes}
use Rattle.flt_space.proofs.borders.fill_narrow.Goals as goal

pub slice_bounds-pad_row-end : goal.slice_bounds-pad_row-end
slice_bounds-pad_row-end c = omega (arith, c.row-row.ensures.whole, narrow_bytes c.args.input.now.shape c.args.plane c.requires.narrow, c.requires.fits.part)

pub returns : goal.returns
returns c =
    let plan = c.args.plan in
    let input = c.args.input.now in
    let row : c.row-row.result.now ≡ row_of input.planes c.args.plane plan.row = c.row-row.ensures.row ∙ bytes_of_narrow input.shape (row_of input.planes c.args.plane plan.row) c.requires.narrow in
    let count : plan.from + plan.count - plan.from ≡ plan.count = omega arith in
    c.pad_row.ensures ∙ ap (λ n. padded plan.before c.args.colour (take n (drop plan.from c.row-row.result.now)) (length c.args.out.now)) count
    ∙ ap (λ l. padded plan.before c.args.colour (take plan.count (drop plan.from l)) (length c.args.out.now)) row
