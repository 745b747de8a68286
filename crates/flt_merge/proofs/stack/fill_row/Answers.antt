use Rattle.std.proofs.Common.{arith, ◌≡◌, ◌≤◌, ◌∙◌, ◌++◌, ◌+◌, ◌-◌, ap, take, length, length-append, List, ℕ}
use Rattle.std.proofs.lemmas.Slice.{take-put_mid}
use Rattle.fv_plane.specs.Picture.{Picture, row_of, bytes_of_row}
use Rattle.flt_merge.specs.Rows.{bytes_beside}
use Rattle.flt_merge.proofs.StackLemmas.{row_more, row_fits, length-put_mid}
use Rattle.flt_merge.proofs.stack.fill_row.Goals as goal

pub slice_bounds-copy_from_slice-end : goal.slice_bounds-copy_from_slice-end
slice_bounds-copy_from_slice-end c =
    let one = c.index-inputs-i.result in
    let row : length c.row-part.result.now ≡ length (bytes_of_row one.shape (row_of one.planes c.args.plane c.args.y)) = ap length c.row-part.ensures.row in
    omega (arith, row, c.loop-i.invariant.long, c.loop-i.invariant.left, row_fits (λ q. bytes_of_row q.shape (row_of q.planes c.args.plane c.args.y)) c.args.inputs.now c.loop-i.i one c.loop-i-test.true c.index-inputs-i.is)

pub loop-i-preserved : goal.loop-i-preserved
loop-i-preserved c =
    let one = c.index-inputs-i.result in
    let p = c.args.plane in
    let y = c.args.y in
    let i = c.loop-i.i in
    let bytes : Picture → List ℕ = λ q. bytes_of_row q.shape (row_of q.planes p y) in
    let part = c.row-part.result.now in
    let row : length part ≡ length (bytes_of_row one.shape (row_of one.planes p y)) = ap length c.row-part.ensures.row in
    let fits = row_fits bytes c.args.inputs.now i one c.loop-i-test.true c.index-inputs-i.is in
    let more = row_more bytes c.args.inputs.now i one c.loop-i-test.true c.index-inputs-i.is in
    let ends : c.loop-i.left ≤ length c.loop-i.row = omega (arith, row, c.loop-i.invariant.long, c.loop-i.invariant.left, fits) in
    record {
      long = rw c.copy_from_slice.ensures.after (length-put_mid c.loop-i.left (c.loop-i.left + length part - c.loop-i.left) c.loop-i.row part (omega arith) (omega (arith, row, c.loop-i.invariant.long, c.loop-i.invariant.left, fits))) ∙ c.loop-i.invariant.long;
      left = rw (more, length-append) (omega (arith, row, c.loop-i.invariant.left));
      done = rw (more, c.copy_from_slice.ensures.after) (take-put_mid c.loop-i.left (c.loop-i.left + length part - c.loop-i.left) c.loop-i.row part (c.loop-i.left + length part) (omega arith) ends
          ∙ ap (λ l. l ++ part) c.loop-i.invariant.done ∙ ap (λ l. bytes_beside (take i c.args.inputs.now) p y ++ l) c.row-part.ensures.row);
    }
