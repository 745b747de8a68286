-- The rows before were put, and a prefix of this one.
use Rattle.std.proofs.Common.{◌≡◌, ◌<◌, ◌∙◌, ℕ, List, [], length, get_or, sym, ap, arith}
use Rattle.fv_plane.specs.Picture.{bytes_of_row}
use Rattle.fv_plane.specs.Format.{plane_height}
use Rattle.fv_plane.proofs.CallerLemmas.{length-plane}
use Rattle.y4m_stream.proofs.PutLemmas.{put_cut, one_more, on_err}
use Rattle.y4m_stream.proofs.frame_writing.write_long_rows.Goals as goal

pub returns-in_err-put-clause-cut : goal.returns-in_err-put-clause-cut
returns-in_err-put-clause-cut g c =
    let shape = c.args.frame.now.shape in
    let rows : List (List ℕ) = get_or c.args.frame.now.planes c.args.plane [] in
    let height : c.plane_height-y-end.result ≡ plane_height shape c.args.plane = c.plane_height-y-end.ensures ∙ ap (λ s. plane_height s c.args.plane) c.shape.ensures.shape in
    let within : c.loop-y.y < length rows = omega (arith, c.loop-y-test.true, height, length-plane c.args.frame.now c.args.plane c.shape.ensures.sizes c.requires) in
    let one = one_more (bytes_of_row shape) rows c.loop-y.y [] within in
    on_err c.from_residual.result (put_cut (bytes_of_row shape) rows c.loop-y.y 1 _ _ _ c.loop-y.invariant.put (rw (one, sym c.row.ensures.row) c.in_err-put.ensures.cut))
