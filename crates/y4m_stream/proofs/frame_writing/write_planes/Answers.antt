-- The planes before were put, and a prefix of this one.
use Rattle.std.proofs.Common.{◌<◌, ℕ, List, [], length, rules}
use Rattle.fv_plane.specs.Picture.{bytes_of_rows}
use Rattle.y4m_stream.proofs.PutLemmas.{put_cut, one_more, on_err}
use Rattle.y4m_stream.proofs.frame_writing.write_planes.Goals as goal

pub returns-in_err-write_plane-clause-cut : goal.returns-in_err-write_plane-clause-cut
returns-in_err-write_plane-clause-cut g c =
    let all : List (List (List ℕ)) = c.args.frame.now.planes in
    let text = bytes_of_rows c.args.frame.now.shape in
    let size = c.shape.ensures.sizes in
    let within : c.loop-plane.plane < length all = search rules in
    on_err c.from_residual.result
    (put_cut text all c.loop-plane.plane 1 _ _ _ c.loop-plane.invariant.put (rw (one_more text all c.loop-plane.plane [] within) c.in_err-write_plane.ensures.cut))
