-- A prefix of the line, or the line and a prefix of the planes.
use Rattle.std.proofs.lemmas.Result.{on_err_weaker}
use Rattle.fv_io.proofs.CallerLemmas.{gets_more, gets_after}
use Rattle.fv_plane.specs.Picture.{bytes_of}
use Rattle.y4m_stream.proofs.PutLemmas.{on_err}
use Rattle.y4m_stream.proofs.frame_writing.write_after.Goals as goal

pub returns-in_err-put-clause-cut : goal.returns-in_err-put-clause-cut
returns-in_err-put-clause-cut g c = on_err c.from_residual.result (gets_more _ _ c.args.line.now (bytes_of c.args.frame.now) c.in_err-put.ensures.cut)

pub returns-clause-cut : goal.returns-clause-cut
returns-clause-cut g c = on_err_weaker c.write_planes.result (gets_after _ _ _ c.args.line.now (bytes_of c.args.frame.now) c.in_ok-put.ensures.put) c.write_planes.ensures.cut
