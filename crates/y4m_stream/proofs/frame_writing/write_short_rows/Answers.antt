-- What waits at the end is put.
use Rattle.std.proofs.Common.{take}
use Rattle.std.proofs.lemmas.Result.{on_err_weaker, on_ok_weaker}
use Rattle.y4m_stream.specs.Planes.{bytes_of_plane}
use Rattle.y4m_stream.proofs.WaitingLemmas.{put_rest, cut_rest}
use Rattle.y4m_stream.proofs.frame_writing.write_short_rows.Goals as goal

pub returns-clause-put : goal.returns-clause-put
returns-clause-put g c =
    on_ok_weaker c.put.result (put_rest g.K.Sink c.args.out.now c.gather_plane.new.out c.put.new.self (bytes_of_plane c.args.frame.now c.args.plane) (take c.in_ok-end.end c.gather_plane.new.buf) c.in_ok-end.ensures.put) c.put.ensures.put

pub returns-clause-cut : goal.returns-clause-cut
returns-clause-cut g c =
    on_err_weaker c.put.result (cut_rest g.K.Sink c.args.out.now c.gather_plane.new.out c.put.new.self (bytes_of_plane c.args.frame.now c.args.plane) (take c.in_ok-end.end c.gather_plane.new.buf) c.in_ok-end.ensures.put) c.put.ensures.cut
