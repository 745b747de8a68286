use Rattle.std.proofs.Common.{◌≡◌, ◌≤◌, take, get_or, []}
use Rattle.fv_io.specs.Sink.{Puts}
use Rattle.fv_plane.specs.Picture.{bytes_of_rows}
use Rattle.y4m_stream.proofs.frame_writing.write_long_rows.Given as goal

-- the rows above were put
abbrev pub invariant-loop-y : goal.invariant-loop-y
invariant-loop-y g l =
    let sink = g.K.Sink in
    record {
      put : Puts sink l.fn.out l.out (bytes_of_rows l.frame.shape (take l.y (get_or l.frame.planes l.plane [])));
      later : sink.faults l.fn.out ≤ sink.faults l.out;
      steady : sink.faults l.out ≡ sink.faults l.fn.out;
    }
