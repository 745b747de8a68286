use Rattle.std.proofs.Common.{◌≡◌, ◌≤◌, ◌++◌, length, take, get_or, []}
use Rattle.fv_plane.specs.Picture.{bytes_of_rows}
use Rattle.y4m_stream.specs.Planes.{PutsAllBut}
use Rattle.y4m_stream.proofs.frame_writing.gather_plane.Given as goal

-- the rows above were put, or wait in the buffer
abbrev pub invariant-loop-y : goal.invariant-loop-y
invariant-loop-y g l =
    let sink = g.K.Sink in
    let rows = get_or l.frame.planes l.plane [] in
    record {
      inside : l.end ≤ length l.buf;
      size : length l.buf ≡ length l.fn.buf;
      put : PutsAllBut sink l.fn.out l.out (take l.start l.fn.buf ++ bytes_of_rows l.frame.shape (take l.y rows)) (take l.end l.buf);
      later : sink.faults l.fn.out ≤ sink.faults l.out;
      steady : sink.faults l.out ≡ sink.faults l.fn.out;
    }
