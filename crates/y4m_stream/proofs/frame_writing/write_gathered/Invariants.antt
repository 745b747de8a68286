use Rattle.std.proofs.Common.{◌≡◌, ◌≤◌, ◌++◌, length, take}
use Rattle.std.specs.List.{flat_map}
use Rattle.fv_plane.specs.Picture.{bytes_of_rows}
use Rattle.y4m_stream.specs.Planes.{PutsAllBut}
use Rattle.y4m_stream.proofs.frame_writing.write_gathered.Given as goal

-- the line and the planes before were put, or wait in the buffer
abbrev pub invariant-loop-plane : goal.invariant-loop-plane
invariant-loop-plane g l =
    let sink = g.K.Sink in
    record {
      inside : l.end ≤ length l.buf;
      put : PutsAllBut sink l.fn.out l.out (l.line ++ flat_map (bytes_of_rows l.frame.shape) (take l.plane l.frame.planes)) (take l.end l.buf);
      later : sink.faults l.fn.out ≤ sink.faults l.out;
      steady : sink.faults l.out ≡ sink.faults l.fn.out;
    }
