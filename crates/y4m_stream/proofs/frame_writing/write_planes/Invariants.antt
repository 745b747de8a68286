use Rattle.std.proofs.Common.{◌≡◌, ◌≤◌, take}
use Rattle.std.specs.List.{flat_map}
use Rattle.fv_io.specs.Sink.{Puts}
use Rattle.fv_plane.specs.Picture.{bytes_of_rows}
use Rattle.y4m_stream.proofs.frame_writing.write_planes.Given as goal

-- the planes before were put
abbrev pub invariant-loop-plane : goal.invariant-loop-plane
invariant-loop-plane g l =
    let sink = g.K.Sink in
    record {
      put : Puts sink l.fn.out l.out (flat_map (bytes_of_rows l.frame.shape) (take l.plane l.frame.planes));
      later : sink.faults l.fn.out ≤ sink.faults l.out;
      steady : sink.faults l.out ≡ sink.faults l.fn.out;
    }
