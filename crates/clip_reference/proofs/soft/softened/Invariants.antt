use Rattle.std.proofs.Common.{◌≡◌, ◌*◌, ◌≤◌, take, map}
use Rattle.std.specs.List.{sum}
use Rattle.fv_plane.specs.Picture.{look_in}
use Rattle.clip_term.specs.Soft.{near, samples_at}
use Rattle.clip_reference.proofs.soft.softened.Given as goal

abbrev pub invariant-loop-frame : goal.invariant-loop-frame
invariant-loop-frame l = record {
  made : l.sum ≡ sum (map (near l.threshold l.middle) (samples_at (map look_in (take l.frame-index l.frames)) l.plane l.x l.y));
  few : l.sum ≤ 65535 * l.frame-index;
}
