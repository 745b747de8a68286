use Rattle.std.proofs.Common.{◌≡◌, map, drop}
use Rattle.fv_plane.specs.Picture.{look_in}
use Rattle.clip_term.specs.Join.{beneath}
use Rattle.clip_reference.proofs.join.beneath.Given as goal

abbrev pub invariant-loop-i : goal.invariant-loop-i
invariant-loop-i l =
    beneath (drop l.i l.infos) (map look_in (drop l.i l.frames)) l.plane l.x l.left ≡ beneath l.infos (map look_in l.frames) l.plane l.x l.y
