use Rattle.std.proofs.Common.{◌≡◌, [], length, map}
use Rattle.fv_plane.specs.Format.{plane_width, row_bytes}
use Rattle.fv_plane.specs.Picture.{look_in}
use Rattle.clip_term.specs.Terms.{act_of, sample}
use Rattle.fv_plane.proofs.FillLemmas.{Filled}
use Rattle.fv_plane.proofs.WholePlaneLemmas.{rows_listed}
use Rattle.clip_reference.proofs.make.made.Given as goal

abbrev pub invariant-loop-y : goal.invariant-loop-y
invariant-loop-y l = record {
  samples : length l.samples ≡ plane_width l.shape l.plane;
  row : length l.row ≡ row_bytes l.shape l.plane;
  filled : Filled (rows_listed l.shape (sample [] (act_of l.op) l.infos l.n (map look_in l.frames))) l.shape l.made l.plane l.y;
}

abbrev pub invariant-loop-plane : goal.invariant-loop-plane
invariant-loop-plane l = Filled (rows_listed l.shape (sample [] (act_of l.op) l.infos l.n (map look_in l.frames))) l.shape l.made l.plane 0
