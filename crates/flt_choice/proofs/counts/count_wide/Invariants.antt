use Rattle.std.proofs.Common.{◌*◌, take}
use Rattle.fv_plane.specs.Picture.{wide_samples}
use Rattle.flt_choice.specs.Counts.{AddsCounts}
use Rattle.flt_choice.proofs.counts.count_wide.Given as goal

abbrev pub invariant-loop-i : goal.invariant-loop-i
invariant-loop-i l = AddsCounts l.size l.fn.counts (take (4 * l.i) (wide_samples l.bytes)) l.counts

abbrev pub invariant-loop-x : goal.invariant-loop-x
invariant-loop-x l = AddsCounts l.size l.fn.counts (take l.x (wide_samples l.bytes)) l.counts
