use Rattle.std.proofs.Common.{◌*◌, take}
use Rattle.flt_choice.specs.Counts.{AddsCounts}
use Rattle.flt_choice.proofs.counts.count_bytes.Given as goal

abbrev pub invariant-loop-i : goal.invariant-loop-i
invariant-loop-i l = AddsCounts 256 l.fn.counts (take (8 * l.i) l.bytes) l.counts

abbrev pub invariant-loop-x : goal.invariant-loop-x
invariant-loop-x l = AddsCounts 256 l.fn.counts (take l.x l.bytes) l.counts
