use Rattle.std.proofs.Common.{◌-◌, length}
use Rattle.seq_source.proofs.RangeLemmas.{ReadsOn}
use Rattle.seq_source.proofs.reading.read_samples.Given as goal

abbrev pub invariant-loop-at : goal.invariant-loop-at
invariant-loop-at g l = ReadsOn g.S.Source l.fn.source l.source l.shape l.start l.at l.bytes

abbrev pub decreases-loop-at : goal.decreases-loop-at
decreases-loop-at g l = length l.bytes - l.at
