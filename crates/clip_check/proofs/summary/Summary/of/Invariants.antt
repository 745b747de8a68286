use Rattle.std.proofs.Common.{◌≡◌, length, take}
use Rattle.clip_check.specs.Summaries.{Tells}
use Rattle.clip_check.proofs.summary.Summary.of.Given as goal

abbrev pub invariant-loop-info : goal.invariant-loop-info
invariant-loop-info l = Tells l.summary (take l.info-index l.infos) × (l.summary.total ≡ length l.infos)
