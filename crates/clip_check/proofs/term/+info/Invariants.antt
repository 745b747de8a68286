use Rattle.std.proofs.Common.{◌≡◌, length, map, take}
use Rattle.clip_check.specs.Summaries.{Tells}
use Rattle.clip_check.proofs.TermLemmas.{told_by, SoFar}
use Rattle.clip_check.proofs.term.+info.Given as goal

abbrev pub invariant-loop-input : goal.invariant-loop-input
invariant-loop-input l =
    Tells l.summary (map told_by (take l.input-index l.input-items)) × (l.summary.total ≡ length l.input-items) × SoFar l.input-items l.input-index
