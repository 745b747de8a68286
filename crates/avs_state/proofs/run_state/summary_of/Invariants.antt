use Rattle.std.proofs.Common.{◌≡◌, length, take}
use Rattle.clip_check.specs.Summaries.{Tells}
use Rattle.clip_graph.specs.Plan.{infos_among}
use Rattle.avs_state.proofs.run_state.summary_of.Given as goal

abbrev pub invariant-loop-i : goal.invariant-loop-i
invariant-loop-i l = Tells l.summary (infos_among l.plan (take l.i-index l.inputs)) × (l.summary.total ≡ length l.inputs)
