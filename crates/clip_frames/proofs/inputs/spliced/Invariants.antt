use Rattle.std.proofs.Common.{◌≡◌, ◌-◌, ◌<◌, length, drop}
use Rattle.clip_term.specs.Time.{spliced}
use Rattle.clip_graph.specs.Plan.{infos_among}
use Rattle.clip_frames.proofs.inputs.spliced.Given as goal

-- what is left of the inputs gives the frame
abbrev pub invariant-loop-input : goal.invariant-loop-input
invariant-loop-input l = record {
  inside : l.input < length l.inputs;
  same : spliced l.input (drop l.input (infos_among l.graph l.inputs)) l.number ≡ spliced 0 (infos_among l.graph l.inputs) l.n;
}

abbrev pub decreases-loop-input : goal.decreases-loop-input
decreases-loop-input l = length l.inputs - l.input
