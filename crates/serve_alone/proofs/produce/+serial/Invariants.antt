-- The inputs of a key are of earlier nodes.
use Rattle.std.proofs.Common.{◌+◌, ◌-◌, ◌*◌, ◌≤◌, length, take}
use Rattle.clip_graph.specs.Plan.{input_keys}
use Rattle.serve_alone.specs.Made.{Gathered}
use Rattle.serve_alone.proofs.produce.+serial.Given as goal

abbrev pub decreases-gather : goal.decreases-gather
decreases-gather g l = 2 * l.key.node

abbrev pub decreases-produce : goal.decreases-produce
decreases-produce g l = 2 * l.key.node + 1

abbrev pub invariant-gather-loop-input : goal.invariant-gather-loop-input
invariant-gather-loop-input g l = (l.i ≤ length (input_keys l.graph l.key)) × Gathered g.I.Held l.graph l.fn.core l.key.node (take l.i (input_keys l.graph l.key)) l.frames.items l.core

abbrev pub decreases-gather-loop-input : goal.decreases-gather-loop-input
decreases-gather-loop-input g l = length (input_keys l.graph l.key) - l.i
