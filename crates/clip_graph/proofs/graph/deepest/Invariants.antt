use Rattle.std.proofs.Common.{◌≡◌, drop}
use Rattle.std.specs.Prelude.{max}
use Rattle.clip_graph.specs.Plan.{deepest}
use Rattle.clip_graph.specs.Nodes.{plan_of}
use Rattle.clip_graph.proofs.graph.deepest.Given as goal

abbrev pub invariant-loop-i : goal.invariant-loop-i
invariant-loop-i l = max l.depth (deepest (plan_of l.nodes) (drop l.i-index l.inputs)) ≡ deepest (plan_of l.nodes) l.inputs
