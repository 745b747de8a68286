use Rattle.std.proofs.Common.{◌≡◌, ℕ, ◌<◌, length, take, get_or}
use Rattle.clip_graph.specs.Plan.{infos_among}
use Rattle.filter_tests.proofs.plans.infos.Given as goal

-- the nodes so far are there, and these are their infos
abbrev pub invariant-loop-node : goal.invariant-loop-node
invariant-loop-node g l = record {
  there : (k : ℕ) → k < l.node-index → get_or l.nodes k 0 < length l.graph;
  infos : l.infos.items ≡ infos_among l.graph (take l.node-index l.nodes);
}
