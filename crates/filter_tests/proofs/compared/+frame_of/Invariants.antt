use Rattle.std.proofs.Common.{◌≤◌, ◌-◌, take}
use Rattle.clip_graph.specs.Plan.{input_keys, AreOfKeys}
use Rattle.filter_tests.proofs.compared.+frame_of.Given as goal

abbrev pub decreases-frame_of : goal.decreases-frame_of
decreases-frame_of g l = l.key.node

-- the frames so far
abbrev pub invariant-loop-input : goal.invariant-loop-input
invariant-loop-input g l = record {
  few : l.i ≤ 100;
  frames : AreOfKeys l.graph (take l.i (input_keys l.graph l.key)) l.frames.items;
}

abbrev pub decreases-loop-input : goal.decreases-loop-input
decreases-loop-input g l = 101 - l.i
