use Rattle.std.proofs.Common.{◌≡◌, ◌-◌, ◌≤◌, length, drop}
use Rattle.std.specs.Prelude.{is_some}
use Rattle.clip_graph.specs.Plan.{input_keys}
use Rattle.serve_machine.specs.Machine.{Machine, State, gathered}
use Rattle.run_check.specs.Mirrors.{Mirrors}
use Rattle.run_check.proofs.tracker.Tracker.has_got_inputs.Given as goal

-- what is left gives what all give
abbrev pub invariant-loop-input : goal.invariant-loop-input
invariant-loop-input l = record {
  few : l.i ≤ length (input_keys l.graph l.key);
  left : (m : Machine (Unit {0})) (s : State (Unit {0})) → l.graph ≡ m.fixed.plan → Mirrors l.self m s
      → is_some (gathered l.worker (drop l.i (input_keys m.fixed.plan l.key)) s.got) ≡ is_some (gathered l.worker (input_keys m.fixed.plan l.key) s.got);
}

abbrev pub decreases-loop-input : goal.decreases-loop-input
decreases-loop-input l = length (input_keys l.graph l.key) - l.i
