-- What is left gives what the whole gives, and the state has kept what it keeps.
use Rattle.std.proofs.Common.{◌≡◌, ◌+◌, ◌≤◌, map, drop, IsTrue}
use Rattle.avs_tree.specs.Sizes.{args_size, method_calls_size, steps_size}
use Rattle.avs_tree.specs.View.{args_of, method_calls_of, steps_of, arg_view, method_call_view, step_view}
use Rattle.avs_state.specs.States.{state_of}
use Rattle.avs_state.specs.Steps.{work}
use Rattle.avs_meaning.specs.Expressions as m
use Rattle.avs_state.proofs.Kept.{Kept}
use Rattle.avs_expressions.proofs.evaluation.Evaluation.+expressions.Given as goal

abbrev pub invariant-givens_of-loop-arg : goal.invariant-givens_of-loop-arg
invariant-givens_of-loop-arg g l =
    let givens = m.givens_of (g.C.Calls.context l.self.calls.now) (g.C.Calls.here l.self.calls.now) in
    record {
      told : IsTrue g.H.Host.told → givens (args_of (map arg_view (drop l.arg-index l.args))) l.given.items (state_of l.state)
          ≡ givens (args_of (map arg_view l.args)) l.fn.given.items (state_of l.fn.state);
      kept : Kept g.H.Host l.fn.state l.fn.host l.state l.host;
      works : work l.state + args_size (args_of (map arg_view (drop l.arg-index l.args))) ≤ work l.fn.state + args_size (args_of (map arg_view l.args));
    }

abbrev pub invariant-calls_from-loop-call : goal.invariant-calls_from-loop-call
invariant-calls_from-loop-call g l =
    let calls = m.calls_from (g.C.Calls.context l.self.calls.now) (g.C.Calls.here l.self.calls.now) in
    record {
      told : IsTrue g.H.Host.told → calls (method_calls_of (map method_call_view (drop l.call-index l.calls))) l.value (state_of l.state)
          ≡ calls (method_calls_of (map method_call_view l.calls)) l.fn.first (state_of l.fn.state);
      kept : Kept g.H.Host l.fn.state l.fn.host l.state l.host;
      works : work l.state + method_calls_size (method_calls_of (map method_call_view (drop l.call-index l.calls))) ≤ work l.fn.state + method_calls_size (method_calls_of (map method_call_view l.calls));
    }

abbrev pub invariant-steps_from-loop-step : goal.invariant-steps_from-loop-step
invariant-steps_from-loop-step g l =
    let steps = m.steps_from (g.C.Calls.context l.self.calls.now) (g.C.Calls.here l.self.calls.now) in
    record {
      told : IsTrue g.H.Host.told → steps (steps_of (map step_view (drop l.step-index l.steps))) l.value (state_of l.state)
          ≡ steps (steps_of (map step_view l.steps)) l.fn.first (state_of l.fn.state);
      kept : Kept g.H.Host l.fn.state l.fn.host l.state l.host;
      works : work l.state + steps_size (steps_of (map step_view (drop l.step-index l.steps))) ≤ work l.fn.state + steps_size (steps_of (map step_view l.steps));
    }
