-- The stop of a method call is that of all, and operators evaluate nothing.
use Rattle.std.proofs.Common.{◌≡◌, map, Err, arith, rules}
use Rattle.avs_tree.specs.View.{method_call_view, method_calls_of}
use Rattle.avs_state.specs.States.{state_of}
use Rattle.avs_state.specs.Stops.{named}
use Rattle.avs_meaning.specs.Expressions as m
use Rattle.avs_expressions.proofs.Rows.{calls_fail}
use Rattle.avs_expressions.proofs.evaluation.Evaluation.+expressions.Goals as goal

pub calls_from-returns-in_err-value-clause-told : goal.calls_from-returns-in_err-value-clause-told
calls_from-returns-in_err-value-clause-told g t c = λ told.
    let stop = c.in_err-value.field-0.0 in
    let context = g.C.Calls.context c.args.self.now.calls.now in
    let here = g.C.Calls.here c.args.self.now.calls.now in
    let whole = m.calls_from context here (method_calls_of (map method_call_view c.args.calls.now))
    c.args.first (state_of c.args.state.now) in
    let is : c.from_residual.result ≡ Err stop = search rules in
    rw is (calls_fail context here c.args.calls.now c.loop-call.call-index c.call-item.result
    c.loop-call.value (state_of c.loop-call.state) whole (named here stop) (search rules) c.call-item.is (c.loop-call.invariant.told told)
    (c.in_err-value.ensures.told told))

pub joined-returns-clause-work : goal.joined-returns-clause-work
joined-returns-clause-work g t c =
    let asks = (c.combined.ensures.runs (g.C.Calls.here c.args.self.now.calls.now)).asks in
    omega (arith, asks.work, c.in_ok-second-in_default.ensures.work)
