-- What is left answers for the whole.
use Rattle.std.proofs.Common.{◌≡◌, map, drop}
use Rattle.clip_term.specs.Expression.{expr_view, step_view, exprs_of, steps_of}
use Rattle.clip_term.specs.Expression as e
use Rattle.flt_choice.proofs.evaluate.+asks.Given as goal

abbrev pub invariant-any_asks-loop-expr : goal.invariant-any_asks-loop-expr
invariant-any_asks-loop-expr l =
    e.any_asks l.plane l.stat (exprs_of (map expr_view (drop l.expr-index l.all))) ≡ e.any_asks l.plane l.stat (exprs_of (map expr_view l.all))

abbrev pub invariant-steps_ask-loop-step : goal.invariant-steps_ask-loop-step
invariant-steps_ask-loop-step l =
    e.steps_ask l.plane l.stat (steps_of (map step_view (drop l.step-index l.rest))) ≡ e.steps_ask l.plane l.stat (steps_of (map step_view l.rest))
