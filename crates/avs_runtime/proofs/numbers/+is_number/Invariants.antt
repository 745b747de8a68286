-- What is left answers for the whole.
use Rattle.std.proofs.Common.{◌≡◌, map, drop}
use Rattle.clip_term.specs.Expression.{expr_view, step_view, exprs_of, steps_of}
use Rattle.clip_term.specs.Expression as e
use Rattle.avs_runtime.proofs.numbers.+is_number.Given as goal

abbrev pub invariant-are_numbers-loop-expr : goal.invariant-are_numbers-loop-expr
invariant-are_numbers-loop-expr l =
    e.are_numbers l.planes (exprs_of (map expr_view (drop l.expr-index l.all))) ≡ e.are_numbers l.planes (exprs_of (map expr_view l.all))

abbrev pub invariant-are_steps-loop-step : goal.invariant-are_steps-loop-step
invariant-are_steps-loop-step l =
    e.are_steps l.planes (steps_of (map step_view (drop l.step-index l.steps))) ≡ e.are_steps l.planes (steps_of (map step_view l.steps))
