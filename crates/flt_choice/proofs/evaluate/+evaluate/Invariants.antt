-- What is left gives what the whole gives.
use Rattle.std.proofs.Common.{◌≡◌, map, drop}
use Rattle.std.specs.Int.{int_min, int_max}
use Rattle.clip_term.specs.Expression.{expr_view, step_view, exprs_of, steps_of}
use Rattle.clip_term.specs.Expression as v
use Rattle.flt_choice.specs.Table.{stats_in}
use Rattle.flt_choice.proofs.evaluate.+evaluate.Given as goal

abbrev pub invariant-least_of-loop-expr : goal.invariant-least_of-loop-expr
invariant-least_of-loop-expr l =
    v.picked_from int_min l.n (stats_in l.table) l.least (exprs_of (map expr_view (drop l.expr-index l.rest))) ≡ v.of_all int_min l.n (stats_in l.table) (exprs_of (map expr_view l.all))

abbrev pub invariant-greatest_of-loop-expr : goal.invariant-greatest_of-loop-expr
invariant-greatest_of-loop-expr l =
    v.picked_from int_max l.n (stats_in l.table) l.greatest (exprs_of (map expr_view (drop l.expr-index l.rest))) ≡ v.of_all int_max l.n (stats_in l.table) (exprs_of (map expr_view l.all))

abbrev pub invariant-along-loop-step : goal.invariant-along-loop-step
invariant-along-loop-step l =
    v.along l.n (stats_in l.table) l.value (steps_of (map step_view (drop l.step-index l.rest))) ≡ v.along l.n (stats_in l.table) l.fn.first (steps_of (map step_view l.rest))
