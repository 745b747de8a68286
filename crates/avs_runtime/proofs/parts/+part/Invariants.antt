-- What was made and what is left are the whole.
use Rattle.std.proofs.Common.{◌≡◌, map, drop}
use Rattle.avs_tree.specs.View as tree
use Rattle.clip_term.specs.Expression.{expr_view, step_view}
use Rattle.avs_meaning.specs.Arguments as c
use Rattle.avs_runtime.proofs.CompileLemmas.{then_left}
use Rattle.avs_runtime.proofs.parts.+part.Given as goal

abbrev pub invariant-parts-loop-arg : goal.invariant-parts-loop-arg
invariant-parts-loop-arg l =
    then_left (map expr_view l.made.items) (c.parts_of (tree.args_of (map tree.arg_view (drop l.arg-index l.args)))) ≡ c.parts_of (tree.args_of (map tree.arg_view l.args))

abbrev pub invariant-operated-loop-step : goal.invariant-operated-loop-step
invariant-operated-loop-step l =
    then_left (map step_view l.made.items) (c.operated (tree.steps_of (map tree.step_view (drop l.step-index l.steps)))) ≡ c.operated (tree.steps_of (map tree.step_view l.steps))
