-- What was put and what is left to be put are the whole list.
use Rattle.std.proofs.Common.{◌≡◌, ◌++◌, map, drop, true}
use Rattle.avs_lex.specs.Written.{written}
use Rattle.avs_print.specs.Printed as p
use Rattle.avs_tree.specs.View.{arg_view, method_call_view, step_view, args_of, method_calls_of, steps_of}
use Rattle.avs_print.proofs.printer.Printer.+print_expression.Given as goal

abbrev pub invariant-arg_list-loop-arg : goal.invariant-arg_list-loop-arg
invariant-arg_list-loop-arg l =
    l.self ++ written (p.args_words l.first (args_of (map arg_view (drop l.arg-index l.args)))) ≡ l.fn.self ++ written (p.args_words true (args_of (map arg_view l.args)))

abbrev pub invariant-calls-loop-call : goal.invariant-calls-loop-call
invariant-calls-loop-call l = l.self ++ written (p.method_calls_words (method_calls_of (map method_call_view (drop l.call-index l.calls)))) ≡ l.fn.self ++ written (p.method_calls_words (method_calls_of (map method_call_view l.calls)))

abbrev pub invariant-steps-loop-step : goal.invariant-steps-loop-step
invariant-steps-loop-step l = l.self ++ written (p.steps_words (steps_of (map step_view (drop l.step-index l.steps)))) ≡ l.fn.self ++ written (p.steps_words (steps_of (map step_view l.steps)))
