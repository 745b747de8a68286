-- What was put and what is left to be put are the whole list.
use Rattle.std.proofs.Common.{◌≡◌, ◌++◌, map, drop}
use Rattle.avs_lex.specs.Written.{written}
use Rattle.avs_print.specs.Printed.{functions_words}
use Rattle.avs_tree.specs.View.{function_view}
use Rattle.avs_print.proofs.printer.Printer.functions.Given as goal

abbrev pub invariant-loop-function : goal.invariant-loop-function
invariant-loop-function l = l.self ++ written (functions_words (map function_view (drop l.function-index l.functions))) ≡ l.fn.self ++ written (functions_words (map function_view l.functions))
