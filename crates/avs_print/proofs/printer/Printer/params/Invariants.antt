-- What was put and what is left to be put are the whole list.
use Rattle.std.proofs.Common.{◌≡◌, ◌++◌, drop, true}
use Rattle.avs_lex.specs.Written.{written}
use Rattle.avs_print.specs.Printed.{params_words}
use Rattle.avs_print.proofs.printer.Printer.params.Given as goal

abbrev pub invariant-loop-param : goal.invariant-loop-param
invariant-loop-param l = l.self ++ written (params_words l.first (drop l.param-index l.params)) ≡ l.fn.self ++ written (params_words true l.params)
