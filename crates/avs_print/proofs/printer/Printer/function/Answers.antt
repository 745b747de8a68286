use Rattle.avs_tree.specs.View.{function_view}
use Rattle.avs_print.proofs.PrintLemmas.{function_put}
use Rattle.avs_print.proofs.printer.Printer.function.Goals as goal

pub returns : goal.returns
returns c = function_put (function_view c.args.function.now) c.args.self.now c.function_words.new.self c.end_line.new.self c.in_ok-function_words.ensures (rw c.size-start.ensures at c.in_ok-end_line.ensures)
