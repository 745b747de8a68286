use Rattle.avs_tree.specs.View.{kind_view}
use Rattle.avs_print.proofs.PrintLemmas.{statement_put, view_kind}
use Rattle.avs_print.proofs.printer.Printer.+print_statement.Goals as goal

pub statement-returns : goal.statement-returns
statement-returns t c =
    rw (view_kind c.args.statement.now)
    (statement_put (kind_view c.args.statement.now.kind) c.args.self.now c.kind.new.self c.end_line.new.self c.in_ok-kind.ensures (rw c.size-start.ensures at c.in_ok-end_line.ensures))
