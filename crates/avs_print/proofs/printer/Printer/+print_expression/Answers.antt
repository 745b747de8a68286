use Rattle.avs_print.proofs.PrintLemmas.{calls_step}
use Rattle.avs_print.proofs.printer.Printer.+print_expression.Goals as goal

pub calls-loop-call-preserved : goal.calls-loop-call-preserved
calls-loop-call-preserved t c = calls_step c.args.calls.now c.loop-call.call-index c.call-item.result _ _ _ c.loop-call-test.true c.call-item.is c.loop-call.invariant c.in_ok-call.ensures
