use Rattle.std.proofs.Common.{arith, ap}
use Rattle.clip_graph.specs.Plan.{Application, application_at}
use Rattle.clip_graph.proofs.UnfoldingLemmas.{lawful_is}
use Rattle.clip_term.proofs.LimitLemmas.{lawful_passes}
use Rattle.filter_tests.proofs.limits.add_reverse.Goals as goal

pub add-requires-clause-told : goal.add-requires-clause-told
add-requires-clause-told c =
    rw (ap (λ (a : Application). a.info) c.node.ensures)
    (lawful_passes (application_at c.args.graph.now c.args.input).info (lawful_is c.args.graph.now c.len.ensures.plan c.args.input (omega (arith, c.len.ensures.len))))
