use Rattle.std.proofs.Common.{◌∙◌}
use Rattle.clip_term.specs.Expression.{asks, expr_view}
use Rattle.flt_choice.specs.Table.{stats_in, stats_of}
use Rattle.flt_choice.proofs.ValueLemmas.{value_same, in_first}
use Rattle.flt_choice.proofs.value.value_of.Goals as goal

pub returns : goal.returns
returns c =
    let e = expr_view c.args.expr.now in
    c.evaluate.ensures ∙ value_same c.args.n (stats_in c.in_ok-table.table) (stats_of c.args.test.now) e (λ p stat h. c.in_ok-table.ensures p stat (in_first (asks p stat e) (asks p stat e) h))
