use Rattle.std.proofs.Common.{sym, ap, ◌∙◌, arith}
use Rattle.std.specs.Prelude.{◌||◌}
use Rattle.std.proofs.lemmas.List.{length-set}
use Rattle.clip_term.specs.declared.run.PlaneStat.{PlaneStat}
use Rattle.clip_term.specs.Expression.{asks, expr_view}
use Rattle.flt_choice.specs.Table.{stats_of}
use Rattle.flt_choice.proofs.ValueLemmas.{table_step, table_whole}
use Rattle.flt_choice.proofs.value.named_statistics.Goals as goal

pub loop-place-preserved : goal.loop-place-preserved
loop-place-preserved c =
    let table = c.loop-place.table in
    let place = c.loop-place.place in
    let v = c.in_ok-table.field-0 in
    let inside = c.loop-place-test.true in
    let long = c.loop-place.invariant.long in
    record {
      long = length-set table place v ∙ long;
      known = λ p stat low asked.
          table_step table place v c.stat_at-stat.result p stat (stats_of c.args.frame.now) (omega arith) c.stat_at-stat.ensures low (λ before. c.loop-place.invariant.known p stat before asked)
          (λ plane which. c.in_ok-table.ensures (c.either_asks-named.ensures
          ∙ ap (λ q. asks q c.stat_at-stat.result (expr_view c.args.first.now) || asks q c.stat_at-stat.result (expr_view c.args.second.now)) (sym plane)
          ∙ ap (λ (s : PlaneStat). asks p s (expr_view c.args.first.now) || asks p s (expr_view c.args.second.now)) (sym which) ∙ asked));
    }

pub returns : goal.returns
returns c = λ p stat asked.
    let past = c.loop-place-test.false in
    table_whole c.args.frame.now c.loop-place.table p stat c.loop-place.invariant.long (λ low. c.loop-place.invariant.known p stat (omega arith) asked)
