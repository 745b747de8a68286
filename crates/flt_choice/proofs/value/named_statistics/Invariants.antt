use Rattle.std.proofs.Common.{◌≡◌, ℕ, ◌+◌, ◌*◌, ◌<◌, length, true}
use Rattle.std.specs.Prelude.{◌||◌}
use Rattle.clip_term.specs.declared.run.PlaneStat.{PlaneStat}
use Rattle.clip_term.specs.Expression.{asks, expr_view}
use Rattle.flt_choice.specs.Table.{stats_in, stat_number, stats_of}
use Rattle.flt_choice.proofs.value.named_statistics.Given as goal

abbrev pub invariant-loop-place : goal.invariant-loop-place
invariant-loop-place l = record {
  long : length l.table ≡ 9;
  known : (p : ℕ) (stat : PlaneStat) → 3 * p + stat_number stat < l.place
      → asks p stat (expr_view l.first) || asks p stat (expr_view l.second) ≡ true → stats_in l.table p stat ≡ stats_of l.frame p stat;
}
