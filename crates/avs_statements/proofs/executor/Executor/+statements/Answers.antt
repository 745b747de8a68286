use Rattle.std.proofs.Common.{rules, arith}
use Rattle.avs_statements.proofs.Rows.{trees}
use Rattle.avs_statements.proofs.executor.Executor.+statements.Goals as goal

pub effect_of-block_of-requires : goal.effect_of-block_of-requires
effect_of-block_of-requires g t c = λ κs lives. (
  first_of (search (rules, trees, c.in-If.is, c.in-Some-other.is, c.decreases), grind (arith, trees, c.in-If.is, c.in-Some-other.is, c.decreases)),
  (search rules, (search rules, (c.requires.may, search (rules, trees, c.in-If.is, c.in-Some-other.is)))),
)

pub effect_of-count-requires : goal.effect_of-count-requires
effect_of-count-requires g t c = λ κs lives.
    (first_of (search (rules, trees, c.in-For.is, c.decreases), grind (arith, trees, c.in-For.is, c.decreases)), (search rules, (search rules, (c.requires.may, search (rules, trees, c.in-For.is)))))
