use Rattle.std.proofs.Common.{rules}
use Rattle.avs_values.proofs.NumberLemmas.{decimal_overflows}
use Rattle.avs_values.proofs.numbers.value.Goals as goal

pub returns-in-Err : goal.returns-in-Err
returns-in-Err c = search (rules, decimal_overflows, c.in-Err.ensures.value)
