use Rattle.std.proofs.Common.{arith}
use Rattle.flt_choice.proofs.ValueLemmas.{filter_is, select_is, value_same, in_first, in_second}
use Rattle.flt_choice.proofs.choice.number_shown.Goals as goal

pub returns-in_ok-table-in-Filter-clause-number : goal.returns-in_ok-table-in-Filter-clause-number
returns-in_ok-table-in-Filter-clause-number c = search (arith, value_same, in_first, in_second, filter_is)

pub returns-in_ok-value_of-in-Select-clause-number : goal.returns-in_ok-value_of-in-Select-clause-number
returns-in_ok-value_of-in-Select-clause-number c = search (arith, select_is)
