use Rattle.row_laws.proofs.ValueRows.{operator_rows, number_rows, text_rows, other_value_rows}
use Rattle.row_laws.proofs.values.Goals as goal

pub returns : goal.returns
returns c = record { operators = operator_rows; numbers = number_rows; texts = text_rows; others = other_value_rows }
