use Rattle.row_laws.proofs.DeepRows.{deep_space_rows, deep_join_rows, deep_soft_rows, deep_field_rows, deep_choice_rows}
use Rattle.row_laws.proofs.deep_samples.Goals as goal

pub returns : goal.returns
returns c = record { space = deep_space_rows; join = deep_join_rows; soft = deep_soft_rows; field = deep_field_rows; choice = deep_choice_rows }
