use Rattle.row_laws.proofs.FieldRows.{field_rows}
use Rattle.row_laws.proofs.fields.Goals as goal

pub returns : goal.returns
returns c = field_rows
