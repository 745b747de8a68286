use Rattle.row_laws.proofs.ModeRows.{mode_rows}
use Rattle.row_laws.proofs.modes.Goals as goal

pub returns : goal.returns
returns c = mode_rows
