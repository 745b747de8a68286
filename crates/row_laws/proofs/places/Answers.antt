use Rattle.row_laws.proofs.PlaceRows.{tree_rows, place_rows}
use Rattle.row_laws.proofs.places.Goals as goal

pub returns : goal.returns
returns c = record { trees = tree_rows; faults = place_rows }
