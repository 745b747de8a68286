use Rattle.std.proofs.Common.{arith}
use Rattle.flt_space.proofs.RowLemmas.{kept_plane}
use Rattle.flt_space.proofs.rows.FilteredRowsRowMaker.kept.Goals as goal

pub returns-then-keeps_plane : goal.returns-then-keeps_plane
returns-then-keeps_plane g c = search (arith, kept_plane)
