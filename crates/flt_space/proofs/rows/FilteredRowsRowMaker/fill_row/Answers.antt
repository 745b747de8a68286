use Rattle.std.proofs.Common.{arith}
use Rattle.fv_plane.proofs.BytesLemmas.{bytes_of_row-same}
use Rattle.flt_space.proofs.rows.FilteredRowsRowMaker.fill_row.Goals as goal

pub returns-clause-row : goal.returns-clause-row
returns-clause-row g c = search (arith, bytes_of_row-same)
