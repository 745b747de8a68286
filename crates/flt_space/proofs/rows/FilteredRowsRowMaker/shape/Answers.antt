use Rattle.flt_space.proofs.RowLemmas.{looks_fit}
use Rattle.std.proofs.Common.{arith}
use Rattle.flt_space.proofs.rows.FilteredRowsRowMaker.shape.Goals as goal

pub returns-clause-fits : goal.returns-clause-fits
returns-clause-fits g c = search (arith, looks_fit)
