use Rattle.std.proofs.Common.{arith}
use Rattle.flt_space.proofs.RowLemmas.{looks_fit}
use Rattle.flt_space.proofs.borders.MovedRowsRowMaker.shape.Goals as goal

pub returns-clause-fits : goal.returns-clause-fits
returns-clause-fits g c = search (arith, looks_fit)
