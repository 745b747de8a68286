use Rattle.std.proofs.Common.{arith}
use Rattle.flt_space.proofs.DepthLemmas.{converted_row}
use Rattle.flt_space.proofs.depth.ConvertedRowsRowMaker.fill_row.Goals as goal

pub returns-clause-row : goal.returns-clause-row
returns-clause-row c = search (arith, converted_row)
