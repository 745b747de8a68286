use Rattle.std.proofs.Common.{arith}
use Rattle.flt_merge.proofs.StackLemmas.{beside_by, looks_beside}
use Rattle.flt_merge.proofs.stack.RowsBesideRowMaker.shape.Goals as goal

pub returns-clause-fits : goal.returns-clause-fits
returns-clause-fits c = search (arith, looks_beside, beside_by)
