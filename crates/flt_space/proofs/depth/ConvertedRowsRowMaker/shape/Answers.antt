use Rattle.std.proofs.Common.{arith}
use Rattle.clip_term.proofs.BoundedLemmas.{converted_few}
use Rattle.flt_space.proofs.depth.ConvertedRowsRowMaker.shape.Goals as goal

pub returns-clause-fits : goal.returns-clause-fits
returns-clause-fits c = search (arith, converted_few)
