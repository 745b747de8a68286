use Rattle.std.proofs.Common.{arith}
use Rattle.flt_soft.proofs.SoftenLemmas.{three_is}
use Rattle.flt_soft.proofs.soften.soften.Goals as goal

pub returns-in-3 : goal.returns-in-3
returns-in-3 g c = search (arith, three_is)
