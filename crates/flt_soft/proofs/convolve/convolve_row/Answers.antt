use Rattle.std.proofs.Common.{arith}
use Rattle.std.proofs.lemmas.Grind.{common_steps}
use Rattle.flt_soft.proofs.convolve.convolve_row.Goals as goal

pub returns-then-size-largest : goal.returns-then-size-largest
returns-then-size-largest g c = grind (arith, common_steps)

pub returns-else-weights-eq9 : goal.returns-else-weights-eq9
returns-else-weights-eq9 g c = grind (arith, common_steps)
