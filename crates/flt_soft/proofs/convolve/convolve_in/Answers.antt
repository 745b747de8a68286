use Rattle.std.proofs.lemmas.Grind.{common_steps}
use Rattle.std.proofs.Common.{w32, arith}
use Rattle.std.proofs.lemmas.Int.{to_z-of_z}
use Rattle.flt_soft.proofs.convolve.convolve_in.Goals as goal

pub returns-else-width-lt3-clause-row : goal.returns-else-width-lt3-clause-row
returns-else-width-lt3-clause-row g c = search (arith, to_z-of_z, w32)

pub returns-then-width-lt3-clause-row : goal.returns-then-width-lt3-clause-row
returns-then-width-lt3-clause-row g c = grind (arith, common_steps)
