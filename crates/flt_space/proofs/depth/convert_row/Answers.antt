use Rattle.std.proofs.Common.{arith}
use Rattle.fv_plane.proofs.CallerLemmas.{bytes_of_narrow, bytes_of_wide}
use Rattle.flt_space.proofs.RowLemmas.{more_bits}
use Rattle.flt_space.proofs.depth.convert_row.Goals as goal

pub returns-then-shape-eq8 : goal.returns-then-shape-eq8
returns-then-shape-eq8 c = search (arith, bytes_of_narrow)

pub returns-else-shape-eq8 : goal.returns-else-shape-eq8
returns-else-shape-eq8 c = search (arith, bytes_of_wide, more_bits)
