use Rattle.std.proofs.Common.{arith}
use Rattle.std.proofs.lemmas.List.{get_or_read}
use Rattle.flt_soft.proofs.rows.row_in.Goals as goal

pub returns-clause-row : goal.returns-clause-row
returns-clause-row g c = search (arith, get_or_read)
