use Rattle.run_moves.proofs.BoundLemmas.{work_is_bounded}
use Rattle.run_moves.proofs.work_is_bounded.Goals as goal

pub returns : goal.returns
returns g c = work_is_bounded g.row.F.Denot
