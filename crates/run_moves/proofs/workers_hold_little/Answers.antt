use Rattle.run_moves.proofs.HoldLemmas.{workers_hold_little}
use Rattle.run_moves.proofs.workers_hold_little.Goals as goal

pub returns : goal.returns
returns g c = workers_hold_little g.row.F.Denot
