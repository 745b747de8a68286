use Rattle.run_moves.proofs.WaitLemmas.{waiting_goes_down}
use Rattle.run_moves.proofs.waiting_goes_down.Goals as goal

pub returns : goal.returns
returns g c = waiting_goes_down g.row.F.Denot
