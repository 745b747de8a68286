use Rattle.run_moves.proofs.PrefixLemmas.{stays_in_work}
use Rattle.run_moves.proofs.stays_in_work.Goals as goal

pub returns : goal.returns
returns g c = stays_in_work g.row.F.Denot
