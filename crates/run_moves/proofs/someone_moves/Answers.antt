use Rattle.run_moves.proofs.MoveLemmas.{someone_moves}
use Rattle.run_moves.proofs.someone_moves.Goals as goal

pub returns : goal.returns
returns g c = someone_moves g.row.F.Denot
