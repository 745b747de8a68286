use Rattle.serve_core.proofs.WindowLemmas.{windows_are_runs}
use Rattle.serve_core.proofs.laws.windows_are_runs.Goals as goal

pub returns : goal.returns
returns g c = windows_are_runs g.row.I.Denot
