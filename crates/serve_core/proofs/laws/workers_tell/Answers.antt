use Rattle.serve_core.proofs.ClosedLemmas.{workers_tell}
use Rattle.serve_core.proofs.laws.workers_tell.Goals as goal

pub returns : goal.returns
returns g c = workers_tell g.row.I.Denot
