use Rattle.serve_core.proofs.WorkerLemmas.{has_told}
use Rattle.serve_core.proofs.laws.own_events_tell.Goals as goal

pub returns : goal.returns
returns g c = has_told g.row.I.Denot
