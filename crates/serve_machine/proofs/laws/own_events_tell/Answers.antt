use Rattle.serve_machine.proofs.HoldingLemmas.{own_events_tell}
use Rattle.serve_machine.proofs.laws.own_events_tell.Goals as goal

pub returns : goal.returns
returns g c = own_events_tell g.row.F.Denot
