use Rattle.serve_core.proofs.Standing.{calls_stand}
use Rattle.serve_core.proofs.laws.calls_stand.Goals as goal

pub returns : goal.returns
returns g c = calls_stand g.I.Held.feed g.I.Held.faults
