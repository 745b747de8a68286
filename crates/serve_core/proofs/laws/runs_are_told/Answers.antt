use Rattle.serve_core.proofs.Telling.{runs_are_told}
use Rattle.serve_core.proofs.laws.runs_are_told.Goals as goal

pub returns : goal.returns
returns g c = runs_are_told g.I.Held.feed g.I.Held.faults
