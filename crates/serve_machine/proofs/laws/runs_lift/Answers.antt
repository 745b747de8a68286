use Rattle.serve_machine.proofs.LiftLemmas.{runs_lift}
use Rattle.serve_machine.proofs.laws.runs_lift.Goals as goal

pub returns : goal.returns
returns g c = runs_lift g.row.F.Denot
