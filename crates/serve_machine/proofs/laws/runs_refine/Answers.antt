use Rattle.serve_machine.proofs.LawLemmas.{runs_refine}
use Rattle.serve_machine.proofs.laws.runs_refine.Goals as goal

pub returns : goal.returns
returns g c = runs_refine g.row.F.Denot
