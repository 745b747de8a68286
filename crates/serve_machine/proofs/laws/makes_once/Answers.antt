use Rattle.serve_machine.proofs.RenderLemmas.{makes_once}
use Rattle.serve_machine.proofs.laws.makes_once.Goals as goal

pub returns : goal.returns
returns g c = makes_once g.row.F.Denot
