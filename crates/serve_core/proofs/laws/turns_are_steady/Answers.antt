use Rattle.serve_core.proofs.SteadyLemmas.{turns_are_steady}
use Rattle.serve_core.proofs.laws.turns_are_steady.Goals as goal

pub returns : goal.returns
returns g c = turns_are_steady g.I.Held.faults
