use Rattle.serve_core.proofs.TurnLemmas.{turns_stand}
use Rattle.serve_core.proofs.laws.turns_stand.Goals as goal

pub returns : goal.returns
returns g c = turns_stand g.I.Held.feed g.I.Held.faults g.I.Held.ends
