use Rattle.serve_machine.proofs.ReachLemmas.{work_reaches}
use Rattle.serve_machine.proofs.laws.work_reaches.Goals as goal

pub returns : goal.returns
returns c = work_reaches
