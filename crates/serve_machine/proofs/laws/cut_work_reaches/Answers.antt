use Rattle.serve_machine.proofs.ReachLemmas.{cut_work_reaches}
use Rattle.serve_machine.proofs.laws.cut_work_reaches.Goals as goal

pub returns : goal.returns
returns c = cut_work_reaches
