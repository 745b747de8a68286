use Rattle.serve_machine.proofs.ClosingLemmas.{work_closes}
use Rattle.serve_machine.proofs.laws.work_closes.Goals as goal

pub returns : goal.returns
returns c = work_closes
