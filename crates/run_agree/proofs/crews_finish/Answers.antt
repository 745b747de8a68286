use Rattle.run_agree.proofs.CrewLemmas.{crews_finish}
use Rattle.run_agree.proofs.crews_finish.Goals as goal

pub returns : goal.returns
returns c = crews_finish
