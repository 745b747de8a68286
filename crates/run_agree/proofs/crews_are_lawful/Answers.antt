use Rattle.run_agree.proofs.CrewLemmas.{crews_are_lawful}
use Rattle.run_agree.proofs.crews_are_lawful.Goals as goal

pub returns : goal.returns
returns c = crews_are_lawful
