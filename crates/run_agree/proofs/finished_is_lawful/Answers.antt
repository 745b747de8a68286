use Rattle.run_agree.proofs.LawfulLemmas.{finished_is_lawful}
use Rattle.run_agree.proofs.finished_is_lawful.Goals as goal

pub returns : goal.returns
returns c = finished_is_lawful
