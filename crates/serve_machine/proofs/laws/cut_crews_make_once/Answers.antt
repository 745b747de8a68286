use Rattle.serve_machine.proofs.OnceLemmas.{cut_crews_make_once}
use Rattle.serve_machine.proofs.laws.cut_crews_make_once.Goals as goal

pub returns : goal.returns
returns c = cut_crews_make_once
