use Rattle.serve_machine.proofs.OnceLemmas.{crews_make_once}
use Rattle.serve_machine.proofs.laws.crews_make_once.Goals as goal

pub returns : goal.returns
returns c = crews_make_once
