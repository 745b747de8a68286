use Rattle.serve_machine.proofs.LawLemmas.{told_runs_refine}
use Rattle.serve_machine.proofs.laws.told_runs_refine.Goals as goal

pub returns : goal.returns
returns c = told_runs_refine
