use Rattle.run_text.proofs.JudgeLemmas.{judged_once}
use Rattle.run_text.proofs.laws.judged_once.Goals as goal

pub returns : goal.returns
returns c = judged_once
