use Rattle.run_check.proofs.LeaseLemmas.{empty_test}
use Rattle.run_check.proofs.leases.Leases.is_empty.Goals as goal

pub returns : goal.returns
returns c = λ places are. empty_test c.args.self.now places are
