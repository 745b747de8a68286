use Rattle.std.proofs.Common.{◌∙◌, ap}
use Rattle.std.specs.Prelude.{nat_lt}
use Rattle.run_check.specs.Tallies.{count_at}
use Rattle.run_check.proofs.ClaimLemmas.{worker_test}
use Rattle.run_check.proofs.claims.Claims.has_any.Goals as goal

pub returns : goal.returns
returns c = λ claims are. ap (nat_lt 0) (c.count.ensures ∙ ap (count_at c.args.self.now.of_worker) c.alone.ensures) ∙ worker_test c.args.self.now claims are c.args.worker
