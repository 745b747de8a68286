use Rattle.std.proofs.Common.{◌∙◌, ap}
use Rattle.std.specs.Prelude.{nat_lt}
use Rattle.run_check.proofs.ClaimLemmas.{node_test}
use Rattle.run_check.proofs.claims.Claims.has_at.Goals as goal

pub returns : goal.returns
returns c = λ claims are. ap (nat_lt 0) c.count.ensures ∙ node_test c.args.self.now claims are c.args.worker c.args.node
