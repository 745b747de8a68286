use Rattle.std.proofs.Common.{◌∙◌, ap}
use Rattle.std.specs.Prelude.{◌==◌}
use Rattle.run_check.specs.Tallies.{count_at}
use Rattle.run_check.proofs.LeaseLemmas.{nothing_test}
use Rattle.run_check.proofs.leases.Leases.holds_nothing.Goals as goal

pub returns : goal.returns
returns c = λ places are. ap (λ n. n == 0) (c.count.ensures ∙ ap (count_at c.args.self.now.held) c.alone.ensures) ∙ nothing_test c.args.self.now places are c.args.worker
