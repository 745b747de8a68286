use Rattle.std.proofs.Common.{arith}
use Rattle.avs_values.specs.Binding.{bind}
use Rattle.avs_values.specs.Views.{signature_view}
use Rattle.avs_values.proofs.BindingLemmas.{bound_suits}
use Rattle.avs_values.proofs.binding.bind.Goals as goal

pub returns-clause-kinds : goal.returns-clause-kinds
unfolding bind
returns-clause-kinds c =
    bound_suits (signature_view c.args.signature.now) c.args.args.now c.loop-arg.arg-index c.loop-arg.received c.finish.result (omega arith) c.loop-arg.invariant.rest c.finish.ensures
