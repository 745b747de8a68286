use Rattle.std.proofs.Common.{rules, ◌∙◌}
use Rattle.avs_state.specs.States.{state_of, defined_view}
use Rattle.avs_state.proofs.StateLemmas.{found_is}
use Rattle.avs_state.proofs.run_state.RunState.is_defined.Goals as goal

pub returns : goal.returns
unfolding state_of
returns c =
    c.is_some.ensures
    ∙ found_is (λ x. defined_view x.value) (λ item. item.now) c.find.result c.args.name.now c.args.self.now.functions (search rules)
