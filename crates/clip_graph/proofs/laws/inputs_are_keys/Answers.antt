use Rattle.clip_graph.proofs.UnfoldingLemmas.{inputs_are_keys}
use Rattle.clip_graph.proofs.laws.inputs_are_keys.Goals as goal

pub returns : goal.returns
returns c = inputs_are_keys
