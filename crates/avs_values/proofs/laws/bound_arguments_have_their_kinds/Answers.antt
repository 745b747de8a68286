use Rattle.avs_values.proofs.KindLemmas.{bound_arguments_have_their_kinds}
use Rattle.avs_values.proofs.laws.bound_arguments_have_their_kinds.Goals as goal

pub returns : goal.returns
returns c = bound_arguments_have_their_kinds
