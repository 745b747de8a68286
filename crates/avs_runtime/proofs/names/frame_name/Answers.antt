use Rattle.std.proofs.Common.{refl}
use Rattle.avs_meaning.specs.Arguments.{named}
use Rattle.avs_runtime.proofs.CompileLemmas.{meant}
use Rattle.avs_runtime.proofs.names.frame_name.Goals as goal

pub returns : goal.returns
unfolding named
returns c = rw (c.meaning.ensures, meant) refl
