-- There are fewer shares in each call.
use Rattle.std.proofs.Common.{◌+◌}
use Rattle.std.specs.Vec.{vec_len}
use Rattle.prefetch.proofs.crew_window.+crew+fn-crew-join+arg3.Given as goal

abbrev pub decreases-crew : goal.decreases-crew
decreases-crew g l = vec_len l.shares + vec_len l.shares + 1

abbrev pub decreases-join+arg3 : goal.decreases-join+arg3
decreases-join+arg3 g l = vec_len l.shares + vec_len l.shares + 2
