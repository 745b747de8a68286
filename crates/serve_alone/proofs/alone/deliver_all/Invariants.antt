-- So many outputs are served.
use Rattle.std.proofs.Common.{◌-◌, length}
use Rattle.serve_alone.specs.Windows.{Served}
use Rattle.serve_alone.proofs.alone.deliver_all.Given as goal

abbrev pub invariant-outputs : goal.invariant-outputs
invariant-outputs g l = Served g.I.Held l.graph l.fn.core (length l.core.outputs.taken) l.core

abbrev pub decreases-outputs : goal.decreases-outputs
decreases-outputs g l = l.fn.core.fixed.count - length l.core.outputs.taken
