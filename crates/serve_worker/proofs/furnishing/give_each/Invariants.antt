-- So many workers have an instance.
use Rattle.std.proofs.Common.{◌≡◌, ◌++◌}
use Rattle.clip_term.specs.Terms.{act_of}
use Rattle.serve_worker.specs.Furnishing.{filter_instance, own_entries}
use Rattle.serve_worker.proofs.furnishing.give_each.Given as goal

abbrev pub invariant-loop-worker : goal.invariant-loop-worker
invariant-loop-worker g l = l.table ≡ l.fn.table ++ own_entries l.node (filter_instance (act_of l.op)) l.worker
