-- What ApplyRange calls has fewer arguments.
use Rattle.std.proofs.Common.{◌+◌, ◌*◌, length}
use Rattle.avs_eval.proofs.walker.Walker.+calls.Given as goal

abbrev pub decreases-call : goal.decreases-call
decreases-call g c = 3 * length c.args.items + 2

abbrev pub decreases-call_builtin : goal.decreases-call_builtin
decreases-call_builtin g c = 3 * length c.args.items + 1

abbrev pub decreases-apply_range : goal.decreases-apply_range
decreases-apply_range g c = 3 * (length c.given.now.rest.items + 2)
