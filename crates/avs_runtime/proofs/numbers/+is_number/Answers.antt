use Rattle.avs_runtime.proofs.CompileLemmas.{two_here}
use Rattle.avs_runtime.proofs.numbers.+is_number.Goals as goal

pub are_two-returns-then-all-ge2 : goal.are_two-returns-then-all-ge2
are_two-returns-then-all-ge2 t c = two_here c.args.planes c.args.all.now c.are_numbers.result c.if-all-ge2.true c.are_numbers.ensures
