use Rattle.std.proofs.Common.{◌≡◌, ◌*◌, ℕ, ◌<◌, get_or}
use Rattle.flt_space.proofs.kernels.copy_scaled.Given as goal

abbrev pub invariant-loop-x : goal.invariant-loop-x
invariant-loop-x l = (x : ℕ) → x < l.x → get_or l.out x 0 ≡ get_or l.row x 0 * l.factor
