use Rattle.std.proofs.Common.{◌≡◌, ◌-◌, ℕ, ◌<◌, get_or}
use Rattle.fv_plane.specs.Picture.{wide_samples}
use Rattle.flt_space.proofs.wide.copy_inverted.Given as goal

abbrev pub invariant-loop-x : goal.invariant-loop-x
invariant-loop-x l = (x : ℕ) → x < l.x → get_or l.out x 0 ≡ l.largest - get_or (wide_samples l.row) x 0
