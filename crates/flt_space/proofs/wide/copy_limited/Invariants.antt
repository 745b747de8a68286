use Rattle.std.proofs.Common.{◌≡◌, ℕ, ◌<◌, get_or}
use Rattle.clip_term.specs.Space.{limited}
use Rattle.fv_plane.specs.Picture.{wide_samples}
use Rattle.flt_space.proofs.wide.copy_limited.Given as goal

abbrev pub invariant-loop-x : goal.invariant-loop-x
invariant-loop-x l = (x : ℕ) → x < l.x → get_or l.out x 0 ≡ limited l.low l.high (get_or (wide_samples l.row) x 0)
