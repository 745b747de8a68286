use Rattle.std.proofs.Common.{◌≡◌, ◌+◌, ◌-◌, ℕ, ◌<◌, ◌≤◌, get_or, length}
use Rattle.fv_plane.specs.Picture.{wide_samples}
use Rattle.flt_space.proofs.wide.reverse_row.Given as goal

abbrev pub invariant-loop-x : goal.invariant-loop-x
invariant-loop-x l = (x : ℕ) → x < length l.out → length l.out ≤ x + l.x → get_or l.out x 0 ≡ get_or (wide_samples l.row) (length l.out - 1 - x) 0
