use Rattle.std.proofs.Common.{◌≡◌, ℕ, ◌*◌, ◌<◌, get_or, take, length, pos}
use Rattle.fv_plane.specs.Picture.{look_in}
use Rattle.clip_term.specs.Soft.{weighed}
use Rattle.flt_soft.proofs.convolve.sum_nine.Given as goal

abbrev pub invariant-loop-i : goal.invariant-loop-i
invariant-loop-i g l = (x : ℕ) → x < length l.sums → get_or l.sums x (pos 0) ≡ weighed 3 0 (take (3 * l.i) l.weights) l.input.shape (look_in l.input) l.plane x l.y
