use Rattle.std.proofs.Common.{ℕ, ◌<◌, get_or}
use Rattle.fv_plane.specs.Picture.{Picture, IsPicture}
use Rattle.flt_soft.proofs.make.see_pictures.Given as goal

abbrev pub invariant-loop-input : goal.invariant-loop-input
invariant-loop-input l = (k : ℕ) (d : Picture) → k < l.input-index → IsPicture (get_or l.inputs k d)
