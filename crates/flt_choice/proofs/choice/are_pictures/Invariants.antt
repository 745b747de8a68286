use Rattle.std.proofs.Common.{ℕ, ◌<◌, get_or}
use Rattle.fv_plane.specs.Picture.{Picture, IsPicture}
use Rattle.flt_choice.proofs.choice.are_pictures.Given as goal

abbrev pub invariant-loop-input : goal.invariant-loop-input
invariant-loop-input l = (i : ℕ) (d : Picture) → i < l.input-index → IsPicture (get_or l.inputs i d)
