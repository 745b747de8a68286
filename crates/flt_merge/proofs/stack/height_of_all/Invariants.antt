use Rattle.std.proofs.Common.{◌≡◌, ℕ, ◌<◌, take, get_or}
use Rattle.fv_plane.specs.Picture.{Picture, IsPicture}
use Rattle.flt_merge.specs.Rows.{height_of_all}
use Rattle.flt_merge.proofs.stack.height_of_all.Given as goal

abbrev pub invariant-loop-i : goal.invariant-loop-i
invariant-loop-i l = record {
  total : l.height ≡ height_of_all (take l.i l.inputs);
  sizes : (k : ℕ) (d : Picture) → k < l.i → IsPicture (get_or l.inputs k d);
}
