use Rattle.std.proofs.Common.{◌≡◌, ◌*◌, ◌^◌, drop, pos, ◌+ℤ◌, neg_ℤ, ◌≤ℤ◌}
use Rattle.fv_plane.specs.Picture.{look_in}
use Rattle.clip_term.specs.Soft.{weighed}
use Rattle.clip_reference.proofs.soft.weighed.Given as goal

abbrev pub invariant-loop-k : goal.invariant-loop-k
invariant-loop-k l = record {
  made : l.sum +ℤ weighed l.side l.k (drop l.k l.matrix) l.shape (look_in l.input) l.plane l.x l.y ≡ weighed l.side 0 l.matrix l.shape (look_in l.input) l.plane l.x l.y;
  low : neg_ℤ (pos (2 ^ 47 * l.k)) ≤ℤ l.sum;
  high : l.sum ≤ℤ pos (2 ^ 47 * l.k);
}
