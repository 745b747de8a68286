use Rattle.std.proofs.Common.{◌≡◌, ◌*◌, ◌/◌, ◌≤◌, ◌<◌, ℕ, take, map, length, get_or}
use Rattle.std.specs.List.{sum}
use Rattle.fv_plane.specs.Picture.{look_in, look_at}
use Rattle.flt_soft.proofs.SoftenLemmas.{nears}
use Rattle.flt_soft.proofs.soften.soften_many.Given as goal

abbrev pub invariant-loop-i : goal.invariant-loop-i
invariant-loop-i g l = record {
  made : (x : ℕ) → x < length l.sums → get_or (g.T.Mean.totals l.sums) x 0
      ≡ sum (take l.i (nears l.threshold (look_at (map look_in l.inputs) (length l.inputs / 2) l.plane x l.y) l.inputs l.plane x l.y));
  few : (x : ℕ) → get_or (g.T.Mean.totals l.sums) x 0 ≤ g.T.Sample.most * l.i;
}
