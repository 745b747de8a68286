use Rattle.std.proofs.Common.{◌≡◌, ◌+◌, ℕ, ◌<◌, ◌≤◌, get_or}
use Rattle.fv_plane.specs.Picture.{wide_samples}
use Rattle.clip_term.specs.Soft.{near}
use Rattle.flt_rows.proofs.wide.U16Mean.add_near.Given as goal

abbrev pub invariant-loop-x : goal.invariant-loop-x
invariant-loop-x l = record {
  done : (k : ℕ) → k < l.x → get_or l.sums k 0 ≡ get_or l.fn.sums k 0 + near l.threshold (get_or (wide_samples l.row) k 0) (get_or (wide_samples l.other) k 0);
  left : (k : ℕ) → l.x ≤ k → get_or l.sums k 0 ≡ get_or l.fn.sums k 0;
  few : (k : ℕ) → get_or l.sums k 0 ≤ get_or l.fn.sums k 0 + 65535;
}
