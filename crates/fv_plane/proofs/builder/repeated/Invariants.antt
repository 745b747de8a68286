use Rattle.std.proofs.Common.{◌≡◌, ℕ, ◌<◌, [], length, get_or}
use Rattle.fv_rows.specs.Rows.{IsPlane}
use Rattle.fv_plane.proofs.builder.repeated.Given as goal

abbrev pub invariant-loop-y : goal.invariant-loop-y
invariant-loop-y l = record {
  sizes : IsPlane (length l.row) l.height l.made;
  above : (z : ℕ) → z < l.y → get_or l.made z [] ≡ l.row;
}
