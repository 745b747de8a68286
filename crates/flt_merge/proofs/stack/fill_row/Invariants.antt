use Rattle.std.proofs.Common.{◌≡◌, length, take}
use Rattle.flt_merge.specs.Rows.{bytes_beside}
use Rattle.flt_merge.proofs.stack.fill_row.Given as goal

abbrev pub invariant-loop-i : goal.invariant-loop-i
invariant-loop-i l = record {
  long : length l.row ≡ length (bytes_beside l.inputs l.plane l.y);
  left : l.left ≡ length (bytes_beside (take l.i l.inputs) l.plane l.y);
  done : take l.left l.row ≡ bytes_beside (take l.i l.inputs) l.plane l.y;
}
