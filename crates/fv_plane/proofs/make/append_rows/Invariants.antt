use Rattle.std.proofs.Common.{◌≡◌, length}
use Rattle.fv_plane.specs.Picture.{bytes_of_rows, plane_from}
use Rattle.fv_plane.specs.Format.{plane_width, row_bytes}
use Rattle.fv_plane.proofs.make.append_rows.Given as goal

abbrev pub invariant-loop-y : goal.invariant-loop-y
invariant-loop-y g l = record {
  same : l.maker ≡ l.fn.maker;
  samples : length l.samples ≡ plane_width l.fn.shape l.plane;
  row : length l.row ≡ row_bytes l.fn.shape l.plane;
  bytes : l.bytes.items ≡ bytes_of_rows l.fn.shape (plane_from (g.M.RowMaker.look_made l.fn.maker) l.plane (plane_width l.fn.shape l.plane) l.y);
}
