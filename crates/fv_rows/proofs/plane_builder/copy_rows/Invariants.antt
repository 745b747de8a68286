use Rattle.std.proofs.Common.{◌≡◌, ◌*◌, ◌≤◌, take}
use Rattle.std.specs.Prelude.{vec_capacity}
use Rattle.fv_rows.specs.Rows.{flat_rows}
use Rattle.fv_rows.proofs.plane_builder.copy_rows.Given as goal

-- the rows above are there
abbrev pub invariant-loop-y : goal.invariant-loop-y
invariant-loop-y l = record {
  rows : l.bytes.items ≡ flat_rows (take l.y l.plane);
  room : l.height * l.width ≤ vec_capacity l.bytes;
}
