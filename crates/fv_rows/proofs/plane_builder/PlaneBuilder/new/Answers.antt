use Rattle.std.proofs.Common.{◌≡◌, [], arith}
use Rattle.fv_rows.proofs.RowLemmas.{rows_replicate}
use Rattle.fv_rows.proofs.plane_builder.PlaneBuilder.new.Goals as goal

pub returns : goal.returns
returns c =
    let is : c.in_ok-emptied.field-0.items ≡ [] = c.in_ok-emptied.ensures.empty in
    rw is (rows_replicate c.args.width c.args.height _ c.args.value (omega arith))
