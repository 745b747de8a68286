-- The arguments are passed without their signs, which they don't have.
use Rattle.std.proofs.Common.{w32, ◌≡◌, arith}
use Rattle.std.proofs.lemmas.Int.{ints}
use Rattle.std.proofs.lemmas.Grind.{common_steps}
use mir.Val.{to_z, of_z}
use Rattle.flt_soft.proofs.make.write_row.Goals as goal
use Rattle.flt_soft.proofs.make.write_row.Goals.{After-unsigned_abs-in-TemporalSoften-2}

pub returns-in-GeneralConvolution-clause-row : goal.returns-in-GeneralConvolution-clause-row
returns-in-GeneralConvolution-clause-row c =
    let op = c.in-GeneralConvolution in
    let bias : to_z w32 (of_z w32 op.bias) ≡ op.bias = omega (arith, ints) in
    rw op.is (rw bias at c.convolved_row.ensures.row)

pub soften_row-requires-clause-able : goal.soften_row-requires-clause-able
soften_row-requires-clause-able c = grind (arith, common_steps)
