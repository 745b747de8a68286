use Rattle.std.proofs.Common.{arith}
use Rattle.flt_soft.specs.Pictures.{shape_of}
use Rattle.flt_soft.proofs.PictureLemmas.{width_at_most}
use Rattle.flt_soft.proofs.make.SoftRowsRowMaker.fill_row.Goals as goal

pub write_row-requires-clause-room : goal.write_row-requires-clause-room
write_row-requires-clause-room c = omega (arith, c.requires.able.enough, width_at_most (shape_of c.args.self.now.inputs.now) c.args.plane)
