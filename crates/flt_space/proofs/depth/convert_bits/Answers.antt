use Rattle.std.proofs.Common.{w32, arith}
use Rattle.std.proofs.lemmas.Int.{to_z-of_z}
use Rattle.flt_space.proofs.DepthLemmas.{own_bits}
use Rattle.flt_space.proofs.depth.convert_bits.Goals as goal

pub returns-then-shape-old : goal.returns-then-shape-old
returns-then-shape-old c = search (arith, to_z-of_z, w32, own_bits)
