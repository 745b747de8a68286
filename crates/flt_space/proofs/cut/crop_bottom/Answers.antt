use Rattle.std.proofs.Common.{w32, arith}
use Rattle.std.proofs.lemmas.Int.{to_z-of_z}
use Rattle.flt_space.proofs.CutLemmas.{bottom_cut}
use Rattle.flt_space.proofs.cut.crop_bottom.Goals as goal

pub window-requires : goal.window-requires
window-requires c = search (arith, to_z-of_z, w32, bottom_cut)
