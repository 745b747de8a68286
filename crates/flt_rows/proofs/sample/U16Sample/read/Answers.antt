use Rattle.std.proofs.Common.{◌∙◌, sym}
use Rattle.fv_plane.proofs.WideLemmas.{wide_samples-at}
use Rattle.flt_rows.proofs.RowLemmas.{pair_inside}
use Rattle.flt_rows.proofs.sample.U16Sample.read.Goals as goal

pub wide_sample-requires : goal.wide_sample-requires
wide_sample-requires c = pair_inside c.args.row.now c.args.x c.requires

pub returns : goal.returns
returns c = c.wide_sample.ensures ∙ sym (wide_samples-at c.args.row.now c.args.x (pair_inside c.args.row.now c.args.x c.requires))
