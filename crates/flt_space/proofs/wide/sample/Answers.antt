use Rattle.std.proofs.Common.{◌∙◌, sym}
use Rattle.fv_plane.proofs.WideLemmas.{wide_samples-at}
use Rattle.flt_space.proofs.wide.sample.Goals as goal

pub returns : goal.returns
returns c = c.wide_sample.ensures ∙ sym (wide_samples-at c.args.row.now c.args.x c.requires)
