use Rattle.std.proofs.Common.{sym, ◌∙◌, arith}
use Rattle.fv_plane.proofs.WideLemmas.{wide_samples-at}
use Rattle.flt_choice.proofs.counts.wide_at.Goals as goal

pub returns : goal.returns
returns c = c.wide_sample.ensures ∙ sym (wide_samples-at c.args.bytes.now c.args.x (let inside = c.requires.inside in omega arith))
