use Rattle.std.proofs.Common.{◌∙◌, ◌*◌, ap, arith}
use Rattle.fv_plane.specs.Format.{plane_width}
use Rattle.fv_plane.proofs.CallerLemmas.{bytes_of_wide, is_wide}
use Rattle.fv_plane.proofs.WideLemmas.{length-wide_samples, samples-bytes}
use Rattle.flt_space.proofs.wide.wide_row.Goals as goal

pub returns-clause-row : goal.returns-clause-row
returns-clause-row c = search (arith, bytes_of_wide, is_wide, samples-bytes)

pub returns-clause-whole : goal.returns-clause-whole
returns-clause-whole c = c.row.ensures.whole ∙ ap (λ n. plane_width c.args.input.now.shape c.args.plane * n) c.requires.wide

pub returns-clause-long : goal.returns-clause-long
returns-clause-long c = length-wide_samples (plane_width c.args.input.now.shape c.args.plane) c.row.result.now (returns-clause-whole c)
