use Rattle.std.proofs.Common.{◌∙◌, ◌*◌, ap, arith}
use Rattle.fv_plane.specs.Format.{plane_width}
use Rattle.fv_plane.proofs.CallerLemmas.{bytes_of_wide, is_wide}
use Rattle.fv_plane.proofs.WideLemmas.{length-wide_samples, samples-bytes}
use Rattle.flt_soft.proofs.rows.U16Stored.row.Goals as goal

pub returns-clause-row : goal.returns-clause-row
returns-clause-row c = search (arith, bytes_of_wide, is_wide, samples-bytes)

pub returns-clause-whole : goal.returns-clause-whole
returns-clause-whole c =
    let width = plane_width c.args.input.now.shape c.args.plane in
    length-wide_samples width c.row.result.now (c.row.ensures.whole ∙ ap (λ n. width * n) c.requires.fits)
