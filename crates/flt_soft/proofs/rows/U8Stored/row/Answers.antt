use Rattle.std.proofs.Common.{◌∙◌, length}
use Rattle.fv_plane.specs.Picture.{row_of}
use Rattle.fv_plane.proofs.CallerLemmas.{bytes_of_narrow}
use Rattle.flt_soft.proofs.PictureLemmas.{narrow_width}
use Rattle.flt_soft.proofs.rows.U8Stored.row.Goals as goal

pub returns : goal.returns
returns c =
    let input = c.args.input.now in
    record {
      row = c.row.ensures.row ∙ bytes_of_narrow input.shape (row_of input.planes c.args.plane c.args.y) c.requires.fits;
      whole = narrow_width input.shape c.args.plane (length c.row.result.now) c.requires.fits c.row.ensures.whole;
    }
