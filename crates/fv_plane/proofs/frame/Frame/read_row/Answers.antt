use Rattle.std.proofs.Common.{◌≡◌, ◌∙◌, ◌*◌, ℕ, List, length, ap, arith}
use Rattle.fv_plane.specs.Format.{plane_width}
use Rattle.fv_plane.specs.Picture.{row_of, wide_samples}
use Rattle.fv_plane.proofs.WideLemmas.{samples-bytes}
use Rattle.fv_plane.proofs.CallerLemmas.{bytes_of_wide, is_wide}
use Rattle.fv_plane.proofs.frame.Frame.read_row.Goals as goal

pub read_samples-requires : goal.read_samples-requires
read_samples-requires c =
    c.row.ensures.whole ∙ ap (λ n. plane_width c.args.self.now.shape c.args.plane * n) c.requires.wide ∙ ap (λ n. n * 2) (let same : plane_width c.args.self.now.shape c.args.plane ≡ length c.args.samples.now = omega arith in same)

pub returns : goal.returns
returns c =
    let shape = c.args.self.now.shape in
    let row : List ℕ = row_of c.args.self.now.planes c.args.plane c.args.y in
    c.read_samples.ensures ∙ ap wide_samples (c.row.ensures.row ∙ bytes_of_wide shape row (is_wide shape c.requires.wide)) ∙ samples-bytes row
