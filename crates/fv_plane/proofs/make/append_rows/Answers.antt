use Rattle.std.proofs.Common.{rules, ◌≡◌, ◌++◌, ◌∙◌, ap, sym}
use Rattle.fv_plane.specs.declared.format.Shape.{Shape}
use Rattle.fv_plane.specs.Picture.{Look}
use Rattle.fv_plane.specs.Made.{bytes_made}
use Rattle.fv_plane.proofs.MadeLemmas.{more_made}
use Rattle.fv_plane.proofs.make.append_rows.Goals as goal

pub loop-y-preserved : goal.loop-y-preserved
loop-y-preserved g c =
    let shape : Shape = c.args.shape in
    let at : Look = g.M.RowMaker.look_made c.args.maker.now in
    let added : c.extend_from_slice.new.self.items ≡ c.loop-y.bytes.items ++ c.fill_row.new.out = search rules in
    let row : c.fill_row.new.out ≡ bytes_made shape at c.args.plane c.loop-y.y
    = c.fill_row.ensures.row
    ∙ ap (λ m. bytes_made (g.M.RowMaker.shape_made m) (g.M.RowMaker.look_made m) c.args.plane c.loop-y.y) c.loop-y.invariant.same
    ∙ ap (λ (s : Shape). bytes_made s at c.args.plane c.loop-y.y) (sym c.requires.shape) in
    record {
      same = c.fill_row.ensures.same ∙ c.loop-y.invariant.same;
      samples = c.fill_row.auto.samples ∙ c.loop-y.invariant.samples;
      row = c.fill_row.auto.out ∙ c.loop-y.invariant.row;
      bytes = added ∙ more_made shape at c.args.plane c.loop-y.y c.loop-y.bytes.items c.fill_row.new.out c.loop-y.invariant.bytes row;
    }
