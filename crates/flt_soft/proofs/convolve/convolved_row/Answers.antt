use Rattle.std.proofs.Common.{◌≡◌, ◌<◌, ◌∙◌, ◌==◌, List, false, ap, sym, length, w32, rules, ne_eqb}
use Rattle.clip_term.specs.declared.op.SoftOp.TheVariants.{GeneralConvolution}
use Rattle.std.proofs.lemmas.Int.{to_z-of_z}
use Rattle.fv_plane.specs.declared.format.Shape.{Shape}
use Rattle.fv_plane.specs.Picture.{wide_bytes, look_in, Picture}
use Rattle.fv_plane.specs.Format.{plane_width}
use Rattle.fv_plane.proofs.CallerLemmas.{bytes_of_wide}
use Rattle.clip_term.specs.Soft.{convolved}
use Rattle.flt_soft.specs.Pictures.{row_made, shape_of}
use Rattle.flt_soft.proofs.PictureLemmas.{convolved_listed, first_shape, narrow_made, some_pictures}
use Rattle.flt_rows.proofs.WeightLemmas.{weights_are}
use Rattle.flt_soft.proofs.convolve.convolved_row.Goals as goal
use mir.Val.{SFits}

pub convolve_in-requires-clause-able : goal.convolve_in-requires-clause-able
convolve_in-requires-clause-able c =
    let inputs : List Picture = c.args.inputs.now in
    let one = c.index-inputs-0.result in
    let some : 0 < length inputs = some_pictures (GeneralConvolution c.args.bias c.args.matrix.now) inputs c.requires.able in
    let same : one.shape ≡ shape_of inputs = first_shape inputs one some c.index-inputs-0.is in
    record {
      plane = rw same c.requires.plane;
      inside = rw same c.requires.inside;
      small = search rules;
      light = rw c.as_slice-weights.ensures (weights_are c.args.matrix.now.entries c.requires.able.lists);
      square = search rules;
    }

pub convolve_in-requires-else-shape-eq8-clause-able : goal.convolve_in-requires-else-shape-eq8-clause-able
convolve_in-requires-else-shape-eq8-clause-able c =
    let inputs : List Picture = c.args.inputs.now in
    let one = c.index-inputs-0.result in
    let some : 0 < length inputs = some_pictures (GeneralConvolution c.args.bias c.args.matrix.now) inputs c.requires.able in
    let same : one.shape ≡ shape_of inputs = first_shape inputs one some c.index-inputs-0.is in
    record {
      plane = rw same c.requires.plane;
      inside = rw same c.requires.inside;
      small = search rules;
      light = rw c.as_slice-weights.ensures (weights_are c.args.matrix.now.entries c.requires.able.lists);
      square = search rules;
    }

pub returns-then-shape-eq8-clause-row : goal.returns-then-shape-eq8-clause-row
returns-then-shape-eq8-clause-row c =
    let bias = c.args.bias in
    let matrix = c.args.matrix.now in
    let one = c.index-inputs-0.result in
    let inputs : List Picture = c.args.inputs.now in
    let fits : SFits w32 bias = search rules in
    let some : 0 < length inputs = some_pictures (GeneralConvolution bias matrix) inputs c.requires.able in
    let same : c.shape-shape.result ≡ shape_of inputs = c.shape-shape.ensures.shape ∙ first_shape inputs one some c.index-inputs-0.is in
    let narrow : (shape_of inputs).bits ≡ 8 = ap (λ (s : Shape). s.bits) (sym same) ∙ c.if-shape-eq8.true in
    convolved_listed bias matrix inputs one c.args.plane c.args.y (length c.args.out.now) c.convolve_in.new.out c.requires.able.asked c.index-inputs-0.is c.convolve_in.auto.out
    (λ x h. c.convolve_in.ensures.row x h ∙ ap (λ b. convolved b c.as_slice-weights.result.now one.shape (look_in one) c.args.plane x c.args.y) (to_z-of_z w32 bias fits)
    ∙ ap (λ ws. convolved bias ws one.shape (look_in one) c.args.plane x c.args.y) c.as_slice-weights.ensures)
    ∙ narrow_made (GeneralConvolution bias matrix) inputs c.args.plane c.args.y (length c.args.out.now) narrow c.requires.whole

pub returns-else-shape-eq8-clause-row : goal.returns-else-shape-eq8-clause-row
returns-else-shape-eq8-clause-row c =
    let bias = c.args.bias in
    let matrix = c.args.matrix.now in
    let one = c.index-inputs-0.result in
    let inputs : List Picture = c.args.inputs.now in
    let p = c.args.plane in
    let y = c.args.y in
    let width = plane_width (shape_of inputs) p in
    let samples = c.convolve_in-else-shape-eq8.new.out in
    let fits : SFits w32 bias = search rules in
    let some : 0 < length inputs = some_pictures (GeneralConvolution bias matrix) inputs c.requires.able in
    let same : c.shape-shape.result ≡ shape_of inputs = c.shape-shape.ensures.shape ∙ first_shape inputs one some c.index-inputs-0.is in
    let wide : ((shape_of inputs).bits == 8) ≡ false = ap (λ (s : Shape). s.bits == 8) (sym same) ∙ ne_eqb c.shape-shape.result.bits 8 c.if-shape-eq8.false in
    c.write_samples.ensures
    ∙ ap wide_bytes (convolved_listed bias matrix inputs one p y width samples c.requires.able.asked c.index-inputs-0.is (c.convolve_in-else-shape-eq8.auto.out ∙ c.requires.samples)
    (λ x h. c.convolve_in-else-shape-eq8.ensures.row x h ∙ ap (λ b. convolved b c.as_slice-weights.result.now one.shape (look_in one) p x y) (to_z-of_z w32 bias fits)
    ∙ ap (λ ws. convolved bias ws one.shape (look_in one) p x y) c.as_slice-weights.ensures))
    ∙ sym (bytes_of_wide (shape_of inputs) (row_made (GeneralConvolution bias matrix) inputs p y) wide)
