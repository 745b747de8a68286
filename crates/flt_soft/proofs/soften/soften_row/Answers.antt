use Rattle.std.proofs.Common.{◌≡◌, ◌<◌, ◌∙◌, ◌*◌, ◌==◌, List, false, if◌then◌else◌, ap, sym, arith, length, pos, ne_eqb}
use Rattle.clip_term.specs.declared.op.SoftOp.TheVariants.{TemporalSoften}
use Rattle.fv_plane.specs.declared.format.Shape.{Shape}
use Rattle.fv_plane.specs.Picture.{wide_bytes, Picture}
use Rattle.fv_plane.specs.Format.{plane_width, scale}
use Rattle.fv_plane.proofs.CallerLemmas.{bytes_of_narrow, bytes_of_wide}
use Rattle.flt_soft.specs.Pictures.{row_made, shape_of}
use Rattle.flt_soft.proofs.PictureLemmas.{first_shape, narrow_width, some_pictures}
use Rattle.flt_soft.proofs.SoftenLemmas.{means_listed, means_made, some_scaled, some_threshold}
use Rattle.flt_soft.proofs.soften.soften_row.Goals as goal

pub soften-requires-clause-some : goal.soften-requires-clause-some
soften-requires-clause-some c = search (arith, some_scaled, some_threshold)

pub soften-requires-else-shape-eq8-clause-some : goal.soften-requires-else-shape-eq8-clause-some
soften-requires-else-shape-eq8-clause-some c = search (arith, some_scaled, some_threshold)

pub returns-then-shape-eq8-clause-row : goal.returns-then-shape-eq8-clause-row
returns-then-shape-eq8-clause-row c =
    let inputs : List Picture = c.args.inputs.now in
    let p = c.args.plane in
    let t = c.scaled-threshold.result in
    let op = TemporalSoften (pos c.args.radius) (pos c.args.luma) (pos c.args.chroma) in
    let some : 0 < length inputs = some_pictures op inputs c.requires.able in
    let same : c.shape-shape.result ≡ shape_of inputs = c.shape-shape.ensures.shape ∙ first_shape inputs c.index-inputs-0.result some c.index-inputs-0.is in
    let narrow : (shape_of inputs).bits ≡ 8 = ap (λ (s : Shape). s.bits) (sym same) ∙ c.if-shape-eq8.true in
    let long : length c.soften.new.out ≡ plane_width (shape_of inputs) p = c.soften.auto.out ∙ narrow_width (shape_of inputs) p (length c.args.out.now) narrow c.requires.whole in
    let is : t ≡ (if p == 0 then c.args.luma else c.args.chroma) * scale (shape_of inputs)
    = c.scaled-threshold.ensures ∙ ap (λ n. n * scale c.shape-shape.result) c.threshold-threshold.ensures ∙ ap (λ (s : Shape). (if p == 0 then c.args.luma else c.args.chroma) * scale s) same in
    means_listed inputs t p c.args.y c.soften.new.out long c.soften.ensures
    ∙ means_made c.args.radius c.args.luma c.args.chroma t inputs p c.args.y (omega (arith, c.requires.able.asked)) is
    ∙ sym (bytes_of_narrow (shape_of inputs) (row_made op inputs p c.args.y) narrow)

pub returns-else-shape-eq8-clause-row : goal.returns-else-shape-eq8-clause-row
returns-else-shape-eq8-clause-row c =
    let inputs : List Picture = c.args.inputs.now in
    let p = c.args.plane in
    let t = c.scaled-threshold.result in
    let op = TemporalSoften (pos c.args.radius) (pos c.args.luma) (pos c.args.chroma) in
    let some : 0 < length inputs = some_pictures op inputs c.requires.able in
    let same : c.shape-shape.result ≡ shape_of inputs = c.shape-shape.ensures.shape ∙ first_shape inputs c.index-inputs-0.result some c.index-inputs-0.is in
    let wide : ((shape_of inputs).bits == 8) ≡ false = ap (λ (s : Shape). s.bits == 8) (sym same) ∙ ne_eqb c.shape-shape.result.bits 8 c.if-shape-eq8.false in
    let is : t ≡ (if p == 0 then c.args.luma else c.args.chroma) * scale (shape_of inputs)
    = c.scaled-threshold.ensures ∙ ap (λ n. n * scale c.shape-shape.result) c.threshold-threshold.ensures ∙ ap (λ (s : Shape). (if p == 0 then c.args.luma else c.args.chroma) * scale s) same in
    let samples = c.soften-else-shape-eq8.new.out in
    c.write_samples.ensures
    ∙ ap wide_bytes (means_listed inputs t p c.args.y samples (c.soften-else-shape-eq8.auto.out ∙ c.requires.samples) c.soften-else-shape-eq8.ensures
    ∙ means_made c.args.radius c.args.luma c.args.chroma t inputs p c.args.y (omega (arith, c.requires.able.asked)) is)
    ∙ sym (bytes_of_wide (shape_of inputs) (row_made op inputs p c.args.y) wide)
