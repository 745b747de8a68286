use Rattle.std.proofs.lemmas.Grind.{common_steps}
use Rattle.std.proofs.Common.{rules, ◌≡◌, ◌∙◌, ◌==◌, false, length, ap, sym, arith}
use Rattle.fv_plane.specs.declared.format.Shape.{Shape}
use Rattle.fv_plane.specs.Picture.{wide_bytes}
use Rattle.fv_plane.specs.Format.{plane_width}
use Rattle.fv_plane.proofs.CallerLemmas.{bytes_of_narrow, bytes_of_wide}
use Rattle.clip_term.specs.Refusals.{paint}
use Rattle.clip_term.specs.Space.{space_shape}
use Rattle.flt_space.specs.Moves.{planned}
use Rattle.flt_space.specs.Rows.{row_made}
use Rattle.flt_space.proofs.RowLemmas.{more_bits, wide_kept}
use Rattle.flt_turn.proofs.PartLemmas.{narrow_bytes}
use Rattle.flt_space.proofs.borders.MovedRowsRowMaker.fill_row.Goals as goal

pub returns-then-shape-eq8-clause-row : goal.returns-then-shape-eq8-clause-row
returns-then-shape-eq8-clause-row g c =
    let rows = c.args.self.now in
    let op = g.M.RowMover.op rows.mover.now in
    let input = rows.input.now in
    let p = c.args.plane in
    let made : Shape = space_shape op input.shape in
    let bits : made.bits ≡ input.shape.bits = ap (λ (s : Shape). s.bits) (sym c.requires.able.make.is) ∙ c.requires.able.make.bits in
    let eight : input.shape.bits ≡ 8 = ap (λ (s : Shape). s.bits) (sym c.shape-shape.ensures.shape) ∙ c.if-shape-eq8.true in
    let long : length c.args.out.now ≡ plane_width made p = c.requires.whole ∙ narrow_bytes made p (bits ∙ eight) in
    let value : c.paint.result ≡ paint (g.M.RowMover.colour rows.mover.now) input.shape p = search rules in
    c.fill_narrow.ensures ∙ ap (λ v. planned c.plan-plan.result v input p (length c.args.out.now)) value
    ∙ ap (λ n. planned c.plan-plan.result (paint (g.M.RowMover.colour rows.mover.now) input.shape p) input p n) long
    ∙ c.plan-plan.ensures.row ∙ sym (bytes_of_narrow made (row_made op input p c.args.y) (bits ∙ eight))

pub returns-else-shape-eq8-clause-row : goal.returns-else-shape-eq8-clause-row
returns-else-shape-eq8-clause-row g c =
    let rows = c.args.self.now in
    let op = g.M.RowMover.op rows.mover.now in
    let input = rows.input.now in
    let p = c.args.plane in
    let made : Shape = space_shape op input.shape in
    let bits : made.bits ≡ input.shape.bits = ap (λ (s : Shape). s.bits) (sym c.requires.able.make.is) ∙ c.requires.able.make.bits in
    let more : (input.shape.bits == 8) ≡ false = more_bits input.shape c.shape-shape.result c.shape-shape.ensures.shape c.if-shape-eq8.false in
    let wide : (made.bits == 8) ≡ false = wide_kept made input.shape bits more in
    let value : c.wide_paint-colour.result ≡ paint (g.M.RowMover.colour rows.mover.now) input.shape p = search rules in
    c.fill_wide.ensures ∙ ap (λ v. wide_bytes (planned c.plan-plan.result v input p (length c.args.samples.now))) value
    ∙ ap (λ n. wide_bytes (planned c.plan-plan.result (paint (g.M.RowMover.colour rows.mover.now) input.shape p) input p n)) c.requires.samples
    ∙ ap wide_bytes c.plan-plan.ensures.row ∙ sym (bytes_of_wide made (row_made op input p c.args.y) wide)

pub fill_wide-requires-clause-wide : goal.fill_wide-requires-clause-wide
fill_wide-requires-clause-wide g c = grind (arith, common_steps)
