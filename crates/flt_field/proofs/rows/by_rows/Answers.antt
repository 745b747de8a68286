use Rattle.std.proofs.Common.{arith, ◌≡◌, ◌<◌, ◌≤◌, ◌∙◌, refl, List, ℕ, sym, ap, subst}
use Rattle.fv_plane.specs.declared.format.Shape.{Shape}
use Rattle.fv_plane.specs.Format.{IsLegal, planes, plane_height}
use Rattle.fv_plane.specs.Picture.{Picture}
use Rattle.fv_plane.proofs.FillLemmas.{filled_put, filled_plane, filled_done}
use Rattle.flt_field.specs.Made.{shape_made}
use Rattle.flt_field.proofs.RowLemmas.{row_known, rows_done, rows_look, wanted}
use Rattle.flt_field.proofs.rows.by_rows.Goals as goal

pub new_in-requires : goal.new_in-requires
new_in-requires c = subst (λ (s : Shape). IsLegal s) (sym c.shape_made-shape.ensures.made) c.requires.can.legal

pub loop-plane-init : goal.loop-plane-init
loop-plane-init c =
    let told = c.shape_made-shape.ensures.made in
    record {
      same = ap (λ (q : Picture). q.shape) c.in_ok-made.ensures.made ∙ told;
      sizes = c.in_ok-made.ensures.sizes;
      below = λ p z before there. absurd (omega arith);
      here = λ z before. absurd (omega arith);
    }

pub copy_row-requires : goal.copy_row-requires
copy_row-requires c =
    let o = c.args.op in
    let inputs : List Picture = c.args.inputs.now in
    let p : ℕ = c.loop-plane.plane in
    let y : ℕ = c.loop-y.y in
    let made : Shape = c.loop-y.made.shape in
    let same : made ≡ shape_made o inputs = c.loop-y.invariant.same in
    let known : made ≡ c.shape_made-shape.result = same ∙ sym c.shape_made-shape.ensures.made in
    let there : p < planes made.kind = omega (arith, c.loop-plane-test.true, c.planes-plane-end.ensures, ap (λ (s : Shape). planes s.kind) known) in
    let inside : y < plane_height made p = omega (arith, c.loop-y-test.true, c.plane_height-y-end.ensures, ap (λ (s : Shape). plane_height s p) known) in
    let row =
    row_known o c.args.field inputs p y c.place-input.result.0 c.place-input.result.1 c.index-inputs-input.result made c.requires.can c.requires.written c.shape_made-shape.ensures.legal same there inside
    c.index-inputs-input.is c.place-input.ensures.input c.place-input.ensures.row in
    record { like = row.like; plane = row.plane; row = row.inside; inside = inside }

pub loop-y-preserved : goal.loop-y-preserved
loop-y-preserved c =
    let o = c.args.op in
    let inputs : List Picture = c.args.inputs.now in
    let p : ℕ = c.loop-plane.plane in
    let y : ℕ = c.loop-y.y in
    let made : Shape = c.loop-y.made.shape in
    let same : made ≡ shape_made o inputs = c.loop-y.invariant.same in
    let known : made ≡ c.shape_made-shape.result = same ∙ sym c.shape_made-shape.ensures.made in
    let there : p < planes made.kind = omega (arith, c.loop-plane-test.true, c.planes-plane-end.ensures, ap (λ (s : Shape). planes s.kind) known) in
    let inside : y < plane_height made p = omega (arith, c.loop-y-test.true, c.plane_height-y-end.ensures, ap (λ (s : Shape). plane_height s p) known) in
    let row =
    row_known o c.args.field inputs p y c.place-input.result.0 c.place-input.result.1 c.index-inputs-input.result made c.requires.can c.requires.written c.shape_made-shape.ensures.legal same there inside
    c.index-inputs-input.is c.place-input.ensures.input c.place-input.ensures.row in
    filled_put (wanted o c.args.field inputs) (shape_made o inputs) c.loop-y.made c.copy_row.new.made p y _ c.loop-y.invariant c.copy_row.ensures.sizes c.copy_row.ensures.shape c.copy_row.ensures.rows
    (row.wanted c.copy_row.ensures.whole) (omega (arith, there, ap (λ (s : Shape). planes s.kind) same)) (omega (arith, inside, ap (λ (s : Shape). plane_height s p) same))

pub loop-plane-preserved : goal.loop-plane-preserved
loop-plane-preserved c =
    let o = c.args.op in
    let inputs : List Picture = c.args.inputs.now in
    let told = c.shape_made-shape.ensures.made in
    let p : ℕ = c.loop-plane.plane in
    filled_plane (wanted o c.args.field inputs) (shape_made o inputs) c.loop-y.made p c.loop-y.y (omega (arith, c.loop-y-test.false, c.plane_height-y-end.ensures, ap (λ (s : Shape). plane_height s p) told)) c.loop-y.invariant

pub returns : goal.returns
returns c =
    let o = c.args.op in
    let inputs : List Picture = c.args.inputs.now in
    let told = c.shape_made-shape.ensures.made in
    let p : ℕ = c.loop-plane.plane in
    let end = ap (λ (s : Shape). planes s.kind) told in
    let most : planes (shape_made o inputs).kind ≤ p = omega (arith, end, c.planes-plane-end.ensures, c.loop-plane-test.false) in
    let least : p ≤ planes (shape_made o inputs).kind = omega (arith, end, c.planes-plane-end.ensures, c.loop-plane.auto.plane-end) in
    let done = filled_done (wanted o c.args.field inputs) (shape_made o inputs) c.loop-plane.made (rows_look o c.args.field inputs) p 0 c.loop-plane.invariant most least (λ q z there inside. refl) in
    rows_done o c.args.field inputs c.finish.result c.requires.written (rw (← done) c.finish.ensures)
