use Rattle.std.proofs.Common.{arith, ◌≡◌, ◌+◌, ◌<◌, ◌≤◌, ◌∙◌, List, ℕ, [], sym, ap, length, map, get_or, take, drop, refl, subst}
use Rattle.std.proofs.lemmas.List.{take_all, get_or_read_under}
use Rattle.fv_plane.specs.declared.format.Shape.{Shape}
use Rattle.fv_plane.specs.Format.{planes, plane_width, plane_height}
use Rattle.fv_plane.specs.Picture.{Picture, rows_of_bytes, look_in}
use Rattle.fv_plane.proofs.FillLemmas.{Filled, filled_plane, filled_done}
use Rattle.fv_plane.proofs.FrameLemmas.{plane_height_le}
use Rattle.clip_term.specs.declared.op.JoinOp.TheVariants.{StackVertical}
use Rattle.clip_term.specs.Join.{join_at}
use Rattle.flt_merge.specs.Joined.{infos_in, shape_joined}
use Rattle.flt_merge.specs.Rows.{plane_of_all, rows_beneath}
use Rattle.fv_plane.proofs.WholePlaneLemmas.{RowBytes, filled_rows, row_bytes_are}
use Rattle.flt_merge.proofs.StackLemmas.{Next, next_of, beneath_by, all_rows, beneath_listed, next_is, next_planes, next_width, next_bits, fit_rows, next_ends, next_after, next_wanted}
use Rattle.flt_merge.proofs.stack.stack_vertical.Goals as goal
use Rattle.flt_merge.proofs.stack.stack_vertical.Goals.{After-plane_height-height, After-rows_from-count}

pub loop-plane-init : goal.loop-plane-init
loop-plane-init c = record {
  same = ap (λ (q : Picture). q.shape) c.in_ok-made.ensures.made ∙ c.shape_beneath-shape.ensures.shape;
  sizes = c.in_ok-made.ensures.sizes;
  below = λ p z before there. absurd (omega arith);
  here = λ z before. absurd (omega arith);
}

pub loop-y-init : goal.loop-y-init
loop-y-init c =
    let from : c.loop-i.top ≡ c.loop-i.top + 0 = omega arith in
    record {
      inside = omega arith;
      filled = subst (λ n. Filled (rows_beneath c.args.inputs.now) (shape_joined StackVertical c.args.inputs.now) c.loop-i.made c.loop-plane.plane n) from c.loop-i.invariant.filled;
    }

-- the picture whose height is read
first : (c : After-plane_height-height) → Next (shape_joined StackVertical c.args.inputs.now) c.args.inputs.now c.loop-plane.plane c.loop-i.i c.index-inputs-i.result
first c = next_of c.shape_beneath-shape.ensures.sizes c.requires.alike c.shape_beneath-shape.ensures.shape c.planes-plane-end.ensures c.loop-plane-test.true c.loop-i-test.true c.index-inputs-i.is

height : (c : After-plane_height-height) → c.plane_height-height.result ≡ plane_height c.index-inputs-i.result.shape c.loop-plane.plane
height c = c.plane_height-height.ensures ∙ ap (λ (s : Shape). plane_height s c.loop-plane.plane) c.shape.ensures.shape

room : (c : After-plane_height-height) → c.loop-i.top + c.plane_height-height.result ≤ 65535
room c =
    let high = plane_height_le (shape_joined StackVertical c.args.inputs.now) c.loop-plane.plane in
    omega (arith, next_ends (first c) c.loop-i.top c.loop-i.invariant.top, height c, high, c.requires.legal.most_height)

-- the picture whose rows are read, and their bytes
again : (c : After-rows_from-count) → Next (shape_joined StackVertical c.args.inputs.now) c.args.inputs.now c.loop-plane.plane c.loop-i.i c.index-inputs-i-in-loop-y.result
again c = next_of c.shape_beneath-shape.ensures.sizes c.requires.alike c.shape_beneath-shape.ensures.shape c.planes-plane-end.ensures c.loop-plane-test.true c.loop-i-test.true c.index-inputs-i-in-loop-y.is

bits : (c : After-rows_from-count) → c.index-inputs-i-in-loop-y.result.shape.bits ≡ c.loop-y.made.shape.bits
bits c = next_bits (again c) ∙ ap (λ (s : Shape). s.bits) (sym c.loop-y.invariant.filled.same)

bytes : (c : After-rows_from-count)
    → RowBytes c.loop-y.made.shape c.loop-plane.plane c.rows_from-count.result.1 (take c.rows_from-count.result.1 (drop c.loop-y.y (get_or c.index-inputs-i-in-loop-y.result.planes c.loop-plane.plane []))) c.rows_from-count.result.0.now
bytes c =
    let width = next_width (again c) ∙ ap (λ (s : Shape). plane_width s c.loop-plane.plane) (sym c.loop-y.invariant.filled.same) in
    row_bytes_are _ _ _ _ _ _ (next_is (again c)) (next_planes (again c)) c.rows_from-count.ensures.inside width (bits c) c.rows_from-count.ensures.rows

pub overflow_add-top : goal.overflow_add-top
overflow_add-top c = record { fits = omega (arith, room (goal.at.overflow_add-top c).After-plane_height-height, c.loop-y.invariant.inside) }

pub put_rows-requires-clause-inside : goal.put_rows-requires-clause-inside
put_rows-requires-clause-inside c =
    let ends = next_ends (again (goal.at.put_rows-requires-clause-inside c).After-rows_from-count) c.loop-i.top c.loop-i.invariant.top in
    omega (arith, ends, c.rows_from-count.ensures.inside, ap (λ (s : Shape). plane_height s c.loop-plane.plane) c.loop-y.invariant.filled.same)

pub put_rows-requires-clause-whole : goal.put_rows-requires-clause-whole
put_rows-requires-clause-whole c = (bytes (goal.at.put_rows-requires-clause-whole c).After-rows_from-count).long

pub put_rows-requires-clause-fits : goal.put_rows-requires-clause-fits
put_rows-requires-clause-fits c =
    let d = (goal.at.put_rows-requires-clause-fits c).After-rows_from-count in
    fit_rows _ _ _ _ _ _ (next_is (again d)) (bits d) c.rows_from-count.ensures.rows

pub loop-y-preserved : goal.loop-y-preserved
loop-y-preserved c =
    let d = (goal.at.loop-y-preserved c).After-rows_from-count in
    let inputs : List Picture = c.args.inputs.now in
    let shape : Shape = shape_joined StackVertical inputs in
    let p : ℕ = c.loop-plane.plane in
    let top : ℕ = c.loop-i.top in
    let y : ℕ = c.loop-y.y in
    let n : ℕ = c.rows_from-count.result.1 in
    let put = bytes d in
    let ends = next_ends (again d) top c.loop-i.invariant.top in
    let place : top + y + n ≡ top + (y + n) = omega arith in
    let alike : plane_height c.index-inputs-i-in-loop-y.result.shape p ≡ plane_height c.index-inputs-i.result.shape p =
    ap (λ (q : Picture). plane_height q.shape p) (get_or_read_under inputs c.loop-i.i (length inputs) _ _ c.index-inputs-i-in-loop-y.is c.loop-i-test.true refl ∙ sym c.index-inputs-i.is) in
    record {
      inside = omega (arith, c.rows_from-count.ensures.inside, height (goal.at.loop-y-preserved c).After-plane_height-height, alike);
      filled = subst (λ k. Filled (rows_beneath inputs) shape c.put_rows.new.self p k) place
          (filled_rows (rows_beneath inputs) shape c.loop-y.made c.put_rows.new.self p (top + y) n (rows_of_bytes c.loop-y.made.shape p n c.rows_from-count.result.0.now)
          c.loop-y.invariant.filled c.put_rows.ensures.sizes c.put_rows.ensures.shape c.put_rows.ensures.rows (ap length put.same ∙ put.count)
          (λ z within. ap (λ (l : List (List ℕ)). get_or l z []) put.same ∙ next_wanted (again d) top y n z c.loop-i.invariant.top c.rows_from-count.ensures.inside within)
          (again d).there (omega (arith, ends, c.rows_from-count.ensures.inside)));
    }

pub overflow_add-top-in-loop-i : goal.overflow_add-top-in-loop-i
overflow_add-top-in-loop-i c = record { fits = omega (arith, room (goal.at.overflow_add-top-in-loop-i c).After-plane_height-height) }

pub loop-i-preserved : goal.loop-i-preserved
loop-i-preserved c =
    let d = (goal.at.loop-i-preserved c).After-plane_height-height in
    let whole : c.loop-y.y ≡ c.plane_height-height.result = omega (arith, c.loop-y.invariant.inside, c.loop-y-test.false) in
    record {
      top = ap (λ k. c.loop-i.top + k) (height d) ∙ next_after (first d) c.loop-i.top c.loop-i.invariant.top;
      filled = subst (λ k. Filled (rows_beneath c.args.inputs.now) (shape_joined StackVertical c.args.inputs.now) c.loop-y.made c.loop-plane.plane (c.loop-i.top + k)) whole c.loop-y.invariant.filled;
    }

pub loop-plane-preserved : goal.loop-plane-preserved
loop-plane-preserved c =
    let inputs : List Picture = c.args.inputs.now in
    let shape : Shape = shape_joined StackVertical inputs in
    let is_shape : c.shape_beneath-shape.result ≡ shape = c.shape_beneath-shape.ensures.shape in
    let make = beneath_by shape inputs refl c.shape_beneath-shape.ensures.sizes c.requires.alike in
    let p : ℕ = c.loop-plane.plane in
    let there : p < planes shape.kind = omega (arith, c.loop-plane-test.true, c.planes-plane-end.ensures, ap (λ (s : Shape). planes s.kind) is_shape) in
    let all : take c.loop-i.i inputs ≡ inputs = take_all c.loop-i.i inputs (omega (arith, c.loop-i-test.false)) in
    let top : c.loop-i.top ≡ plane_height shape p = c.loop-i.invariant.top ∙ ap (λ (l : List Picture). length (plane_of_all l p)) all ∙ all_rows shape inputs make p there in
    filled_plane (rows_beneath inputs) shape c.loop-i.made p c.loop-i.top (omega arith) c.loop-i.invariant.filled

pub returns : goal.returns
returns c =
    let inputs : List Picture = c.args.inputs.now in
    let shape : Shape = shape_joined StackVertical inputs in
    let is_shape : c.shape_beneath-shape.result ≡ shape = c.shape_beneath-shape.ensures.shape in
    let make = beneath_by shape inputs refl c.shape_beneath-shape.ensures.sizes c.requires.alike in
    let p : ℕ = c.loop-plane.plane in
    let end = ap (λ (s : Shape). planes s.kind) is_shape in
    rw (← filled_done (rows_beneath inputs) shape c.loop-plane.made (join_at StackVertical (infos_in inputs) (map look_in inputs)) p 0 c.loop-plane.invariant
    (omega (arith, end, c.planes-plane-end.ensures, c.loop-plane-test.false)) (omega (arith, end, c.planes-plane-end.ensures, c.loop-plane.auto.plane-end)) (beneath_listed shape inputs make)) c.finish.ensures
