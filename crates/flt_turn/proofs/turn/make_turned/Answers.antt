use Rattle.std.proofs.Common.{rules, ◌≡◌, ◌∙◌, ◌+◌, ◌*◌, ◌<◌, ◌≤◌, ℕ, List, arith, ap, sym, refl, length}
use Rattle.fv_plane.specs.declared.format.Shape.{Shape}
use Rattle.fv_plane.specs.Picture.{row_of_bytes, rows_of_bytes, look_in, row_from}
use Rattle.fv_plane.specs.Format.{largest_sample, planes, plane_width, plane_height, row_bytes, sample_bytes}
use Rattle.fv_plane.proofs.BytesLemmas.{row_of_bytes-same}
use Rattle.fv_plane.proofs.FillLemmas.{filled_plane, filled_done}
use Rattle.fv_plane.proofs.WholePlaneLemmas.{rows_listed, filled_rows}
use Rattle.clip_term.specs.declared.op.SpaceOp.TheVariants.{TurnLeft}
use Rattle.clip_term.specs.Space.{space_at, space_shape}
use Rattle.flt_turn.proofs.TurnLemmas.{turned_width, rows_are, rows_count, samples_count, rows_fit}
use Rattle.flt_turn.proofs.turn.make_turned.Goals as goal

pub loop-y-preserved : goal.loop-y-preserved
loop-y-preserved g c =
    let input = c.args.input.now in
    let shape = c.on_side-shape.result in
    let plane = c.loop-plane.plane in
    let high = plane_height input.shape plane in
    let at = space_at g.T.Turn.op input.shape (look_in input) in
    let bytes = c.deref.result.now in
    let made = c.loop-y.made in
    let is : shape ≡ space_shape TurnLeft input.shape = c.on_side-shape.ensures ∙ ap (space_shape TurnLeft) c.shape.ensures.shape in
    let wide : plane_width shape plane ≡ high
    = ap (λ (s : Shape). plane_width s plane) is ∙ turned_width input.shape.kind input.shape.bits input.shape.width input.shape.height plane c.requires.accepted in
    let bits : made.shape.bits ≡ input.shape.bits = ap (λ (s : Shape). s.bits) (c.loop-y.invariant.1.same ∙ is) in
    let across : plane_width made.shape plane ≡ high = ap (λ (s : Shape). plane_width s plane) c.loop-y.invariant.1.same ∙ wide in
    let told : bytes ≡ c.in_ok-rows.rows.items = c.deref.ensures.value in
    let samples : List ℕ = row_of_bytes input.shape c.in_ok-rows.rows.items in
    let read : row_of_bytes made.shape bytes ≡ samples = row_of_bytes-same made.shape input.shape bytes bits ∙ ap (row_of_bytes input.shape) told in
    let long : length samples ≡ c.min-count.result * high = samples_count input.shape c.min-count.result high c.in_ok-rows.rows.items c.in_ok-rows.ensures.long in (
      search rules,
      filled_rows (rows_listed shape at) shape made c.put_rows.new.self plane c.loop-y.y c.min-count.result (rows_of_bytes made.shape plane c.min-count.result bytes)
          c.loop-y.invariant.1 c.put_rows.ensures.sizes c.put_rows.ensures.shape c.put_rows.ensures.rows
          (rows_count made.shape (row_bytes made.shape plane) c.min-count.result bytes)
          (λ z less.
          rows_are made.shape at plane plane c.loop-y.y c.min-count.result high z bytes samples across read long
          (λ k x few within. c.in_ok-rows.ensures.rows k x few within) less
          ∙ ap (λ w. row_from at plane w (c.loop-y.y + z)) (sym wide))
          (search rules) (search rules),
    )

pub turned_rows-requires-clause-rows : goal.turned_rows-requires-clause-rows
turned_rows-requires-clause-rows g c =
    let is : c.on_side-shape.result ≡ space_shape TurnLeft c.args.input.now.shape = c.on_side-shape.ensures ∙ ap (space_shape TurnLeft) c.shape.ensures.shape in
    let there : c.loop-plane.plane < planes c.on_side-shape.result.kind = search rules in
    record {
      plane = omega (arith, there, ap (λ (s : Shape). planes s.kind) is);
      inside = search rules;
      few = search rules;
      high = search rules;
    }

pub put_rows-requires-clause-plane : goal.put_rows-requires-clause-plane
put_rows-requires-clause-plane g c =
    let there : c.loop-plane.plane < planes c.on_side-shape.result.kind = search rules in
    rw c.loop-y.invariant.1.same there

pub put_rows-requires-clause-inside : goal.put_rows-requires-clause-inside
put_rows-requires-clause-inside g c =
    let inside : c.loop-y.y + c.min-count.result ≤ plane_height c.on_side-shape.result c.loop-plane.plane = search rules in
    rw c.loop-y.invariant.1.same inside

pub put_rows-requires-clause-whole : goal.put_rows-requires-clause-whole
put_rows-requires-clause-whole g c =
    let input = c.args.input.now in
    let shape = c.on_side-shape.result in
    let plane = c.loop-plane.plane in
    let is : shape ≡ space_shape TurnLeft input.shape = c.on_side-shape.ensures ∙ ap (space_shape TurnLeft) c.shape.ensures.shape in
    let wide : plane_width c.loop-y.made.shape plane ≡ plane_height input.shape plane
    = ap (λ (s : Shape). plane_width s plane) (c.loop-y.invariant.1.same ∙ is)
    ∙ turned_width input.shape.kind input.shape.bits input.shape.width input.shape.height plane c.requires.accepted in
    let bits : sample_bytes c.loop-y.made.shape ≡ sample_bytes input.shape = ap (λ (s : Shape). sample_bytes s) (c.loop-y.invariant.1.same ∙ is) in
    ap length c.deref.ensures.value ∙ c.in_ok-rows.ensures.long ∙ sym (ap (λ n. c.min-count.result * (n * sample_bytes c.loop-y.made.shape)) wide
    ∙ ap (λ n. c.min-count.result * (plane_height input.shape plane * n)) bits)

pub put_rows-requires-clause-fits : goal.put_rows-requires-clause-fits
put_rows-requires-clause-fits g c = λ wide i.
    let input = c.args.input.now in
    let made = c.loop-y.made in
    let plane = c.loop-plane.plane in
    let high : ℕ = plane_height input.shape plane in
    let is : c.on_side-shape.result ≡ space_shape TurnLeft input.shape = c.on_side-shape.ensures ∙ ap (space_shape TurnLeft) c.shape.ensures.shape in
    let bits : made.shape.bits ≡ input.shape.bits = ap (λ (s : Shape). s.bits) (c.loop-y.invariant.1.same ∙ is) in
    let bytes : List ℕ = c.in_ok-rows.rows.items in
    let read : row_of_bytes made.shape c.deref.result.now ≡ row_of_bytes input.shape bytes
    = row_of_bytes-same made.shape input.shape c.deref.result.now bits ∙ ap (row_of_bytes input.shape) c.deref.ensures.value in
    let at = space_at g.T.Turn.op input.shape (look_in input) in
    rw (read, bits)
    (rows_fit at plane c.loop-y.y c.min-count.result high (largest_sample input.shape) (row_of_bytes input.shape bytes)
    (λ x z. rw (c.requires.turns plane x z) (c.shape.ensures.sizes.bounded plane (g.T.Turn.column_of (plane_width input.shape plane) z) (g.T.Turn.row_of high x)))
    (samples_count input.shape c.min-count.result high bytes c.in_ok-rows.ensures.long)
    (λ k x few within. c.in_ok-rows.ensures.rows k x few within) i)

pub loop-plane-preserved : goal.loop-plane-preserved
loop-plane-preserved g c =
    filled_plane (rows_listed c.on_side-shape.result (space_at g.T.Turn.op c.args.input.now.shape (look_in c.args.input.now))) c.on_side-shape.result c.loop-y.made c.loop-plane.plane c.loop-y.y
    (search rules) c.loop-y.invariant.1

pub returns : goal.returns
returns g c =
    let input = c.args.input.now in
    let shape = c.on_side-shape.result in
    let at = space_at g.T.Turn.op input.shape (look_in input) in
    let is : shape ≡ space_shape TurnLeft input.shape = c.on_side-shape.ensures ∙ ap (space_shape TurnLeft) c.shape.ensures.shape in
    rw (← (is ∙ sym c.requires.side), ← filled_done (rows_listed shape at) shape c.loop-plane.made at c.loop-plane.plane 0 (search rules) (search rules) (search rules) (λ p z there inside. refl)) c.finish.ensures
