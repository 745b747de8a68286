use Rattle.std.proofs.Common.{arith, ◌≡◌, ◌∙◌, ap, ℕ, get_or}
use Rattle.std.specs.Prelude.{pos, ◌*ℤ◌, ◌%◌, ◌/◌}
use Rattle.fv_plane.specs.Format.{plane_width, plane_height}
use Rattle.fv_plane.specs.Picture.{look_in}
use Rattle.std.proofs.lemmas.Int.{ints}
use Rattle.clip_term.specs.Soft.{place}
use Rattle.clip_reference.proofs.WeightLemmas.{weighed_more}
use Rattle.clip_reference.proofs.soft.weighed.Goals as goal
use mir.Val.{to_z, of_z}
use mir.Syntax.{w32}

pub loop-k-preserved : goal.loop-k-preserved
loop-k-preserved c =
    let side = c.side_of-side.result in
    let k = c.loop-k.k in
    let entry = get_or c.args.matrix.now k (pos 0) in
    let p = c.args.plane in
    let column = place c.args.x (k % side) (side / 2) (plane_width c.args.shape p) in
    let row = place c.args.y (k / side) (side / 2) (plane_height c.args.shape p) in
    let more = weighed_more side k c.args.matrix.now c.args.shape (look_in c.args.input.now) p c.args.x c.args.y (pos 0) c.loop-k-test.true in
    let read : to_z w32 (of_z w32 entry) ≡ entry = omega (arith, ints) in
    let column_is : c.place-column.result ≡ column = c.place-column.ensures ∙ ap (λ size. place c.args.x (k % side) (side / 2) size) c.width.ensures in
    let row_is : c.place-row.result ≡ row = c.place-row.ensures ∙ ap (λ size. place c.args.y (k / side) (side / 2) size) c.height.ensures in
    let at : ℕ → ℕ → ℕ = λ x y. look_in c.args.input.now p x y in
    let sample : c.look.result ≡ at column row = c.look.ensures ∙ ap (λ x. at x c.place-row.result) column_is ∙ ap (λ y. at column y) row_is in
    let here : c.times-sum.result ≡ entry *ℤ pos (at column row)
    = c.times-sum.ensures.value ∙ ap (λ e. e *ℤ pos c.look.result) read ∙ ap (λ v. entry *ℤ pos v) sample in
    record {
      made = omega (arith, ints, more, here, c.loop-k.invariant.made);
      low = omega (arith, ints);
      high = omega (arith, ints);
    }
