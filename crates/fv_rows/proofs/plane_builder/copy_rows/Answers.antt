use Rattle.std.proofs.Common.{◌≡◌, ◌*◌, ℕ, List, length, take, arith, ap, ◌∙◌, ◌+◌}
use Rattle.std.proofs.lemmas.List.{take_all}
use Rattle.fv_rows.specs.Rows.{flat_rows}
use Rattle.fv_rows.proofs.RowLemmas.{length-front, rows_of-flat_all, length-flat_rows, times_le}
use Rattle.fv_rows.proofs.plane_builder.copy_rows.Goals as goal

pub append-requires-clause-fits : goal.append-requires-clause-fits
append-requires-clause-fits c =
    let p : List (List ℕ) = c.args.plane.now in
    let y : ℕ = c.loop-y.y in
    let w : ℕ = c.args.width in
    let so_far : length c.loop-y.bytes.items ≡ y * w = ap length c.loop-y.invariant.rows ∙ length-front w c.args.height y p c.requires.like (omega arith) in
    let row : length c.row.result.now ≡ w = ap length c.row.ensures ∙ c.requires.like.widths y (omega arith) in
    omega (arith, times_le (y + 1) c.args.height w (omega arith))

pub returns-clause-rows : goal.returns-clause-rows
returns-clause-rows c = rw c.loop-y.invariant.rows (
    let p : List (List ℕ) = c.args.plane.now in
    let all : take c.loop-y.y p ≡ p = take_all c.loop-y.y p (omega (arith, c.requires.like.count)) in
    rw all (rows_of-flat_all c.args.width c.args.height p c.requires.like))

pub returns-clause-full : goal.returns-clause-full
returns-clause-full c =
    let p : List (List ℕ) = c.args.plane.now in
    let all : take c.loop-y.y p ≡ p = take_all c.loop-y.y p (omega (arith, c.requires.like.count)) in
    ap length (c.loop-y.invariant.rows ∙ ap flat_rows all) ∙ length-flat_rows c.args.width c.args.height p c.requires.like
