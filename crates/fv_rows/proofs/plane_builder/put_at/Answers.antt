use Rattle.std.proofs.Common.{◌≡◌, ◌≤◌, ◌+◌, ◌*◌, ℕ, List, length, refl, arith, rules, length-append, ◌∙◌, ap}
use Rattle.fv_rows.specs.Rows.{rows_of, rows_put, built_rows, filled_to}
use Rattle.fv_rows.proofs.RowLemmas.{put-filled, filled-filled, length-filled, times_le, times_add}
use Rattle.fv_rows.proofs.plane_builder.put_at.Goals as goal
use Rattle.fv_rows.proofs.plane_builder.put_at.Goals.{After-fill_up}

-- the bytes end where the rows begin
ends : (c : After-fill_up) → length c.fill_up.new.bytes.items ≡ c.args.y * c.args.width
ends c =
    let so_far : length c.args.bytes.now.items ≤ c.args.y * c.args.width = search rules in
    ap length c.fill_up.ensures.filled ∙ length-filled (c.args.y * c.args.width) c.args.filler c.args.bytes.now.items so_far

fits : (y count height width : ℕ) → y + count ≤ height → y * width + count * width ≤ height * width
fits y count height width inside = omega (arith, times_le (y + count) height width inside, times_add y count width)

pub append-requires-clause-fits : goal.append-requires-clause-fits
append-requires-clause-fits c =
    let at = ends (goal.at.append-requires-clause-fits c).After-fill_up in
    omega (arith, at, fits c.args.y c.args.count c.args.height c.args.width c.requires.inside, c.requires.rows)

pub returns-then-len-at-clause-put : goal.returns-then-len-at-clause-put
returns-then-len-at-clause-put c =
    let w : ℕ = c.args.width in
    let h : ℕ = c.args.height in
    let at : ℕ = c.args.y * w in
    let here : length c.fill_up.new.bytes.items ≡ at = ends (goal.at.returns-then-len-at-clause-put c).After-fill_up in
    let so_far : length c.args.bytes.now.items ≤ at = search rules in
    let inside : at ≤ h * w = times_le c.args.y h w (omega (arith, c.requires.inside)) in
    let same : filled_to (h * w) c.args.filler c.fill_up.new.bytes.items ≡ filled_to (h * w) c.args.filler c.args.bytes.now.items
    = ap (filled_to (h * w) c.args.filler) c.fill_up.ensures.filled ∙ filled-filled (h * w) at c.args.filler c.args.bytes.now.items so_far inside in
    ap (built_rows w h c.args.filler) c.append.ensures.added
    ∙ put-filled c.fill_up.new.bytes.items c.args.rows.now (h * w) c.args.filler w h c.args.y c.args.count refl here c.requires.inside c.requires.rows
    ∙ ap (λ (l : List ℕ). rows_put (rows_of l w w h) c.args.y (rows_of c.args.rows.now w w c.args.count)) same

pub returns-then-len-at-clause-fits : goal.returns-then-len-at-clause-fits
returns-then-len-at-clause-fits c =
    let at = ends (goal.at.returns-then-len-at-clause-fits c).After-fill_up in
    rw (c.append.ensures.added, length-append) (omega (arith, at, fits c.args.y c.args.count c.args.height c.args.width c.requires.inside, c.requires.rows))
