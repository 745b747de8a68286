use Rattle.std.proofs.Common.{◌≡◌, ◌<◌, ◌∙◌, List, ℕ, [], get_or, length, drop, ap, sym, arith}
use Rattle.fv_rows.specs.Rows.{rows_of, first_stored}
use Rattle.fv_rows.proofs.RowLemmas.{length-rows_of, row_at}
use Rattle.fv_rows.proofs.SeenLemmas.{length-seen, row-seen, inside-stored}
use Rattle.fv_rows.proofs.plane.Plane.row.Goals as goal
use Rattle.fv_rows.proofs.plane.Plane.row.Goals.{After-as_slice}

-- the rows as they are stored
abbrev stored : (c : After-as_slice) → List (List ℕ)
stored c = let p = c.self.inside in rows_of (drop p.offset p.bytes.value.items) p.stride p.width p.height

high : (c : After-as_slice) → length (stored c) ≡ c.self.inside.height
high c = let p = c.self.inside in length-rows_of (drop p.offset p.bytes.value.items) p.stride p.width p.height

-- the row is one of the plane's
inside : (c : After-as_slice) → c.args.y < c.self.inside.height
inside c = omega (arith, c.requires, ap length c.self.view_is, length-seen c.self.inside.upwards (stored c), high c)

below : (c : After-as_slice) → first_stored c.self.inside.upwards c.self.inside.height c.args.y 1 < c.self.inside.height
below c = omega (arith, inside-stored c.self.inside.upwards c.self.inside.height c.args.y 1 (omega (arith, inside c)))

pub first_stored-requires : goal.first_stored-requires
first_stored-requires c = omega (arith, inside (goal.at.first_stored-requires c).After-as_slice)

pub row_in-requires : goal.row_in-requires
row_in-requires c =
    let at = (goal.at.row_in-requires c).After-as_slice in
    rw (c.first_stored.ensures, c.as_slice.ensures.value, c.deref.ensures) (c.self.invariant.0 (first_stored c.self.inside.upwards c.self.inside.height c.args.y 1) (below at))

pub returns : goal.returns
returns c =
    let p = c.self.inside in
    let at = (goal.at.returns c).After-as_slice in
    let y : ℕ = first_stored p.upwards p.height c.args.y 1 in
    rw (c.row_in.ensures, c.first_stored.ensures, c.as_slice.ensures.value, c.deref.ensures, ← c.self.view_is)
    (row_at p.bytes.value.items p.offset p.stride p.width p.height y (below at)
    ∙ ap (λ n. get_or (stored at) (first_stored p.upwards n c.args.y 1) []) (sym (high at))
    ∙ sym (row-seen p.upwards (stored at) c.args.y (omega (arith, inside at, high at))))
