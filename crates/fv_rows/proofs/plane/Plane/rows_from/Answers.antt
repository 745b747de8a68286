use Rattle.std.proofs.Common.{◌≡◌, ◌<◌, ◌≤◌, ◌+◌, ◌*◌, ℕ, List, length, sym, ◌∙◌, ap, arith, drop, subst}
use Rattle.fv_rows.specs.Rows.{rows_of, seen}
use Rattle.fv_rows.proofs.RowLemmas.{length-rows_of, all_ends, flat_rest}
use Rattle.fv_rows.proofs.SeenLemmas.{length-seen, seen_down}
use Rattle.fv_rows.proofs.plane.Plane.rows_from.Goals as goal
use Rattle.fv_rows.proofs.plane.Plane.rows_from.Goals.{After-as_slice}

-- the rows as they are stored
abbrev stored : (c : After-as_slice) → List (List ℕ)
stored c = let p = c.self.inside in rows_of (drop p.offset p.bytes.value.items) p.stride p.width p.height

-- the plane has all of them
high : (c : After-as_slice) → length c.args.self.now ≡ c.self.inside.height
high c =
    let p = c.self.inside in
    sym (ap length c.self.view_is) ∙ length-seen p.upwards (stored c) ∙ length-rows_of (drop p.offset p.bytes.value.items) p.stride p.width p.height

-- the row is one of the plane's
inside : (c : After-as_slice) → c.args.y < c.self.inside.height
inside c = omega (arith, c.requires, high c)

pub rows_in-bytes-requires-clause-inside : goal.rows_in-bytes-requires-clause-inside
rows_in-bytes-requires-clause-inside c = inside (goal.at.rows_in-bytes-requires-clause-inside c).After-as_slice

pub rows_in-bytes-requires-clause-whole : goal.rows_in-bytes-requires-clause-whole
rows_in-bytes-requires-clause-whole c =
    let p = c.self.inside in
    rw (c.as_slice.ensures.value, c.deref.ensures)
    (all_ends p.offset p.width p.height (length p.bytes.value.items)
    (subst (λ (s : ℕ). (y : ℕ) → y < p.height → p.offset + y * s + p.width ≤ length p.bytes.value.items) c.if-self-2.false c.self.invariant.0)
    (omega (arith, inside c)))

pub overflow_sub-result : goal.overflow_sub-result
overflow_sub-result c = omega (arith, inside (goal.at.overflow_sub-result c).After-as_slice)

pub returns-clause-some : goal.returns-clause-some
returns-clause-some c = omega (arith, inside (goal.at.returns-clause-some c).After-as_slice)

pub returns-clause-inside : goal.returns-clause-inside
returns-clause-inside c =
    let at = (goal.at.returns-clause-inside c).After-as_slice in
    omega (arith, inside at, high at)

pub returns-clause-rows : goal.returns-clause-rows
returns-clause-rows c =
    let p = c.self.inside in
    let items : List ℕ = p.bytes.value.items in
    let at = (goal.at.returns-clause-rows c).After-as_slice in
    let rows : rows_of (drop p.offset items) p.width p.width p.height ≡ c.args.self.now
    = ap (λ s. rows_of (drop p.offset items) s p.width p.height) (sym c.if-self-2.false) ∙ sym (seen_down (stored at)) ∙ ap (λ b. seen b (stored at)) (sym c.if-self.false) ∙ c.self.view_is in
    rw (c.rows_in-bytes.ensures, c.as_slice.ensures.value, c.deref.ensures, ← rows)
    (flat_rest items p.offset p.width p.height c.args.y (inside at))
