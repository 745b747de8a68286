use Rattle.std.proofs.Common.{rules, ◌≡◌, ◌<◌, ◌≤◌, ◌+◌, ◌*◌, ℕ, List, length, drop, ap, sym, ◌∙◌, subst, arith}
use Rattle.std.specs.Arc.{arc_value}
use Rattle.std.proofs.lemmas.Nat.{mul-le}
use Rattle.fv_rows.specs.Rows.{rows_of, rows_part, width_of, seen, first_stored}
use Rattle.fv_rows.proofs.RowLemmas.{length-rows_of}
use Rattle.fv_rows.proofs.PartLemmas.{part-rows_of, part_ends}
use Rattle.fv_rows.proofs.SeenLemmas.{length-seen, inside-stored, part-seen, width-seen}
use Rattle.fv_rows.proofs.plane.Plane.window.Goals as goal
use Rattle.fv_rows.proofs.plane.Plane.window.Goals.{After-len}

-- the rows as they are stored
abbrev stored : (c : After-len) → List (List ℕ)
stored c = let p = c.self.inside in rows_of (drop p.offset p.bytes.value.items) p.stride p.width p.height

high : (c : After-len) → length (stored c) ≡ c.self.inside.height
high c = let p = c.self.inside in length-rows_of (drop p.offset p.bytes.value.items) p.stride p.width p.height

-- the part is inside the plane
down : (c : After-len) → c.args.y + c.args.height ≤ c.self.inside.height
down c = omega (arith, c.requires.down, ap length c.self.view_is, length-seen c.self.inside.upwards (stored c), high c)

-- where it is stored
abbrev first : (c : After-len) → ℕ
first c = first_stored c.self.inside.upwards c.self.inside.height c.args.y c.args.height

ends : (c : After-len) → first c + c.args.height ≤ c.self.inside.height
ends c = inside-stored c.self.inside.upwards c.self.inside.height c.args.y c.args.height (down c)

across : (c : After-len) → c.args.x + c.args.width ≤ c.self.inside.width
across c =
    let p = c.self.inside in
    let wide : width_of c.args.self.now ≡ p.width
    = ap width_of (sym c.self.view_is) ∙ width-seen p.upwards p.bytes.value.items p.offset p.stride p.width p.height (omega (arith, c.requires.some, down c)) c.self.invariant.0 in
    omega (arith, c.requires.across, wide)

start : (c : After-len) → c.self.inside.offset + first c * c.self.inside.stride + c.args.x ≤ length c.self.inside.bytes.value.items
start c = omega (arith, c.self.invariant.0 (first c) (omega (arith, c.requires.some, ends c)), across c)

pub first_stored-first-requires : goal.first_stored-first-requires
first_stored-first-requires c = down (goal.at.first_stored-first-requires c).After-len

pub overflow_mul-result : goal.overflow_mul-result
overflow_mul-result c =
    let inside = start (goal.at.overflow_mul-result c).After-len in
    rw c.first_stored-first.ensures (search (rules, arith))

pub overflow_add-result : goal.overflow_add-result
overflow_add-result c =
    let inside = start (goal.at.overflow_add-result c).After-len in
    rw c.first_stored-first.ensures (search (rules, arith))

pub overflow_add-result-2 : goal.overflow_add-result-2
overflow_add-result-2 c =
    let inside = start (goal.at.overflow_add-result-2 c).After-len in
    rw c.first_stored-first.ensures (search (rules, arith))

pub invariant_of-result : goal.invariant_of-result
invariant_of-result c =
    let p = c.self.inside in
    let at = (goal.at.invariant_of-result c).After-len in
    let same : (arc_value c.in_ok-try_clone.field-0).items ≡ p.bytes.value.items = search rules in
    rw c.first_stored-first.ensures
    (subst (λ (l : List ℕ). ((k : ℕ) → k < c.args.height → p.offset + first at * p.stride + c.args.x + k * p.stride + c.args.width ≤ length l) × (c.args.height * c.args.width ≤ length l)) (sym same) (
      part_ends p.offset p.stride p.width p.height c.args.x (first at) c.args.width c.args.height (length p.bytes.value.items) c.self.invariant.0 (across at) (ends at),
      omega (arith, mul-le c.args.height c.args.width p.height p.width (omega (arith, ends at)) (omega (arith, across at)), c.self.invariant.1),
    ))

pub returns : goal.returns
returns c =
    let p = c.self.inside in
    let at = (goal.at.returns c).After-len in
    let items : List ℕ = p.bytes.value.items in
    let same : (arc_value c.in_ok-try_clone.field-0).items ≡ items = search rules in
    rw c.first_stored-first.ensures
    (ap (λ (l : List ℕ). seen p.upwards (rows_of (drop (p.offset + first at * p.stride + c.args.x) l) p.stride c.args.width c.args.height)) same
    ∙ ap (seen p.upwards) (part-rows_of items p.offset p.stride p.width p.height c.args.x (first at) c.args.width c.args.height (across at) (ends at))
    ∙ ap (λ n. seen p.upwards (rows_part (stored at) c.args.x (first_stored p.upwards n c.args.y c.args.height) c.args.width c.args.height)) (sym (high at))
    ∙ part-seen p.upwards (stored at) c.args.x c.args.y c.args.width c.args.height (omega (arith, down at, high at))
    ∙ ap (λ (rows : List (List ℕ)). rows_part rows c.args.x c.args.y c.args.width c.args.height) c.self.view_is)
