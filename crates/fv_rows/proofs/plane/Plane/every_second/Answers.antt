use Rattle.std.proofs.Common.{rules, ◌≡◌, ◌<◌, ◌≤◌, ◌+◌, ◌*◌, ◌/◌, ◌%◌, ℕ, List, length, drop, ap, sym, ◌∙◌, subst, arith}
use Rattle.std.specs.Arc.{arc_value}
use Rattle.std.proofs.lemmas.Nat.{mul-le}
use Rattle.fv_rows.specs.Rows.{rows_of, seen, every_second, second_stored}
use Rattle.fv_rows.proofs.RowLemmas.{length-rows_of, times_le}
use Rattle.fv_rows.proofs.SeenLemmas.{length-seen}
use Rattle.fv_rows.proofs.SecondLemmas.{seconds, second_ends, start_few}
use Rattle.fv_rows.proofs.plane.Plane.every_second.Goals as goal
use Rattle.fv_rows.proofs.plane.Plane.every_second.Goals.{After-len}

-- as many rows as are seen
high : (c : After-len) → length c.args.self.now ≡ c.self.inside.height
high c =
    let p = c.self.inside in
    let stored : List (List ℕ) = rows_of (drop p.offset p.bytes.value.items) p.stride p.width p.height in
    ap length (sym c.self.view_is) ∙ length-seen p.upwards stored ∙ length-rows_of (drop p.offset p.bytes.value.items) p.stride p.width p.height

even : (c : After-len) → c.self.inside.height % 2 ≡ 0
even c = let same = high c in ap (λ n. n % 2) (sym same) ∙ c.requires.even

-- the second row is there
second : (c : After-len) → c.self.inside.offset + 1 * c.self.inside.stride + c.self.inside.width ≤ length c.self.inside.bytes.value.items
second c = c.self.invariant.0 1 (omega (arith, even c, high c, c.requires.some))

pub overflow_add-result : goal.overflow_add-result
overflow_add-result c =
    let at = (goal.at.overflow_add-result c).After-len in
    let one = second at in
    let few = start_few c.self.inside.upwards c.args.from c.requires.first in
    let small = mul-le (second_stored c.self.inside.upwards c.args.from) c.self.inside.stride 1 c.self.inside.stride (omega arith) (omega arith) in
    rw c.second_stored-first.ensures (search (rules, arith))

pub overflow_mul-result-2 : goal.overflow_mul-result-2
overflow_mul-result-2 c =
    let one = second (goal.at.overflow_mul-result-2 c).After-len in
    search (rules, arith)

pub invariant_of-result : goal.invariant_of-result
invariant_of-result c =
    let p = c.self.inside in
    let same : (arc_value c.in_ok-try_clone.field-0).items ≡ p.bytes.value.items = search rules in
    let s = second_stored p.upwards c.args.from in
    rw c.second_stored-first.ensures
    (subst (λ (l : List ℕ). ((y : ℕ) → y < p.height / 2 → p.offset + s * p.stride + y * (2 * p.stride) + p.width ≤ length l) × (p.height / 2 * p.width ≤ length l)) (sym same) (
      second_ends p.offset p.stride p.width p.height s (length p.bytes.value.items) (start_few p.upwards c.args.from c.requires.first) c.self.invariant.0,
      omega (arith, times_le (p.height / 2) p.height p.width (omega arith), c.self.invariant.1),
    ))

pub returns : goal.returns
returns c =
    let p = c.self.inside in
    let at = (goal.at.returns c).After-len in
    let items : List ℕ = p.bytes.value.items in
    let same : (arc_value c.in_ok-try_clone.field-0).items ≡ items = search rules in
    let s = second_stored p.upwards c.args.from in
    rw c.second_stored-first.ensures
    (ap (λ (l : List ℕ). seen p.upwards (rows_of (drop (p.offset + s * p.stride) l) (2 * p.stride) p.width (p.height / 2))) same
    ∙ seconds items p.offset p.stride p.width p.height c.args.from p.upwards c.requires.first (even at) ∙ ap (every_second c.args.from) c.self.view_is)
