-- Each product has its part of the room.
use Rattle.std.proofs.Common.{ℕ, ◌≤◌, ◌*◌, ◌+◌, arith, rules}
use Rattle.std.specs.Prelude.{ℤ, unsigned_abs}
use Rattle.std.proofs.lemmas.Int.{to_z-of_z}
use Rattle.flt_rows.proofs.NarrowLemmas.{size_times}
use Rattle.flt_rows.proofs.narrow.weigh.Goals as goal
use mir.Syntax.{w16}
use mir.Val.{to_z, of_z, SFits}

product : (weight result : ℤ) (most : ℕ) → SFits w16 weight → unsigned_abs result ≤ unsigned_abs (to_z w16 (of_z w16 weight)) * most → unsigned_abs result ≤ unsigned_abs weight * most
product weight result most fits size = rw (to_z-of_z w16 weight fits) at size

sum : (a b result : ℤ) → SFits w16 a → SFits w16 b → unsigned_abs result ≤ unsigned_abs (to_z w16 (of_z w16 a)) + unsigned_abs (to_z w16 (of_z w16 b)) → unsigned_abs result ≤ unsigned_abs a + unsigned_abs b
sum a b result first second size = rw (to_z-of_z w16 a first, to_z-of_z w16 b second) at size

pub add-two-requires : goal.add-two-requires
add-two-requires g c =
    let weights = c.args.weights in
    let left = product weights.left c.times.result c.args.largest (search rules) c.times.ensures.size in
    let middle = product weights.middle c.times-2.result c.args.largest (search rules) c.times-2.ensures.size in
    rw (to_z-of_z w16 c.times.result (search rules), to_z-of_z w16 c.times-2.result (search rules))
    (omega (arith, size_times weights c.args.largest, c.requires.light, left, middle))

pub times-requires-3-clause-light : goal.times-requires-3-clause-light
times-requires-3-clause-light g c =
    rw (to_z-of_z w16 c.args.weights.right (search rules)) (omega (arith, size_times c.args.weights c.args.largest, c.requires.light))

pub add-requires : goal.add-requires
add-requires g c =
    let weights = c.args.weights in
    let left = product weights.left c.times.result c.args.largest (search rules) c.times.ensures.size in
    let middle = product weights.middle c.times-2.result c.args.largest (search rules) c.times-2.ensures.size in
    let right = product weights.right c.times-3.result c.args.largest (search rules) c.times-3.ensures.size in
    let two = sum c.times.result c.times-2.result c.add-two.result (search rules) (search rules) c.add-two.ensures.size in
    rw (to_z-of_z w16 c.add-two.result (search rules), to_z-of_z w16 c.times-3.result (search rules))
    (omega (arith, size_times weights c.args.largest, c.requires.light, left, middle, right, two))

pub returns-clause-size : goal.returns-clause-size
returns-clause-size g c =
    let weights = c.args.weights in
    let left = product weights.left c.times.result c.args.largest (search rules) c.times.ensures.size in
    let middle = product weights.middle c.times-2.result c.args.largest (search rules) c.times-2.ensures.size in
    let right = product weights.right c.times-3.result c.args.largest (search rules) c.times-3.ensures.size in
    let two = sum c.times.result c.times-2.result c.add-two.result (search rules) (search rules) c.add-two.ensures.size in
    let all = sum c.add-two.result c.times-3.result c.add.result (search rules) (search rules) c.add.ensures.size in
    rw (to_z-of_z w16 c.add.result (search rules)) (omega (arith, size_times weights c.args.largest, left, middle, right, two, all))
