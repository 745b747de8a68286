use Rattle.std.proofs.Common.{◌∙◌, refl, w32}
use Rattle.std.proofs.lemmas.Int.{to_z-of_z}
use Rattle.flt_rows.proofs.sums.weigh_five.Goals as goal
use mir.Syntax.{w16}

pub returns-clause-value : goal.returns-clause-value
returns-clause-value g c =
    let whole = to_z-of_z w32 c.add.result (record { sfits = c.add.type_inv }) in
    let three = to_z-of_z w32 c.weigh_three-three.result (record { sfits = c.weigh_three-three.type_inv }) in
    let two = to_z-of_z w32 c.add-two.result (record { sfits = c.add-two.type_inv }) in
    let a = to_z-of_z w16 c.args.a c.ranges.a in
    let b = to_z-of_z w16 c.args.b c.ranges.b in
    let e = to_z-of_z w16 c.args.c c.ranges.c in
    let f = to_z-of_z w16 c.args.d c.ranges.d in
    let h = to_z-of_z w16 c.args.e c.ranges.e in
    let first = three ∙ (rw (a, b, e) at c.weigh_three-three.ensures.value) in
    let fourth = to_z-of_z w32 c.times.result (record { sfits = c.times.type_inv }) ∙ (rw (f, c.at.ensures) at c.times.ensures.value) in
    let fifth = to_z-of_z w32 c.times-2.result (record { sfits = c.times-2.type_inv }) ∙ (rw (h, c.at-2.ensures) at c.times-2.ensures.value) in
    rw (whole, c.add.ensures.value, first, two, c.add-two.ensures.value, fourth, fifth) refl
