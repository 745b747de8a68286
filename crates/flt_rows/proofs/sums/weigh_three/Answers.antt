use Rattle.std.proofs.Common.{◌∙◌, refl, w32}
use Rattle.std.proofs.lemmas.Int.{to_z-of_z}
use Rattle.flt_rows.proofs.sums.weigh_three.Goals as goal
use mir.Syntax.{w16}

pub returns-clause-value : goal.returns-clause-value
returns-clause-value g c =
    let whole = to_z-of_z w32 c.add.result (record { sfits = c.add.type_inv }) in
    let two = to_z-of_z w32 c.add-two.result (record { sfits = c.add-two.type_inv }) in
    let a = to_z-of_z w16 c.args.a c.ranges.a in
    let b = to_z-of_z w16 c.args.b c.ranges.b in
    let d = to_z-of_z w16 c.args.c c.ranges.c in
    let first = to_z-of_z w32 c.times.result (record { sfits = c.times.type_inv }) ∙ (rw (a, c.at.ensures) at c.times.ensures.value) in
    let second = to_z-of_z w32 c.times-2.result (record { sfits = c.times-2.type_inv }) ∙ (rw (b, c.at-2.ensures) at c.times-2.ensures.value) in
    let third = to_z-of_z w32 c.times-3.result (record { sfits = c.times-3.type_inv }) ∙ (rw (d, c.at-3.ensures) at c.times-3.ensures.value) in
    rw (whole, c.add.ensures.value, two, c.add-two.ensures.value, first, second, third) refl
