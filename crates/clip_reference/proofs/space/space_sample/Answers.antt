use Rattle.std.proofs.Common.{◌≡◌, ◌==◌, ◌*◌, ◌≤◌, ◌∙◌, false, ap, arith, w32, ne_eqb}
use Rattle.std.specs.Prelude.{ℤ}
use Rattle.std.proofs.lemmas.Int.{ints}
use Rattle.std.proofs.lemmas.Bool.Decides.{nat_tests}
use Rattle.std.proofs.lemmas.Grind.{common_steps}
use Rattle.fv_plane.specs.Format.{scale}
use Rattle.clip_term.specs.Refusals.{nat_of}
use Rattle.clip_term.specs.Space.{bad_bounds, limited}
use Rattle.clip_reference.proofs.space.space_sample.Goals as goal
use mir.Val.{to_z, of_z}

high_few : (low high : ℤ) → bad_bounds low high ≡ false → nat_of high ≤ 255
high_few low high e = grind (arith, ints, nat_tests)

pub converted-requires-clause-old : goal.converted-requires-clause-old
converted-requires-clause-old c = grind (arith, common_steps)

pub limited-requires-clause-high : goal.limited-requires-clause-high
limited-requires-clause-high c = grind (arith, common_steps)

pub limited-requires-else-plane-eq0-clause-low : goal.limited-requires-else-plane-eq0-clause-low
limited-requires-else-plane-eq0-clause-low c = grind (arith, common_steps)

pub limited-requires-else-plane-eq0-clause-high : goal.limited-requires-else-plane-eq0-clause-high
limited-requires-else-plane-eq0-clause-high c = grind (arith, common_steps)

pub returns-else-plane-eq0 : goal.returns-else-plane-eq0
returns-else-plane-eq0 c =
    let op = c.in-Limiter in
    let low : to_z w32 (of_z w32 op.min_chroma) ≡ op.min_chroma = omega (arith, ints) in
    let high : to_z w32 (of_z w32 op.max_chroma) ≡ op.max_chroma = omega (arith, ints) in
    let chroma : (c.args.plane == 0) ≡ false = ne_eqb c.args.plane 0 c.if-plane-eq0.false in
    let told : c.limited-else-plane-eq0.result ≡ limited (nat_of op.min_chroma * scale c.args.shape) (nat_of op.max_chroma * scale c.args.shape) c.look-here.result
    = rw (low, high) at c.limited-else-plane-eq0.ensures in
    rw (op.is, chroma) (told ∙ ap (λ s. limited (nat_of op.min_chroma * scale c.args.shape) (nat_of op.max_chroma * scale c.args.shape) s) c.look-here.ensures)
