use Rattle.std.proofs.Common.{◌≡◌, get_or, arith, w32}
use Rattle.std.specs.Prelude.{ℤ, pos, unsigned_abs}
use Rattle.std.proofs.lemmas.Int.{ints}
use Rattle.flt_rows.proofs.NarrowLemmas.{size_more}
use Rattle.flt_rows.proofs.WeightLemmas.{size_of_weight}
use Rattle.flt_soft.proofs.convolve.size_of_all.Goals as goal
use mir.Val.{to_z, of_z}

pub loop-weight-preserved : goal.loop-weight-preserved
loop-weight-preserved c =
    let i = c.loop-weight.weight-index in
    let weight : ℤ = get_or c.args.weights.now i (pos 0) in
    let is = c.requires.weights i in
    let same : to_z w32 (of_z w32 weight) ≡ weight = omega (arith, ints, is.low, is.high) in
    let size : c.unsigned_abs-size.result ≡ unsigned_abs weight = rw same at c.unsigned_abs-size.ensures.value in
    let more = size_more c.args.weights.now i (pos 0) c.loop-weight-test.true in
    record {
      made = omega (arith, size, more, c.loop-weight.invariant.made);
      few = omega (arith, size, size_of_weight weight is, c.loop-weight.invariant.few);
    }
