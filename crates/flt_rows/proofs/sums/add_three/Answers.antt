use Rattle.std.proofs.Common.{◌≡◌, ◌∙◌, ◌<◌, length, get_or, ap, arith, pos, ◌+ℤ◌, w32}
use Rattle.std.proofs.lemmas.Int.{ints}
use Rattle.flt_rows.specs.Rows.{IsWithin}
use Rattle.flt_rows.proofs.DivideLemmas.{size_within}
use Rattle.flt_rows.proofs.RowLemmas.{next_set, after_set}
use Rattle.flt_rows.proofs.sums.add_three.Goals as goal
use mir.Val.{to_z, of_z}

pub add-requires : goal.add-requires
add-requires g c =
    let old = get_or c.args.sums.now c.loop-x.x (pos 0) in
    let sum = c.weigh_three.result in
    let few = size_within 1342156800 old (c.requires.room c.loop-x.x) in
    let same : to_z w32 (of_z w32 old) ≡ old = omega (arith, ints, few) in
    let more : to_z w32 (of_z w32 sum) ≡ sum = omega (arith, ints) in
    rw (c.loop-x.invariant.left c.loop-x.x (omega arith), same, more) (omega (arith, few, c.weigh_three.ensures.size))

pub loop-x-preserved : goal.loop-x-preserved
loop-x-preserved g c =
    let a = c.args.a in
    let b = c.args.b in
    let e = c.args.c in
    let x = c.loop-x.x in
    let old = get_or c.args.sums.now x (pos 0) in
    let more = c.weigh_three.result in
    let small : IsWithin 1342156800 old = c.requires.room x in
    let old_is : get_or c.loop-x.sums x (pos 0) ≡ old = c.loop-x.invariant.left x (omega arith) in
    let value = c.weigh_three.ensures.value in
    let put : to_z w32 (of_z w32 c.add.result) ≡ old +ℤ more = omega (arith, ints, c.add.ensures.value, old_is, small.low, small.high) in
    let inside : x < length c.loop-x.sums = omega arith in
    record {
      done = next_set c.loop-x.sums _ x _ (pos 0) inside (put ∙ ap (λ z. old +ℤ z) value) c.loop-x.invariant.done;
      left = after_set c.loop-x.sums c.args.sums.now x _ (pos 0) c.loop-x.invariant.left;
    }
