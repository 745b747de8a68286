use Rattle.std.proofs.Common.{sym, below_more, arith}
use Rattle.clip_term.specs.Expression.{is_half}
use Rattle.flt_choice.proofs.CountLemmas.{total_more, found, not_found, half_is, less_is}
use Rattle.flt_choice.proofs.counts.middle.Goals as goal

pub returns-then-up_to-total : goal.returns-then-up_to-total
returns-then-up_to-total c = λ samples are long.
    let counts = c.args.counts.now in
    let inside = c.loop-v-test.true in
    let more = total_more c.args.size c.args.values counts c.loop-v.v inside in
    let here = c.counted-up_to.ensures.sum in
    let enough = c.if-up_to-total.true in
    let so_far = c.loop-v.invariant.so_far in
    sym (found (is_half samples) c.args.values c.loop-v.v inside
    (λ k h. less_is c.args.size c.args.values counts samples c.args.total k c.requires.values are long (omega arith) (c.loop-v.invariant.before k h))
    (half_is c.args.size c.args.values counts samples c.args.total c.loop-v.v c.requires.values are long inside (omega arith)))

pub returns : goal.returns
returns c = λ samples are long.
    let past = c.loop-v-test.false in
    sym (not_found (is_half samples) c.args.values (λ k h. less_is c.args.size c.args.values c.args.counts.now samples c.args.total k c.requires.values are long h (c.loop-v.invariant.before k (omega arith))))

pub loop-v-preserved : goal.loop-v-preserved
loop-v-preserved c = search (arith, total_more, below_more)
