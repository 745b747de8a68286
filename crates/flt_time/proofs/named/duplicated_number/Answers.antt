use Rattle.std.proofs.Common.{arith, ◌∙◌, sym}
use Rattle.flt_time.proofs.NumberLemmas.{duplicated_next, duplicated_found, duplicated_end}
use Rattle.flt_time.proofs.named.duplicated_number.Goals as goal

pub loop-named-preserved : goal.loop-named-preserved
loop-named-preserved c =
    let a = c.args in
    let l = c.loop-named in
    let more = c.mentions-more.ensures in
    let past = duplicated_next a.frames.now l.low c.in-Some.named l.number a.count c.in-Some.ensures.next (omega arith) in
    record {
      reached = omega arith;
      few = omega arith;
      same = rw more (sym past ∙ l.invariant.same);
    }

pub returns-then-number-named : goal.returns-then-number-named
returns-then-number-named c =
    let a = c.args in
    let l = c.loop-named in
    let more = c.mentions-more.ensures in
    duplicated_found a.frames.now l.low c.in-Some.named l.number a.count a.n c.in-Some.ensures.next (omega arith) (omega arith) c.requires.shown l.invariant.same

pub returns-then-named-number : goal.returns-then-named-number
returns-then-named-number c =
    let a = c.args in
    let l = c.loop-named in
    duplicated_end a.frames.now l.low l.number a.count a.n l.invariant.reached (λ k h g. c.in-Some.ensures.next.first k h (omega arith)) c.requires.shown l.invariant.same

pub returns-in_default : goal.returns-in_default
returns-in_default c =
    let a = c.args in
    let l = c.loop-named in
    duplicated_end a.frames.now l.low l.number a.count a.n l.invariant.reached (λ k h g. c.in_default.ensures.next k h) c.requires.shown l.invariant.same
