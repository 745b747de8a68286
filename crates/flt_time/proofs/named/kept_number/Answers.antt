use Rattle.std.proofs.Common.{arith, ◌∙◌, sym}
use Rattle.flt_time.proofs.NumberLemmas.{kept_next, kept_end}
use Rattle.flt_time.proofs.named.kept_number.Goals as goal

pub loop-named-preserved : goal.loop-named-preserved
loop-named-preserved c =
    let a = c.args in
    let l = c.loop-named in
    let next = c.in-Some.ensures.next in
    record {
      reached = omega arith;
      few = omega (arith, next.from);
      same = sym (kept_next a.frames.now l.low c.in-Some.named l.number a.count next (omega arith)) ∙ l.invariant.same;
    }

pub returns-then-named-number : goal.returns-then-named-number
returns-then-named-number c =
    let a = c.args in
    let l = c.loop-named in
    let next = c.in-Some.ensures.next in
    kept_end a.frames.now l.low l.number a.count a.n l.invariant.reached (λ k h g. next.first k h (omega arith)) c.requires.shown l.invariant.same

pub returns-in_default : goal.returns-in_default
returns-in_default c =
    let a = c.args in
    let l = c.loop-named in
    kept_end a.frames.now l.low l.number a.count a.n l.invariant.reached (λ k h g. c.in_default.ensures.next k h) c.requires.shown l.invariant.same
