-- What was passed was there, and a read that gives nothing is at the end.
use Rattle.std.proofs.Common.{◌≡◌, length, drop, ap, ◌∙◌, arith, rules}
use Rattle.std.proofs.lemmas.List.{length-drop, length-take}
use Rattle.fv_io.proofs.source.Source.skip.Goals as goal

pub loop-passed-preserved : goal.loop-passed-preserved
loop-passed-preserved g c =
    let i = c.loop-passed.invariant in
    let read = c.in_ok-count.ensures in
    let source = g.Self.Source in
    let wanted : length c.read.new.buf ≡ c.min-wanted.result = search rules in
    record {
      few = omega (arith, read.bound, wanted, c.min-wanted.ensures);
      inside = λ told is.
          let given = read.told told (i.keeps.told ∙ is) in
          let moved = i.moved in
          let inside = i.inside told is in
          omega (
            arith,
            read.bound,
            ap length given.given,
            length-take c.in_ok-count.count c.read.new.buf,
            length-take c.in_ok-count.count (drop (source.place c.loop-passed.self) told),
            length-drop (source.place c.loop-passed.self) told,
            length-drop (source.place c.args.self.now) told,
          );
      moved = omega (arith, read.moved, i.moved);
      keeps = record { told = read.bytes ∙ i.keeps.told; rewinds = read.rewinds ∙ i.keeps.rewinds; later = omega (arith, read.later, i.keeps.later) };
      steady = read.steady ∙ i.steady;
    }

pub returns-then-count-eq0-clause-told : goal.returns-then-count-eq0-clause-told
returns-then-count-eq0-clause-told g c told is =
    let i = c.loop-passed.invariant in
    let source = g.Self.Source in
    let wanted : length c.read.new.buf ≡ c.min-wanted.result = search rules in
    let read = c.in_ok-count.ensures.told told (i.keeps.told ∙ is) in
    let moved = i.moved in
    let inside = i.inside told is in
    let ended = read.ended c.if-count-eq0.true (omega (arith, wanted, c.min-wanted.ensures, c.loop-passed-test.true)) in
    omega (arith, length-drop (source.place c.args.self.now) told, c.loop-passed-test.true)
