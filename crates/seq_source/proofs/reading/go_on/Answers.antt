-- A skip passes all that is asked for, or ends where the bytes do.
use Rattle.std.proofs.Common.{◌≡◌, ◌+◌, arith, rules}
use Rattle.std.proofs.lemmas.List.{length-drop}
use Rattle.seq_source.proofs.PlaceLemmas.{is_further}
use Rattle.seq_source.proofs.reading.go_on.Goals as goal

pub returns-then-passed-gap-clause-fault : goal.returns-then-passed-gap-clause-fault
returns-then-passed-gap-clause-fault g c =
    let at = c.requires.is_at in
    record {
      frame_is = search rules;
      want_is = search rules;
      early = omega (arith, c.requires.after, c.requires.before, c.if-passed-gap.true);
      at = omega (arith, c.in_ok-passed.ensures.moved, at.here);
      ended = λ told is.
          let skips = c.in_ok-passed.ensures.told told is in
          omega (arith, skips, at.here, at.inside told is, length-drop (g.S.Source.place c.args.source.now) told, c.if-passed-gap.true);
    }

pub returns-clause-is_at : goal.returns-clause-is_at
returns-clause-is_at g c =
    let at = c.requires.is_at in
    let skips = c.in_ok-passed.ensures in
    let gap : c.args.place + c.in_ok-passed.passed ≡ c.args.start = omega (arith, c.requires.before, skips.bound, c.if-passed-gap.false) in
    rw (← gap)
    (is_further g.S.Source c.args.source.now c.skip.new.self c.args.place c.in_ok-passed.passed at skips.bytes skips.moved
    (λ told is. let it = skips.told told is in omega (arith, it, at.here, at.inside told is, length-drop (g.S.Source.place c.args.source.now) told)))
