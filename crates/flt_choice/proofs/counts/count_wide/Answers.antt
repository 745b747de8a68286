use Rattle.std.proofs.Common.{◌*◌, ◌+◌, ◌/◌, length, take, subst, arith, List, ℕ}
use Rattle.std.proofs.lemmas.List.{take_all, length-take}
use Rattle.fv_plane.specs.Picture.{wide_samples}
use Rattle.fv_plane.proofs.WideLemmas.{length-wide_samples}
use Rattle.flt_choice.specs.Counts.{AddsCounts}
use Rattle.flt_choice.proofs.CountLemmas.{room_left, one_more_counted, four_more_counted}
use Rattle.flt_choice.proofs.counts.count_wide.Goals as goal

pub count_four-requires-clause-first : goal.count_four-requires-clause-first
count_four-requires-clause-first c = omega (arith, c.requires.inside (4 * c.loop-i.i), c.wide_at-a.ensures)

pub count_four-requires-clause-second : goal.count_four-requires-clause-second
count_four-requires-clause-second c = omega (arith, c.requires.inside (4 * c.loop-i.i + 1), c.wide_at-b.ensures)

pub count_four-requires-clause-third : goal.count_four-requires-clause-third
count_four-requires-clause-third c = omega (arith, c.requires.inside (4 * c.loop-i.i + 2), c.wide_at-c.ensures)

pub count_four-requires-clause-fourth : goal.count_four-requires-clause-fourth
count_four-requires-clause-fourth c = omega (arith, c.requires.inside (4 * c.loop-i.i + 3), c.wide_at-d.ensures)

pub count_four-requires-clause-room : goal.count_four-requires-clause-room
count_four-requires-clause-room c =
    let bytes = c.args.bytes.now in
    let samples = wide_samples bytes in
    let inside = c.loop-i-test.true in
    let front = length-take (4 * c.loop-i.i) samples in
    let long = length-wide_samples (length bytes / 2) bytes (let whole = c.requires.whole in omega arith) in
    room_left c.args.size c.args.counts.now (take (4 * c.loop-i.i) samples) c.loop-i.counts 4 (length bytes) c.requires.room c.loop-i.invariant (omega arith)

pub loop-i-preserved : goal.loop-i-preserved
loop-i-preserved c =
    let bytes = c.args.bytes.now in
    let inside = c.loop-i-test.true in
    let long = length-wide_samples (length bytes / 2) bytes (let whole = c.requires.whole in omega arith) in
    four_more_counted c.args.size c.args.counts.now c.loop-i.counts c.count_four.new.counts (wide_samples bytes) (4 * c.loop-i.i) (4 * (c.loop-i.i + 1)) _ _ _ _ c.loop-i.invariant c.count_four.ensures (omega arith) (omega arith)
    c.wide_at-a.ensures c.wide_at-b.ensures c.wide_at-c.ensures c.wide_at-d.ensures

pub count-requires-clause-sample : goal.count-requires-clause-sample
count-requires-clause-sample c = omega (arith, c.requires.inside c.loop-x.x, c.wide_at.ensures)

pub loop-x-preserved : goal.loop-x-preserved
loop-x-preserved c =
    let bytes = c.args.bytes.now in
    let inside = c.loop-x-test.true in
    let long = length-wide_samples (length bytes / 2) bytes (let whole = c.requires.whole in omega arith) in
    one_more_counted c.args.size c.args.counts.now c.loop-x.counts c.count.new.counts (wide_samples bytes) c.loop-x.x _ c.loop-x.invariant c.count.ensures (omega arith) c.wide_at.ensures

pub returns : goal.returns
returns c =
    let bytes = c.args.bytes.now in
    let long = length-wide_samples (length bytes / 2) bytes (let whole = c.requires.whole in omega arith) in
    let past = c.loop-x-test.false in
    subst (λ (l : List ℕ). AddsCounts c.args.size c.args.counts.now l c.loop-x.counts) (take_all c.loop-x.x (wide_samples bytes) (omega arith)) c.loop-x.invariant
