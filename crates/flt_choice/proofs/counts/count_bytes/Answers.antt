use Rattle.std.proofs.Common.{◌*◌, ◌+◌, length, take, get_or, refl, ap, arith}
use Rattle.std.proofs.lemmas.List.{length-take}
use Rattle.flt_choice.proofs.CountLemmas.{room_left, one_more_counted, four_more_counted}
use Rattle.flt_choice.proofs.counts.count_bytes.Goals as goal

pub count_four-requires-clause-room : goal.count_four-requires-clause-room
count_four-requires-clause-room c =
    let bytes = c.args.bytes.now in
    let inside = c.loop-i-test.true in
    let front = length-take (8 * c.loop-i.i) bytes in
    room_left 256 c.args.counts.now (take (8 * c.loop-i.i) bytes) c.loop-i.counts 4 (length bytes) c.requires.room c.loop-i.invariant (omega arith)

pub count_four-requires-in-loop-i-clause-room : goal.count_four-requires-in-loop-i-clause-room
count_four-requires-in-loop-i-clause-room c =
    let bytes = c.args.bytes.now in
    let inside = c.loop-i-test.true in
    let front = length-take (8 * c.loop-i.i) bytes in
    let before = room_left 256 c.args.counts.now (take (8 * c.loop-i.i) bytes) c.loop-i.counts 8 (length bytes) c.requires.room c.loop-i.invariant (omega arith) in
    room_left 256 c.loop-i.counts _ c.count_four.new.counts 4 8 before c.count_four.ensures (omega arith)

pub loop-i-preserved : goal.loop-i-preserved
loop-i-preserved c =
    let bytes = c.args.bytes.now in
    let inside = c.loop-i-test.true in
    let x = 8 * c.loop-i.i in
    let half = four_more_counted 256 c.args.counts.now c.loop-i.counts c.count_four.new.counts bytes x (x + 4) _ _ _ _ c.loop-i.invariant c.count_four.ensures (omega arith) refl refl refl refl refl in
    four_more_counted 256 c.args.counts.now c.count_four.new.counts c.count_four-in-loop-i.new.counts bytes (x + 4) (8 * (c.loop-i.i + 1)) _ _ _ _ half c.count_four-in-loop-i.ensures (omega arith) (omega arith)
    (ap (λ k. get_or bytes k 0) (omega arith)) (ap (λ k. get_or bytes k 0) (omega arith)) (ap (λ k. get_or bytes k 0) (omega arith)) (ap (λ k. get_or bytes k 0) (omega arith))

pub loop-x-preserved : goal.loop-x-preserved
loop-x-preserved c =
    let inside = c.loop-x-test.true in
    one_more_counted 256 c.args.counts.now c.loop-x.counts c.count.new.counts c.args.bytes.now c.loop-x.x _ c.loop-x.invariant c.count.ensures (omega arith) refl
