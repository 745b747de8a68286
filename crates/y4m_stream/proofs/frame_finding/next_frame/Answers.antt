-- What was read is the front of what is left.
use Rattle.std.proofs.Common.{◌≡◌, ◌<◌, ◌++◌, ℕ, List, length, drop, true, sym, ◌∙◌, ap, arith, rules}
use Rattle.std.proofs.lemmas.List.{length-append}
use Rattle.y4m_stream.specs.ReadAhead.{left_of, Passes}
use Rattle.y4m_stream.specs.Stream.{is_bad}
use Rattle.y4m_stream.proofs.FrameLemmas.{too_many, bad_next, cut_next, good_head, short_of, next}
use Rattle.y4m_stream.proofs.WindowLemmas.{same_bad}
use Rattle.y4m_stream.proofs.frame_finding.next_frame.Goals as goal

pub returns-then-k-eq-MAX_FRAMES-clause-fault : goal.returns-then-k-eq-MAX_FRAMES-clause-fault
returns-then-k-eq-MAX_FRAMES-clause-fault g c told is =
    let left : List ℕ = left_of c.args.ahead.now told (g.S.Source.place c.args.source.now) in
    let window : List ℕ = c.fill.new.self in
    let rest : List ℕ = drop (g.S.Source.place c.fill.new.source) told in
    let split : left ≡ window ++ rest = sym (c.in_ok-fill.ensures.told told is) in
    let some : 0 < length window = search rules in
    too_many c.args.size c.args.k left (omega (arith, some, ap length split, length-append window rest)) c.if-k-eq-MAX_FRAMES.true

pub returns-in-Bad-clause-fault : goal.returns-in-Bad-clause-fault
returns-in-Bad-clause-fault g c told is =
    let left : List ℕ = left_of c.args.ahead.now told (g.S.Source.place c.args.source.now) in
    let window : List ℕ = c.fill.new.self in
    let rest : List ℕ = drop (g.S.Source.place c.fill.new.source) told in
    let split : left ≡ window ++ rest = sym (c.in_ok-fill.ensures.told told is) in
    let some : 0 < length window = search rules in
    let bad : is_bad window ≡ true = rw c.bytes.ensures at c.in-Bad.ensures in
    bad_next c.args.size c.args.k left (omega (arith, some, ap length split, length-append window rest)) c.if-k-eq-MAX_FRAMES.false (same_bad left window rest split (c.in_ok-fill.ensures.ended told is) ∙ bad)

pub returns-clause-next : goal.returns-clause-next
returns-clause-next g c told is =
    let left : List ℕ = left_of c.args.ahead.now told (g.S.Source.place c.args.source.now) in
    let window : List ℕ = c.fill.new.self in
    let rest : List ℕ = drop (g.S.Source.place c.fill.new.source) told in
    let split : left ≡ window ++ rest = sym (c.in_ok-fill.ensures.told told is) in
    let head = rw c.bytes.ensures at c.in-Whole.ensures in
    let skips : Passes (drop c.in-Whole.len window ++ rest) (left_of c.skip.new.self told (g.S.Source.place c.skip.new.source)) c.args.size c.in_ok-count.count = rw c.consume.ensures at (c.in_ok-count.ensures.told told (c.in_ok-fill.ensures.keeps.told ∙ is)) in
    next left window rest _ c.in-Whole.len c.args.size c.in_ok-count.count split (c.in_ok-fill.ensures.ended told is) head.0 head.1 head.2 skips (omega (arith, c.if-count-size.false, c.in_ok-count.ensures.bound))

pub returns-then-count-size-clause-fault : goal.returns-then-count-size-clause-fault
returns-then-count-size-clause-fault g c told is =
    let left : List ℕ = left_of c.args.ahead.now told (g.S.Source.place c.args.source.now) in
    let window : List ℕ = c.fill.new.self in
    let rest : List ℕ = drop (g.S.Source.place c.fill.new.source) told in
    let split : left ≡ window ++ rest = sym (c.in_ok-fill.ensures.told told is) in
    let some : 0 < length window = search rules in
    let head = rw c.bytes.ensures at c.in-Whole.ensures in
    let skips : Passes (drop c.in-Whole.len window ++ rest) (left_of c.skip.new.self told (g.S.Source.place c.skip.new.source)) c.args.size c.in_ok-count.count = rw c.consume.ensures at (c.in_ok-count.ensures.told told (c.in_ok-fill.ensures.keeps.told ∙ is)) in
    let enough = c.in_ok-fill.ensures.ended told is in
    cut_next c.args.size c.args.k left (omega (arith, some, ap length split, length-append window rest)) c.if-k-eq-MAX_FRAMES.false
    (good_head left window rest _ c.in-Whole.len c.args.size c.in_ok-count.count split enough head.0 head.1 head.2 skips)
    (short_of left window rest _ c.in-Whole.len c.args.size c.in_ok-count.count split enough head.0 head.1 head.2 skips c.if-count-size.true)
