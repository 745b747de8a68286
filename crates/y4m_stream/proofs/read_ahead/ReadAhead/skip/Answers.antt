-- What was ahead is passed first.
use Rattle.std.proofs.Common.{◌≡◌, length, drop, arith}
use Rattle.y4m_stream.proofs.ReadAheadLemmas.{passed_ahead, passed_on}
use Rattle.y4m_stream.proofs.read_ahead.ReadAhead.skip.Goals as goal

pub returns-then-there-size-clause-told : goal.returns-then-there-size-clause-told
returns-then-there-size-clause-told g c told is =
    let all : c.min-there.result ≡ c.args.size = c.if-there-size.true in
    rw (c.consume.ensures, all) (passed_ahead c.args.self.now (drop (g.S.Source.place c.args.source.now) told) c.args.size (omega (arith, c.min-there.ensures, c.len.ensures)))

pub returns-clause-told : goal.returns-clause-told
returns-clause-told g c told is =
    let skips = c.in_ok-count.ensures.told told is in
    let there : c.min-there.result ≡ length c.args.self.now = omega (arith, c.min-there.ensures, c.len.ensures, c.if-there-size.false) in
    rw c.consume.ensures
    (passed_on c.args.self.now told c.min-there.result (g.S.Source.place c.args.source.now) (g.S.Source.place c.skip.new.self) c.args.size c.in_ok-count.count there (omega (arith, c.min-there.ensures)) skips c.in_ok-count.ensures.moved)
