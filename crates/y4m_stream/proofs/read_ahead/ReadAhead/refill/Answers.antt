-- The window has what was ahead, and then what was read.
use Rattle.std.proofs.Common.{◌≡◌, ◌+◌, ◌-◌, ◌≤◌, ◌++◌, ℕ, List, length, take, drop, ap, ◌∙◌, arith, rules}
use Rattle.std.proofs.Math.Seq.{paste}
use Rattle.std.proofs.lemmas.List.{length-drop, take_at}
use Rattle.y4m_stream.proofs.ReadAheadLemmas.{put_from, refilled, put_size, window_size, nothing_left}
use Rattle.y4m_stream.proofs.read_ahead.ReadAhead.refill.Goals as goal

pub returns-clause-told : goal.returns-clause-told
returns-clause-told g c told is =
    let a = c.self.inside in
    let have : ℕ = a.end - a.start in
    let count : ℕ = c.in_ok-count.count in
    let read = c.in_ok-count.ensures in
    let buf : List ℕ = c.deref_mut.result.now in
    let piece : List ℕ = c.read_full.new.buf in
    let room : ℕ = c.args.most - have in
    let put : List ℕ = put_from have room buf piece in
    let moved : buf ≡ paste a.buf.items 0 (drop a.start a.buf.items) have = search rules in
    let few : have ≤ length (drop a.start a.buf.items) = omega (arith, length-drop a.start a.buf.items) in
    let sized : length piece ≡ room = search rules in
    let fits : have + room ≤ length buf = search rules in
    let size : length put ≡ c.copy_within.new.self.len = put_size told a.buf.items buf piece a.start have room _ _ count moved few (read.told told is) read.bound read.moved sized fits ∙ search rules in
    ap (λ (l : List ℕ). take (have + count - 0) l ++ drop (g.S.Source.place c.read_full.new.source) told) (take_at put _ c.copy_within.new.self.len size)
    ∙ ap (λ n. take n put ++ drop (g.S.Source.place c.read_full.new.source) told) (let e : have + count - 0 ≡ have + count = omega arith in e)
    ∙ refilled told a.buf.items buf piece a.start have room _ _ count moved few (read.told told is) read.bound read.moved
    ∙ ap (λ (l : List ℕ). l ++ drop (g.S.Source.place c.args.source.now) told) c.self.view_is

pub returns-clause-ended : goal.returns-clause-ended
returns-clause-ended g c told is short =
    let a = c.self.inside in
    let have : ℕ = a.end - a.start in
    let count : ℕ = c.in_ok-count.count in
    let read = c.in_ok-count.ensures in
    let buf : List ℕ = c.deref_mut.result.now in
    let piece : List ℕ = c.read_full.new.buf in
    let room : ℕ = c.args.most - have in
    let put : List ℕ = put_from have room buf piece in
    let moved : buf ≡ paste a.buf.items 0 (drop a.start a.buf.items) have = search rules in
    let few : have ≤ length (drop a.start a.buf.items) = omega (arith, length-drop a.start a.buf.items) in
    let sized : length piece ≡ room = search rules in
    let fits : have + room ≤ length buf = search rules in
    let size : length put ≡ c.copy_within.new.self.len = put_size told a.buf.items buf piece a.start have room _ _ count moved few (read.told told is) read.bound read.moved sized fits ∙ search rules in
    let window : take (have + count - 0) (take c.copy_within.new.self.len (put ++ drop (length put) c.copy_within.new.self.items)) ≡ take (have + count) put
    = ap (λ (l : List ℕ). take (have + count - 0) l) (take_at put _ c.copy_within.new.self.len size) ∙ ap (λ n. take n put) (let e : have + count - 0 ≡ have + count = omega arith in e) in
    let full = window_size told a.buf.items buf piece a.start have room _ _ count moved few (read.told told is) read.bound read.moved in
    nothing_left told a.buf.items buf piece a.start have room _ _ count moved few (read.told told is) read.bound read.moved (omega (arith, short, ap length window, full, sized))
