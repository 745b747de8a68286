-- What a read gives is what the bytes have from its place on.
use Rattle.std.proofs.Common.{◌≡◌, ◌+◌, ◌≤◌, ℕ, ◌++◌, length, arith, rules, take, drop}
use Rattle.fv_io.specs.SourceState.{bytes_now}
use Rattle.fv_io.proofs.SourceStateLemmas.{bytes_now-told, reads}
use Rattle.fv_io.proofs.memory.source.MemSourceSource.read.Goals as goal

pub returns-clause-told : goal.returns-clause-told
returns-clause-told c told is =
    let state = c.args.self.now in
    let count : ℕ = c.amount-count.result in
    let rest = drop count c.args.buf.now in
    let piece : c.copy_from_slice.new.self ≡ take count (drop state.place (bytes_now state)) = search rules in
    let inside : state.place + count ≤ length (bytes_now state) = c.amount-count.ensures.inside in
    let size : length (c.copy_from_slice.new.self ++ rest) ≡ length c.args.buf.now = search rules in
    reads (bytes_now state) told c.copy_from_slice.new.self rest state.place count (bytes_now-told state told is) piece inside (λ nothing some. c.amount-count.ensures.ended (search rules) nothing (omega arith))
