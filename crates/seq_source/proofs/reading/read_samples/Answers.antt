-- The samples are read piece by piece.
use Rattle.std.proofs.Common.{◌≡◌, ◌∙◌, ◌+◌, ◌-◌, ℕ, List, length, take, drop, rules, arith}
use Rattle.std.proofs.lemmas.List.{length-drop, length-take-le}
use Rattle.seq_source.proofs.RangeLemmas.{begins, goes_on, all_fit}
use Rattle.seq_source.proofs.reading.read_samples.Goals as goal

pub loop-at-init : goal.loop-at-init
loop-at-init g c = begins g.S.Source c.args.source.now c.args.shape c.args.start c.args.bytes.now c.requires.whole c.requires.is_at

pub loop-at-preserved : goal.loop-at-preserved
loop-at-preserved g c =
    let read = c.in_ok-read_piece.ensures in
    let reads = c.loop-at.invariant in
    let bytes : List ℕ = c.loop-at.bytes in
    let at : ℕ = c.loop-at.at in
    let size : ℕ = c.min-size.result in
    let n : ℕ = at + size - at in
    let part : length (take n (drop at bytes)) ≡ size = length-take-le n (drop at bytes) (omega (arith, length-drop at bytes, c.min-size.ensures)) ∙ omega arith in
    goes_on g.S.Source c.args.source.now c.loop-at.source c.read_piece.new.source c.args.shape c.args.start at size n _ bytes c.read_piece.new.bytes c.bring_in_range.new.bytes
    reads c.min-size.ensures (omega arith) part (search rules) read.are_bytes
    c.bring_in_range.ensures read.is_at read.keeps (read.steady (λ no. (let none : ⊥ = cc in none))) read.bytes

pub returns-clause-fits : goal.returns-clause-fits
returns-clause-fits g c = all_fit g.S.Source c.args.source.now c.args.shape c.args.start c.loop-at.at c.loop-at.bytes (let reads = c.loop-at.invariant in reads.has) c.loop-at-test.false
