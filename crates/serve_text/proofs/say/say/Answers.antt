-- A put failed: the line is cut short.
use Rattle.std.proofs.Common.{List, ℕ, [], rules}
use denote.Ref.{Bor}
use Rattle.serve_text.proofs.SayLemmas.{says_cut, of_err}
use Rattle.serve_text.proofs.say.say.Goals as goal

pub returns-then-is_err : goal.returns-then-is_err
returns-then-is_err g c =
    let none : Bor (List ℕ) = record { ref_ptr = (0, 0); now = [] } in
    let failed = rw c.is_err.ensures.value at c.if-is_err.true in
    let put = c.loop-piece.invariant in
    says_cut g.E.Sink (λ (piece : Bor (List ℕ)). piece.now) c.args.pieces.now c.loop-piece.piece-index none c.args.err.now c.loop-piece.err c.put.new.self (search rules) put.put
    (rw c.as_bytes.ensures.value at (of_err c.put.result failed c.put.ensures.cut)) put.steady c.put.ensures.later (of_err c.put.result failed c.put.ensures.failed)
