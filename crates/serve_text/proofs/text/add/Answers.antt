-- One more piece.
use Rattle.std.proofs.Common.{◌≡◌, ◌∙◌, ◌++◌, ap₂, arith}
use Rattle.serve_text.proofs.TextLemmas.{one_more}
use Rattle.serve_text.proofs.text.add.Goals as goal

pub loop-piece-preserved : goal.loop-piece-preserved
loop-piece-preserved c =
    let added : c.extend_from_slice.new.self.items ≡ c.loop-piece.text.items ++ c.as_bytes.result.now = c.in_ok-extend_from_slice.ensures.items in
    added ∙ ap₂ (λ before text. before ++ text) c.loop-piece.invariant c.as_bytes.ensures.value
    ∙ one_more (λ piece. piece.now) c.args.text.now.items c.args.pieces.now c.loop-piece.piece-index _ (omega arith)
