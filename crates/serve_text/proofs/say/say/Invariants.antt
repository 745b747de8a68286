use Rattle.std.proofs.Common.{◌≡◌, take}
use Rattle.std.specs.List.{flat_map}
use Rattle.fv_io.specs.Sink.{Puts}
use Rattle.serve_text.proofs.say.say.Given as goal

-- the pieces before were put
abbrev pub invariant-loop-piece : goal.invariant-loop-piece
invariant-loop-piece g l =
    let sink = g.E.Sink in
    record {
      put : Puts sink l.fn.err l.err (flat_map (λ piece. piece.now) (take l.piece-index l.pieces));
      steady : sink.faults l.err ≡ sink.faults l.fn.err;
    }
