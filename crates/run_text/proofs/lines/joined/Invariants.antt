use Rattle.std.proofs.Common.{◌≡◌, take}
use Rattle.std.specs.List.{flat_map}
use Rattle.run_text.proofs.lines.joined.Given as goal

-- the pieces before are there
abbrev pub invariant-loop-piece : goal.invariant-loop-piece
invariant-loop-piece l = l.line.bytes ≡ flat_map (λ piece. piece.now) (take l.piece-index l.pieces)
