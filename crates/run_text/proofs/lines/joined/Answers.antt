-- The pieces that are left fit.
use Rattle.std.proofs.Common.{List, ℕ, [], lit<, ap, length, arith}
use Rattle.std.proofs.lemmas.List.Folds.{length-flat_map-take}
use denote.Ref.{Bor}
use Rattle.run_text.proofs.lines.joined.Goals as goal

pub push_str-requires : goal.push_str-requires
push_str-requires c =
    let none : Bor (List ℕ) = record { ref_ptr = (0, 0); now = [] } in
    (lit< tt, omega (arith, ap length c.loop-piece.invariant, length-flat_map-take (λ (piece : Bor (List ℕ)). piece.now) c.args.pieces.now c.loop-piece.piece-index none c.loop-piece-test.true, c.requires))
