use Rattle.std.proofs.Common.{◌≡◌, ℕ, ◌+◌, ◌*◌, ◌<◌, length, get_or}
use Rattle.fv_plane.specs.Picture.{bytes_of_row, row_of}
use Rattle.fv_plane.specs.Format.{plane_height}
use Rattle.flt_turn.proofs.turn.read_block.Given as goal

abbrev pub invariant-loop-i : goal.invariant-loop-i
invariant-loop-i g l =
    (length l.block ≡ 256)
    × ((k i : ℕ) → k < 16 → i < l.i → get_or l.block (16 * i + k) 0
    ≡ get_or (bytes_of_row l.input.shape (row_of l.input.planes l.plane (g.T.Turn.row_of (plane_height l.input.shape l.plane) (l.x + i)))) (l.from + k) 0)
