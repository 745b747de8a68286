use Rattle.std.proofs.Common.{◌*◌}
use Rattle.flt_turn.proofs.PartLemmas.{ColumnsMade}
use Rattle.flt_turn.proofs.turn.turn_blocks.Given as goal

abbrev pub invariant-loop-block : goal.invariant-loop-block
invariant-loop-block g l = ColumnsMade g.T.Turn.row_of g.T.Turn.column_of l.input l.plane l.y l.count (16 * l.block) l.out
