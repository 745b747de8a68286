use Rattle.std.proofs.Common.{◌*◌}
use Rattle.flt_turn.proofs.PartLemmas.{BlocksMade}
use Rattle.flt_turn.proofs.turn.turn_across.Given as goal

abbrev pub invariant-loop-block : goal.invariant-loop-block
invariant-loop-block g l = BlocksMade g.T.Turn.row_of g.T.Turn.column_of l.input l.plane l.y l.count (16 * l.block) l.x l.out
