use Rattle.std.proofs.Common.{◌+◌}
use Rattle.flt_turn.proofs.PartLemmas.{BlocksMade}
use Rattle.flt_turn.proofs.turn.turn_block.Given as goal

abbrev pub invariant-loop-k : goal.invariant-loop-k
invariant-loop-k g l = BlocksMade g.T.Turn.row_of g.T.Turn.column_of l.input l.plane l.y l.count (l.top + l.k) l.x l.out
