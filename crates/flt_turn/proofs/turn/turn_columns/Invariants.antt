use Rattle.flt_turn.proofs.PartLemmas.{ColumnsMade, ColumnBegun}
use Rattle.flt_turn.proofs.turn.turn_columns.Given as goal

abbrev pub invariant-loop-x : goal.invariant-loop-x
invariant-loop-x g l = ColumnsMade g.T.Turn.row_of g.T.Turn.column_of l.input l.plane l.y l.count l.x l.out

abbrev pub invariant-loop-k : goal.invariant-loop-k
invariant-loop-k g l = ColumnBegun g.T.Turn.row_of g.T.Turn.column_of l.input l.plane l.y l.count l.x l.k l.out
