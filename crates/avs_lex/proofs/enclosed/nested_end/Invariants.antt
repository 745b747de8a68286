use Rattle.std.proofs.Common.{◌≡◌, ◌≤◌, ◌-◌, drop, length}
use Rattle.avs_lex.specs.Piece as s
use Rattle.avs_lex.proofs.enclosed.nested_end.Given as goal

abbrev pub invariant-loop-offset : goal.invariant-loop-offset
invariant-loop-offset l = record {
  few : l.inner ≤ l.offset;
  within : l.offset ≤ length l.rest;
  rest : s.nested_end l.inner l.offset (drop l.offset l.rest) ≡ s.nested_end 0 2 (drop 2 l.rest);
}

abbrev pub decreases-loop-offset : goal.decreases-loop-offset
decreases-loop-offset l = length l.rest - l.offset
