use Rattle.std.proofs.Common.{◌≡◌, ◌≤◌, length, drop}
use Rattle.fv_spares.specs.Spares.{sizes_of, NoneServes}
use Rattle.fv_spares.proofs.spares.take_from.Given as goal

abbrev pub invariant-loop-at : goal.invariant-loop-at
invariant-loop-at l = record {
  within : l.at ≤ length l.pieces.items;
  kept : l.pieces.items ≡ l.fn.pieces.items;
  none : NoneServes l.size (sizes_of (drop l.at l.pieces.items));
}

abbrev pub decreases-loop-at : goal.decreases-loop-at
decreases-loop-at l = l.at
