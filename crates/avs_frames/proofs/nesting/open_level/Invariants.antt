use Rattle.std.proofs.Common.{◌≡◌, ◌≤◌, sum, map, take}
use Rattle.avs_frames.specs.Open.{opens}
use Rattle.avs_frames.proofs.nesting.open_level.Given as goal

abbrev pub invariant-loop-item : goal.invariant-loop-item
invariant-loop-item l = record {
  is : l.levels ≡ sum (map opens (take l.item-index l.opened));
  few : l.levels ≤ l.item-index;
}
