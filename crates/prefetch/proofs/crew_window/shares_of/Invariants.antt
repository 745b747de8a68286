-- The shares so far.
use Rattle.std.proofs.Common.{◌≡◌}
use Rattle.std.specs.Prelude.{All}
use Rattle.std.specs.Arc.{arc_value}
use Rattle.std.specs.Vec.{vec_len}
use Rattle.prefetch.proofs.crew_window.shares_of.Given as goal

abbrev pub invariant-loop : goal.invariant-loop
invariant-loop l = record {
  count : vec_len l.shares ≡ l.counter;
  same : All (λ share. arc_value share ≡ arc_value l.graph) l.shares.items;
}
