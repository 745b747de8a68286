use Rattle.std.proofs.Common.{◌≡◌}
use Rattle.avs_state.specs.Names.{first_named}
use Rattle.avs_state.proofs.by_name.ByName.among.Given as goal

abbrev pub invariant-loop-item : goal.invariant-loop-item
invariant-loop-item g l = record {
  can : (goal.iterator-loop-item g).can_next l.item-iterator;
  finite : (goal.iterator-loop-item g).is_finite l.item-iterator;
  left : first_named g.T.Named.name l.name l.item-iterator ≡ first_named g.T.Named.name l.name l.self;
}
