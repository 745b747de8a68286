use Rattle.std.proofs.Common.{◌≡◌, drop, length}
use Rattle.avs_values.specs.Binding as b
use Rattle.avs_values.specs.Views.{signature_view}
use Rattle.avs_values.proofs.binding.bind.Given as goal

abbrev pub invariant-loop-arg : goal.invariant-loop-arg
invariant-loop-arg l = record {
  slots : length l.received.slots ≡ length l.signature.params.items;
  rest : b.bind_from (signature_view l.signature) (drop l.arg-index l.args) l.received ≡ b.bind_from (signature_view l.signature) l.args (b.nothing (length l.signature.params.items));
}
