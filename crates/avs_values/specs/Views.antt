-- What the signatures and the bound arguments of the code stand for.
use Rattle.avs_values.specs.Binding as b
use Rattle.avs_values.specs.declared.binding.Bound.{Bound}
use Rattle.avs_values.specs.declared.parameter.Signature.{Signature}

abbrev pub signature_view : Signature → b.Signature
signature_view s = record { params = s.params.items; rest = s.rest; least = s.least }

abbrev pub bound_view : Bound → b.Bound
bound_view x = record { values = x.values.items; rest = x.rest.items }
