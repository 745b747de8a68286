-- What the definitions of binding and of the functions determine together.
use Rattle.std.specs.Prelude.{◌≢◌, Err}
use Rattle.avs_values.specs.Binding.{Bound, Suits}
use Rattle.avs_values.specs.Functions.{plain, signature}
use Rattle.avs_values.specs.Values.{TypeFault}
use Rattle.avs_values.specs.declared.plain_fn.PlainFn.{PlainFn}
use Rattle.avs_values.specs.declared.plain_fn.PlainFn.TheVariants.{String}

-- Of arguments that were bound to its signature no function but `String` says TypeFault.
abbrev pub BoundArgumentsHaveTheirKinds : Type 0
BoundArgumentsHaveTheirKinds =
    (function : PlainFn) (bound : Bound) → Suits (signature function) bound → function ≢ String → plain function bound ≢ Err TypeFault
