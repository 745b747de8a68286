-- What the values of the code stand for.
use Rattle.std.specs.Prelude.{ℕ, Option, option_map}
use Rattle.avs_values.specs.Views.{bound_view}
use Rattle.avs_values.specs.declared.binding.Bound.{Bound}
use Rattle.avs_meaning.specs.Expressions as m
use Rattle.avs_state.specs.States.{defined_view}
use Rattle.avs_expressions.specs.declared.callee.Callee.{Callee}
use Rattle.avs_expressions.specs.declared.callee.Callee.TheVariants.{User, Builtin}

abbrev pub callee_view : Callee → m.Callee
callee_view (User shared) = m.user (defined_view shared.value)
callee_view (Builtin function) = m.builtin function

abbrev pub fit_view : Option (ℕ × Bound) → m.Fit
fit_view = option_map (λ found. (found.0, bound_view found.1))
