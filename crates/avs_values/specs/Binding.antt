-- The binding of arguments to parameters (AviSynth+ wiki, 'Grammar': "Functions, arguments").
use Rattle.std.specs.Prelude.{ℕ, ◌+◌, ◌≤◌, ◌==◌, List, [], ◌∷◌, ◌++◌, map, length, replicate, slice_index_or, slice_set, nat_le, Bool, true, false, ◌&&◌, ◌||◌, IsTrue, Option, Some, None, is_some, is_none, if◌then◌else◌}
use Rattle.std.specs.List.{slice_get, list_all}
use Rattle.avs_values.specs.Values.{Text, same, has_kind, is_undefined}
use Rattle.avs_values.specs.declared.value.Value.{Value}
use Rattle.avs_values.specs.declared.value.Value.TheVariants as v
use Rattle.avs_values.specs.declared.value.Kind.{Kind}
use Rattle.avs_values.specs.declared.parameter.Param.{Param}
use Rattle.avs_values.specs.declared.binding.Given.{Given}

-- what a function takes: parameters, and then a rest of so many values at least
pub record Signature : Type 0 where
  pub params : List Param
  pub rest : Option Kind
  pub least : ℕ

-- the values of the parameters, Undefined where one was not given, and of the rest
pub record Bound : Type 0 where
  pub values : List Value
  pub rest : List Value

-- what was given so far to each parameter and to the rest, and how many arguments had no name
pub record Received : Type 0 where
  pub slots : List (Option Value)
  pub rest : List Value
  pub unnamed : ℕ

abbrev pub nothing : ℕ → Received
nothing params = record { slots = replicate params None; rest = []; unnamed = 0 }

-- An argument with a name goes to an optional parameter.
abbrev pub is_named : Text → Param → Bool
is_named name p = p.optional && same name p.name

-- the place of the first optional parameter of a name, counted on from k
abbrev pub place_of : Text → ℕ → List Param → Option ℕ
place_of name k [] = None
place_of name k (p ∷ ps) = if is_named name p then Some k else place_of name (k + 1) ps

-- Undefined for an optional parameter counts as not given. No parameter is given twice, and a value has its kind.
abbrev pub give : Param → ℕ → Value → Received → Option Received
give p k x so_far =
    if p.optional && is_undefined x then Some so_far
    else (if is_none (slice_index_or so_far.slots k None) && has_kind p.kind x
    then Some (record so_far { slots = slice_set so_far.slots k (Some x) }) else None)

abbrev pub give_rest : Option Kind → Value → Received → Option Received
give_rest None x so_far = None
give_rest (Some kind) x so_far =
    if has_kind kind x then Some (record so_far { rest = so_far.rest ++ x ∷ [] }) else None

abbrev pub give_at : Option Param → ℕ → Value → Received → Option Received
give_at None k x so_far = None
give_at (Some p) k x so_far = give p k x so_far

abbrev pub give_named : List Param → Option ℕ → Value → Received → Option Received
give_named params None x so_far = None
give_named params (Some k) x so_far = give_at (slice_get params k) k x so_far

-- The i-th argument without a name goes to the i-th parameter, or to the rest once the parameters are used up.
abbrev pub give_unnamed : Option Param → Option Kind → Value → Received → Option Received
give_unnamed None rest x so_far = give_rest rest x so_far
give_unnamed (Some p) rest x so_far = give p so_far.unnamed x (record so_far { unnamed = so_far.unnamed + 1 })

abbrev pub give_by : Signature → Option Text → Value → Received → Option Received
give_by sig None x so_far = give_unnamed (slice_get sig.params so_far.unnamed) sig.rest x so_far
give_by sig (Some name) x so_far = give_named sig.params (place_of name 0 sig.params) x so_far

-- after one more argument, or none where it does not fit
abbrev pub receive : Signature → Given → Received → Option Received
receive sig arg so_far = give_by sig arg.name arg.value so_far

-- Each required parameter is given.
abbrev pub is_given : Param → Option Value → Bool
is_given p slot = p.optional || is_some slot

abbrev pub all_given : List Param → List (Option Value) → Bool
all_given [] slots = true
all_given (p ∷ ps) [] = true
all_given (p ∷ ps) (slot ∷ slots) = is_given p slot && all_given ps slots

abbrev pub or_undefined : Option Value → Value
or_undefined None = v.Undefined
or_undefined (Some x) = x

abbrev pub finished : Signature → Received → Option Bound
finished sig got =
    if all_given sig.params got.slots && nat_le sig.least (length got.rest)
    then Some (record { values = map or_undefined got.slots; rest = got.rest }) else None

abbrev pub and_then : {A B : Type 0} → Option A → (A → Option B) → Option B
and_then None f = None
and_then (Some a) f = f a

abbrev pub bind_from : Signature → List Given → Received → Option Bound
bind_from sig [] so_far = finished sig so_far
bind_from sig (arg ∷ args) so_far = and_then (receive sig arg so_far) (bind_from sig args)

-- the values of the parameters and of the rest, or none where the arguments do not fit
unfoldable pub bind : Signature → List Given → Option Bound
bind sig args = bind_from sig args (nothing (length sig.params))

-- a value that binding gives to a parameter
abbrev pub suits : Param → Value → Bool
suits p x = p.optional && is_undefined x || has_kind p.kind x

abbrev pub all_suit : List Param → List Value → Bool
all_suit [] [] = true
all_suit (p ∷ ps) (x ∷ xs) = suits p x && all_suit ps xs
all_suit _ _ = false

abbrev pub rest_suits : Option Kind → List Value → Bool
rest_suits None xs = length xs == 0
rest_suits (Some kind) xs = list_all (has_kind kind) xs

-- each parameter has a value of its kind, or Undefined where it is optional, and so has the rest, with its least number
pub record Suits (sig : Signature) (bound : Bound) : Type 0 where
  pub params : IsTrue (all_suit sig.params bound.values)
  pub rest : IsTrue (rest_suits sig.rest bound.rest)
  pub least : sig.least ≤ length bound.rest
