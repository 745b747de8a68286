-- What Eval and Import are given is one text. What functions have.
use Rattle.std.proofs.Common.{◌≡◌, ℕ, zero, suc, List, [], ◌∷◌, Bool, true, false, if◌then◌else◌, Option, Some, None, length, subst}
use Rattle.avs_values.specs.Binding.{Bound, Received, nothing, give_unnamed, give_by, receive, finished, and_then, bind_from, bind}
use Rattle.avs_values.specs.Functions.{required}
use Rattle.avs_values.specs.Values.{Text}
use Rattle.avs_values.specs.declared.binding.Given.{Given}
use Rattle.avs_values.specs.declared.value.Kind.TheVariants as k
use Rattle.avs_values.specs.declared.value.Value.{Value}
use Rattle.avs_values.specs.declared.value.Value.TheVariants as v
use Rattle.avs_meaning.specs.Expressions.{Callee, builtin, takes, Fit, fit, fit_by, fit_last, or_fit, fit_or_last, unnamed}
use Rattle.avs_meaning.specs.Table.{one}
use Rattle.avs_meaning.proofs.RangeArguments.{IsRangeOf, range_fits}
use Rattle.avs_meaning.specs.declared.builtin.Builtin.TheVariants as b

abbrev pub IsText : List Value → Type 0
IsText (v.Text text ∷ []) = Unit {0}
IsText _ = ⊥

abbrev BindsText : Option Bound → Type 0
BindsText None = Unit {0}
BindsText (Some bound) = IsText bound.values

-- none yet, or a text
abbrev IsSlot : List (Option Value) → Type 0
IsSlot (None ∷ []) = Unit {0}
IsSlot (Some (v.Text text) ∷ []) = Unit {0}
IsSlot _ = ⊥

abbrev Receives : Option Received → Type 0
Receives None = Unit {0}
Receives (Some r) = IsSlot r.slots

gives : (slots : List (Option Value)) (x : Value) (rest : List Value) → IsSlot slots
    → Receives (give_unnamed (Some (required k.Text)) None x (record { slots = slots; rest = rest; unnamed = zero }))
gives (None ∷ []) (v.Text text) rest is = tt
gives (None ∷ []) _ rest is = tt
gives (Some (v.Text text) ∷ []) x rest is = tt
gives _ x rest is = absurd is

receives : (name : Option Text) (x : Value) (slots : List (Option Value)) (rest : List Value) (given : ℕ) → IsSlot slots
    → Receives (give_by (one k.Text) name x (record { slots = slots; rest = rest; unnamed = given }))
receives None x slots rest zero is = gives slots x rest is
receives None x slots rest (suc given) is = tt
receives (Some name) x slots rest given is = tt

ends : (fits : Bool) (bound : Bound) → IsText bound.values → BindsText (if fits then Some bound else None)
ends true bound is = is
ends false bound is = tt

finishes : (slots : List (Option Value)) (rest : List Value) (given : ℕ) → IsSlot slots → BindsText (finished (one k.Text) (record { slots = slots; rest = rest; unnamed = given }))
finishes (None ∷ []) rest given is = tt
finishes (Some (v.Text text) ∷ []) rest given is = ends _ (record { values = v.Text text ∷ []; rest = rest }) tt
finishes _ rest given is = absurd is

goes_on : (o : Option Received) (args : List Given) → Receives o → ((r : Received) → IsSlot r.slots → BindsText (bind_from (one k.Text) args r)) → BindsText (and_then o (bind_from (one k.Text) args))
goes_on None args is rest = tt
goes_on (Some r) args is rest = rest r is

binds_from : (args : List Given) (r : Received) → IsSlot r.slots → BindsText (bind_from (one k.Text) args r)
binds_from [] r is = finishes r.slots r.rest r.unnamed is
binds_from (arg ∷ args) r is = goes_on (receive (one k.Text) arg r) args (receives arg.name arg.value r.slots r.rest r.unnamed is) (λ t next. binds_from args t next)

binds : (args : List Given) → BindsText (bind (one k.Text) args)
unfolding bind
binds args = binds_from args (nothing 1) tt

abbrev FitsText : Fit → Type 0
FitsText None = Unit {0}
FitsText (Some found) = IsText found.1.values

first_fit : (o : Option Bound) → BindsText o → FitsText (fit_by o 0 None)
first_fit None is = tt
first_fit (Some bound) is = is

fits : (args : List Given) → FitsText (fit 0 (one k.Text ∷ []) args)
fits args = first_fit (bind (one k.Text) args) (binds args)

fits_last : (args : List Given) (last : Option Value) → FitsText (fit_last (one k.Text ∷ []) args last)
fits_last args None = tt
fits_last args (Some x) = fits (unnamed x ∷ args)

either_fits : (o other : Fit) → FitsText o → FitsText other → FitsText (or_fit o other)
either_fits (Some found) other first second = first
either_fits None other first second = second

text_fits : (args : List Given) (last : Option Value) (sig : ℕ) (bound : Bound) → fit_or_last (one k.Text ∷ []) args last ≡ Some (sig, bound) → IsText bound.values
text_fits args last sig bound is = subst FitsText is (either_fits (fit 0 (one k.Text ∷ []) args) (fit_last (one k.Text ∷ []) args last) (fits args) (fits_last args last))

-- What the arguments of a function are, where there were so many: Eval and Import have a text, ApplyRange has a range, and of
-- others nothing is said.
abbrev pub HasForm : Callee → ℕ → Bound → Type 0
HasForm (builtin b.Eval) count bound = IsText bound.values
HasForm (builtin b.Import) count bound = IsText bound.values
HasForm (builtin b.ApplyRange) count bound = IsRangeOf count bound
HasForm _ count bound = Unit {0}

pub has_form : (c : Callee) (args : List Given) (last : Option Value) (sig : ℕ) (bound : Bound) → fit_or_last (takes c) args last ≡ Some (sig, bound) → HasForm c (length args) bound
has_form (builtin b.Eval) args last sig bound is = text_fits args last sig bound is
has_form (builtin b.Import) args last sig bound is = text_fits args last sig bound is
has_form (builtin b.ApplyRange) args last sig bound is = range_fits args last sig bound is
has_form _ args last sig bound is = tt
