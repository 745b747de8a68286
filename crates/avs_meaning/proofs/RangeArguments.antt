-- What ApplyRange is given: a clip, a range and the name of a function, and fewer further values than there are arguments.
use Rattle.std.proofs.Common.{◌≡◌, ◌∙◌, ℕ, zero, suc, ◌+◌, ◌≤◌, List, [], ◌∷◌, ◌++◌, length, Bool, true, false, if◌then◌else◌, Option, Some, None, subst, refl, arith}
use Rattle.std.proofs.lemmas.List.{length-append}
use Rattle.avs_values.specs.Binding.{Bound, Received, nothing, give_by, receive, finished, and_then, bind_from, bind}
use Rattle.avs_values.specs.Values.{Text}
use Rattle.avs_values.specs.declared.binding.Given.{Given}
use Rattle.avs_values.specs.declared.value.Value.{Value}
use Rattle.avs_values.specs.declared.value.Value.TheVariants as v
use Rattle.avs_meaning.specs.Expressions.{Fit, fit, fit_by, fit_last, or_fit, fit_or_last, unnamed}
use Rattle.avs_meaning.specs.Table.{apply_range}

abbrev pub IsRange : List Value → Type 0
IsRange (v.Clip i ∷ v.Int first ∷ v.Int last ∷ v.Text word ∷ []) = Unit {0}
IsRange _ = ⊥

-- The parameters have what so many arguments give them.
abbrev IsFilled : List (Option Value) → ℕ → Type 0
IsFilled (None ∷ None ∷ None ∷ None ∷ []) zero = Unit {0}
IsFilled (Some (v.Clip i) ∷ None ∷ None ∷ None ∷ []) (suc zero) = Unit {0}
IsFilled (Some (v.Clip i) ∷ Some (v.Int a) ∷ None ∷ None ∷ []) (suc (suc zero)) = Unit {0}
IsFilled (Some (v.Clip i) ∷ Some (v.Int a) ∷ Some (v.Int z) ∷ None ∷ []) (suc (suc (suc zero))) = Unit {0}
IsFilled (Some (v.Clip i) ∷ Some (v.Int a) ∷ Some (v.Int z) ∷ Some (v.Text w) ∷ []) (suc (suc (suc (suc zero)))) = Unit {0}
IsFilled _ _ = ⊥

-- after g arguments
abbrev Receives : ℕ → Option Received → Type 0
Receives g None = Unit {0}
Receives g (Some r) = IsFilled r.slots r.unnamed × (length r.rest + r.unnamed ≡ g)

one_more : (rest : List Value) (x : Value) → length (rest ++ x ∷ []) ≡ suc (length rest)
one_more rest x = length-append rest (x ∷ []) ∙ omega arith

receives : (name : Option Text) (x : Value) (slots : List (Option Value)) (rest : List Value) (given g : ℕ) → IsFilled slots given → length rest + given ≡ g
    → Receives (suc g) (give_by apply_range name x (record { slots = slots; rest = rest; unnamed = given }))
receives (Some name) x slots rest given g is count = tt
receives None (v.Clip i) (None ∷ None ∷ None ∷ None ∷ []) rest zero g is count = (tt, omega arith)
receives None _ (None ∷ None ∷ None ∷ None ∷ []) rest zero g is count = tt
receives None (v.Int n) (Some (v.Clip i) ∷ None ∷ None ∷ None ∷ []) rest (suc zero) g is count = (tt, omega arith)
receives None _ (Some (v.Clip i) ∷ None ∷ None ∷ None ∷ []) rest (suc zero) g is count = tt
receives None (v.Int n) (Some (v.Clip i) ∷ Some (v.Int a) ∷ None ∷ None ∷ []) rest (suc (suc zero)) g is count = (tt, omega arith)
receives None _ (Some (v.Clip i) ∷ Some (v.Int a) ∷ None ∷ None ∷ []) rest (suc (suc zero)) g is count = tt
receives None (v.Text w) (Some (v.Clip i) ∷ Some (v.Int a) ∷ Some (v.Int z) ∷ None ∷ []) rest (suc (suc (suc zero))) g is count = (tt, omega arith)
receives None _ (Some (v.Clip i) ∷ Some (v.Int a) ∷ Some (v.Int z) ∷ None ∷ []) rest (suc (suc (suc zero))) g is count = tt
receives None x (Some (v.Clip i) ∷ Some (v.Int a) ∷ Some (v.Int z) ∷ Some (v.Text w) ∷ []) rest (suc (suc (suc (suc zero)))) g is count =
    (tt, (let e : length (rest ++ x ∷ []) ≡ suc (length rest) = one_more rest x in omega arith))
receives None x _ rest _ g is count = absurd is

-- a range, and so many further values
abbrev Ranges : ℕ → Option Bound → Type 0
Ranges g None = Unit {0}
Ranges g (Some bound) = IsRange bound.values × (length bound.rest + 4 ≡ g)

ends : (g : ℕ) (fits : Bool) (bound : Bound) → IsRange bound.values × (length bound.rest + 4 ≡ g) → Ranges g (if fits then Some bound else None)
ends g true bound is = is
ends g false bound is = tt

finishes : (slots : List (Option Value)) (rest : List Value) (given g : ℕ) → IsFilled slots given → length rest + given ≡ g
    → Ranges g (finished apply_range (record { slots = slots; rest = rest; unnamed = given }))
finishes (None ∷ None ∷ None ∷ None ∷ []) rest zero g is count = tt
finishes (Some (v.Clip i) ∷ None ∷ None ∷ None ∷ []) rest (suc zero) g is count = tt
finishes (Some (v.Clip i) ∷ Some (v.Int a) ∷ None ∷ None ∷ []) rest (suc (suc zero)) g is count = tt
finishes (Some (v.Clip i) ∷ Some (v.Int a) ∷ Some (v.Int z) ∷ None ∷ []) rest (suc (suc (suc zero))) g is count = tt
finishes (Some (v.Clip i) ∷ Some (v.Int a) ∷ Some (v.Int z) ∷ Some (v.Text w) ∷ []) rest (suc (suc (suc (suc zero)))) g is count =
    ends g _ (record { values = v.Clip i ∷ v.Int a ∷ v.Int z ∷ v.Text w ∷ []; rest = rest }) (tt, omega arith)
finishes _ rest _ g is count = absurd is

goes_on : (g all : ℕ) (o : Option Received) (args : List Given) → Receives g o
    → ((r : Received) → IsFilled r.slots r.unnamed → length r.rest + r.unnamed ≡ g → Ranges all (bind_from apply_range args r)) → Ranges all (and_then o (bind_from apply_range args))
goes_on g all None args is rest = tt
goes_on g all (Some r) args is rest = rest r is.0 is.1

binds_from : (args : List Given) (r : Received) (g : ℕ) → IsFilled r.slots r.unnamed → length r.rest + r.unnamed ≡ g → Ranges (length args + g) (bind_from apply_range args r)
binds_from [] r g is count = let e : g ≡ length {A = Given} [] + g = omega arith in subst (λ all. Ranges all (bind_from apply_range [] r)) e (finishes r.slots r.rest r.unnamed g is count)
binds_from (arg ∷ args) r g is count =
    goes_on (suc g) (suc (length args) + g) (receive apply_range arg r) args (receives arg.name arg.value r.slots r.rest r.unnamed g is count)
    (λ t next counted. let e : length args + suc g ≡ suc (length args) + g = omega arith in subst (λ all. Ranges all (bind_from apply_range args t)) e (binds_from args t (suc g) next counted))

binds : (args : List Given) → Ranges (length args) (bind apply_range args)
unfolding bind
binds args = let e : length args + 0 ≡ length args = omega arith in subst (λ all. Ranges all (bind_from apply_range args (nothing 4))) e (binds_from args (nothing 4) 0 tt refl)

-- There are at least three arguments more than further values, whether `last` comes first or not.
abbrev pub IsRangeOf : ℕ → Bound → Type 0
IsRangeOf count bound = IsRange bound.values × (length bound.rest + 3 ≤ count)

abbrev Fits : ℕ → Fit → Type 0
Fits count None = Unit {0}
Fits count (Some found) = IsRangeOf count found.1

first_fit : (count g : ℕ) (o : Option Bound) → g ≤ suc count → Ranges g o → Fits count (fit_by o 0 None)
first_fit count g None few is = tt
first_fit count g (Some bound) few is = let e : length bound.rest + 4 ≡ g = is.1 in (is.0, omega arith)

fits_last : (args : List Given) (last : Option Value) → Fits (length args) (fit_last (apply_range ∷ []) args last)
fits_last args None = tt
fits_last args (Some x) = first_fit (length args) (suc (length args)) (bind apply_range (unnamed x ∷ args)) (omega arith) (binds (unnamed x ∷ args))

either_fits : (count : ℕ) (o other : Fit) → Fits count o → Fits count other → Fits count (or_fit o other)
either_fits count (Some found) other first second = first
either_fits count None other first second = second

pub range_fits : (args : List Given) (last : Option Value) (sig : ℕ) (bound : Bound) → fit_or_last (apply_range ∷ []) args last ≡ Some (sig, bound) → IsRangeOf (length args) bound
range_fits args last sig bound is = subst (Fits (length args)) is
    (either_fits (length args) (fit 0 (apply_range ∷ []) args) (fit_last (apply_range ∷ []) args last)
    (first_fit (length args) (length args) (bind apply_range args) (omega arith) (binds args)) (fits_last args last))
