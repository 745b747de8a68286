-- What binding gives has the kinds that the signature asks for.
use Rattle.std.proofs.Common.{rules, ◌≡◌, ℕ, suc, zero, ◌+◌, ◌≤◌, List, [], ◌∷◌, ◌++◌, ◌∙◌, map, length, drop, replicate, Bool, true, false, ◌&&◌, Option, Some, None, Result, Ok, Err, IfOk, option_map, refl, arith, nat_le, is_none, if◌then◌else◌, IfSome, slice_get, slice_set, slice_index_or}
use Rattle.std.specs.List.{list_all}
use Rattle.std.proofs.Math.ListN.{drop_of_length-le}
use Rattle.std.proofs.lemmas.Bool.Decides.{nat_tests}
use Rattle.avs_values.specs.Binding.{Signature, Bound, Received, nothing, give, give_rest, give_at, give_named, give_unnamed, give_by, receive, is_given, all_given, or_undefined, finished, and_then, bind_from, bind, suits, all_suit, rest_suits, Suits, place_of}
use Rattle.avs_values.specs.Values.{Text, has_kind, is_undefined}
use Rattle.avs_values.specs.Views.{bound_view}
use Rattle.avs_values.specs.declared.binding.Bound.{Bound as CodeBound}
use Rattle.avs_values.specs.declared.binding.Given.{Given}
use Rattle.avs_values.specs.declared.parameter.Param.{Param}
use Rattle.avs_values.specs.declared.value.Kind.{Kind}
use Rattle.avs_values.specs.declared.value.Value.{Value}

abbrev slot_suits : Param → Option Value → Bool
slot_suits p None = true
slot_suits p (Some x) = has_kind p.kind x

abbrev slots_suit : List Param → List (Option Value) → Bool
slots_suit [] [] = true
slots_suit (p ∷ ps) (slot ∷ slots) = slot_suits p slot && slots_suit ps slots
slots_suit _ _ = false

record IsSuited (sig : Signature) (r : Received) : Type 0 where
  slots : slots_suit sig.params r.slots ≡ true
  rest : rest_suits sig.rest r.rest ≡ true

both : (a b : Bool) → a ≡ true → b ≡ true → (a && b) ≡ true
both a b x y = grind arith

left : (a b : Bool) → (a && b) ≡ true → a ≡ true
left a b x = grind arith

right : (a b : Bool) → (a && b) ≡ true → b ≡ true
right a b x = grind arith

rest_empty : (o : Option Kind) → rest_suits o [] ≡ true
rest_empty None = refl
rest_empty (Some kind) = refl

none_suit : (ps : List Param) → slots_suit ps (replicate (length ps) None) ≡ true
none_suit [] = refl
none_suit (p ∷ ps) = none_suit ps

set_suits : (ps : List Param) (slots : List (Option Value)) (k : ℕ) (p : Param) (x : Value) → slots_suit ps slots ≡ true → slice_get ps k ≡ Some p → has_kind p.kind x ≡ true
    → slots_suit ps (slice_set slots k (Some x)) ≡ true
set_suits [] [] k p x all at kind = refl
set_suits [] (slot ∷ slots) k p x all at kind = absurd (cc)
set_suits (q ∷ ps) [] k p x all at kind = absurd (cc)
set_suits (q ∷ ps) (slot ∷ slots) zero p x all at kind = both _ _ (grind arith) (right (slot_suits q slot) _ all)
set_suits (q ∷ ps) (slot ∷ slots) (suc k) p x all at kind = both _ _ (left (slot_suits q slot) _ all) (set_suits ps slots k p x (right (slot_suits q slot) _ all) at kind)

-- after an argument that fits
abbrev StaysSuited : Signature → Option Received → Type 0
StaysSuited sig o = IfSome o (IsSuited sig)

given : (sig : Signature) (r s : Received) (skips fits : Bool) → IsSuited sig r → (fits ≡ true → IsSuited sig s) → StaysSuited sig (if skips then Some r else (if fits then Some s else None))
given sig r s true fits suited step = suited
given sig r s false true suited step = step refl
given sig r s false false suited step = tt

give_suits : (sig : Signature) (p : Param) (k : ℕ) (x : Value) (r : Received) → slice_get sig.params k ≡ Some p → IsSuited sig r → StaysSuited sig (give p k x r)
give_suits sig p k x r at suited = given sig r _ (p.optional && is_undefined x) (is_none (slice_index_or r.slots k None) && has_kind p.kind x) suited
    (λ fits. record { slots = set_suits sig.params r.slots k p x suited.slots at (right (is_none (slice_index_or r.slots k None)) _ fits); rest = suited.rest })

give_at_suits : (sig : Signature) (o : Option Param) (k : ℕ) (x : Value) (r : Received) → slice_get sig.params k ≡ o → IsSuited sig r → StaysSuited sig (give_at o k x r)
give_at_suits sig None k x r at suited = tt
give_at_suits sig (Some p) k x r at suited = give_suits sig p k x r at suited

give_named_suits : (sig : Signature) (o : Option ℕ) (x : Value) (r : Received) → IsSuited sig r → StaysSuited sig (give_named sig.params o x r)
give_named_suits sig None x r suited = tt
give_named_suits sig (Some k) x r suited = give_at_suits sig (slice_get sig.params k) k x r refl suited

one_more : (kind : Kind) (xs : List Value) (x : Value) → list_all (has_kind kind) xs ≡ true → has_kind kind x ≡ true → list_all (has_kind kind) (xs ++ x ∷ []) ≡ true
one_more kind [] x all is = both _ _ is refl
one_more kind (y ∷ xs) x all is = both _ _ (left (has_kind kind y) _ all) (one_more kind xs x (right (has_kind kind y) _ all) is)

give_rest_suits : (sig : Signature) (o : Option Kind) (x : Value) (r : Received) → sig.rest ≡ o → IsSuited sig r → StaysSuited sig (give_rest o x r)
give_rest_suits sig None x r is suited = tt
give_rest_suits sig (Some kind) x r is suited = given sig r (record r { rest = r.rest ++ x ∷ [] }) false (has_kind kind x) suited
    (λ fits. record { slots = suited.slots; rest = rw is (one_more kind r.rest x (rw is at suited.rest) fits) })

give_unnamed_suits : (sig : Signature) (o : Option Param) (x : Value) (r : Received) → slice_get sig.params r.unnamed ≡ o → IsSuited sig r → StaysSuited sig (give_unnamed o sig.rest x r)
give_unnamed_suits sig None x r at suited = give_rest_suits sig sig.rest x r refl suited
give_unnamed_suits sig (Some p) x r at suited = give_suits sig p r.unnamed x (record r { unnamed = r.unnamed + 1 }) at (record { slots = suited.slots; rest = suited.rest })

give_by_suits : (sig : Signature) (name : Option Text) (x : Value) (r : Received) → IsSuited sig r → StaysSuited sig (give_by sig name x r)
give_by_suits sig None x r suited = give_unnamed_suits sig (slice_get sig.params r.unnamed) x r refl suited
give_by_suits sig (Some name) x r suited = give_named_suits sig (place_of name 0 sig.params) x r suited

slot_given : (p : Param) (slot : Option Value) → slot_suits p slot ≡ true → is_given p slot ≡ true → suits p (or_undefined slot) ≡ true
slot_given p None kind given = grind arith
slot_given p (Some x) kind given = grind arith

slots_given : (ps : List Param) (slots : List (Option Value)) → slots_suit ps slots ≡ true → all_given ps slots ≡ true → all_suit ps (map or_undefined slots) ≡ true
slots_given [] [] all given = refl
slots_given [] (slot ∷ slots) all given = absurd (cc)
slots_given (p ∷ ps) [] all given = absurd (cc)
slots_given (p ∷ ps) (slot ∷ slots) all given =
    both _ _ (slot_given p slot (left (slot_suits p slot) _ all) (left (is_given p slot) _ given)) (slots_given ps slots (right (slot_suits p slot) _ all) (right (is_given p slot) _ given))

finished_by : (sig : Signature) (bound : Bound) (fits : Bool) → (fits ≡ true → Suits sig bound) → IfSome (if fits then Some bound else None) (Suits sig)
finished_by sig bound true suits = suits refl
finished_by sig bound false suits = tt

finished_suits : (sig : Signature) (r : Received) → IsSuited sig r → IfSome (finished sig r) (Suits sig)
finished_suits sig r suited = finished_by sig _ (all_given sig.params r.slots && nat_le sig.least (length r.rest)) (λ fits. record {
  params = search (rules, slots_given sig.params r.slots suited.slots (left (all_given sig.params r.slots) _ fits));
  rest = search (rules, suited.rest);
  least = grind (arith, nat_tests, right (all_given sig.params r.slots) _ fits);
})

received_suits : (sig : Signature) (args : List Given) (o : Option Received) → StaysSuited sig o → IfSome (and_then o (bind_from sig args)) (Suits sig)
received_suits sig args None suited = tt
received_suits sig [] (Some r) suited = finished_suits sig r suited
received_suits sig (arg ∷ args) (Some r) suited = received_suits sig args (receive sig arg r) (give_by_suits sig arg.name arg.value r suited)

bind_suits : (sig : Signature) (args : List Given) → IfSome (bind sig args) (Suits sig)
unfolding bind
bind_suits sig args = received_suits sig args (Some (nothing (length sig.params))) (record { slots = none_suit sig.params; rest = rest_empty sig.rest })

viewed : (sig : Signature) (o : Option CodeBound) → IfSome (option_map bound_view o) (Suits sig) → IfSome o (λ bound. Suits sig (bound_view bound))
viewed sig None suits = tt
viewed sig (Some bound) suits = suits

finished_is : (sig : Signature) (args : List Given) (i : ℕ) (r : Received) → length args ≤ i → bind_from sig (drop i args) r ≡ bind sig args → finished sig r ≡ bind sig args
finished_is sig args i r end same = let none : drop i args ≡ [] = drop_of_length-le args end in rw none at same

-- What is made after the last argument suits the signature.
pub bound_suits : {E : Type 0} (sig : Signature) (args : List Given) (i : ℕ) (r : Received) (result : Result (Option CodeBound) E) → length args ≤ i → bind_from sig (drop i args) r ≡ bind sig args
    → IfOk result (λ o. option_map bound_view o ≡ finished sig r) → IfOk result (λ o. IfSome o (λ bound. Suits sig (bound_view bound)))
bound_suits sig args i r (Ok o) end same is = viewed sig o (rw (is ∙ finished_is sig args i r end same) (bind_suits sig args))
bound_suits sig args i r (Err e) end same is = tt
