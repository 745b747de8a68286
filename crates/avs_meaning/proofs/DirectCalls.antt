-- What ApplyRange calls is called as if it stood there by itself: the bound on its arguments changes nothing.
use Rattle.std.proofs.Common.{◌≡◌, ℕ, zero, suc, ◌<◌, ◌≤◌, ◌+◌, List, [], ◌∷◌, length, map, Bool, true, false, ◌&&◌, if◌then◌else◌, Option, Some, None, Ok, Err, refl, ap, arith}
use Rattle.std.proofs.lemmas.List.{length-map}
use Rattle.avs_values.specs.Binding.{Bound}
use Rattle.avs_values.specs.Values.{Text}
use Rattle.avs_values.specs.declared.binding.Given.{Given}
use Rattle.avs_values.specs.declared.value.Value.{Value}
use Rattle.avs_values.specs.declared.value.Value.TheVariants as v
use Rattle.avs_meaning.proofs.TextArguments.{HasForm, has_form}
use Rattle.avs_meaning.specs.Arguments.{is_filter_number, out_of_range}
use Rattle.avs_meaning.specs.Expressions.{Callee, user, builtin, takes, Fit, fit_or_last, unnamed, Caller, called, ranged_by, applied, apply_by, call_within, apply, direct}
use Rattle.avs_meaning.specs.State.{Context, State, Outcome, Run, and_then, fails}
use Rattle.avs_meaning.specs.Filters.{ranged}
use Rattle.avs_meaning.specs.declared.builtin.Builtin.TheVariants as b

-- what follows gives the same
followed : {X Y : Type 0} (o : Outcome X) (f g : X → Run Y) → ((x : X) (s : State) → f x s ≡ g x s) → and_then o f ≡ and_then o g
followed (Ok ended) f g same = same ended.0 ended.1
followed (Err fault) f g same = refl

-- what is done where a test holds gives the same
either_way : {X : Type 0} (holds : Bool) (x y other : Run X) (s : State) → x s ≡ y s → (if holds then x else other) s ≡ (if holds then y else other) s
either_way true x y other s same = same
either_way false x y other s same = refl

-- The two call alike with fewer arguments than these.
abbrev pub Alike : Caller → Caller → ℕ → Type 0
Alike again other count = (c : Callee) (args : List Given) (here : Text) (line : ℕ) (s : State) → length args < count → again c args here line s ≡ other c args here line s

range_alike : (again other : Caller) (count : ℕ) → Alike again other count → (values rest : List Value) (here : Text) (line : ℕ) (s : State) → length rest + 3 ≤ count
    → ranged_by again values rest here line s ≡ ranged_by other values rest here line s
range_alike again other count same (v.Clip i ∷ v.Int first ∷ v.Int last ∷ v.Text word ∷ []) rest here line s few =
    let args = map unnamed (v.Clip i ∷ rest) in
    let fewer : length args < count = let e : length args ≡ suc (length rest) = length-map (v.Clip i ∷ rest) unnamed in omega arith in
    either_way (is_filter_number first && is_filter_number last) _ _ (fails out_of_range here line) s (ap (λ o. and_then o (ranged here i first last line)) (followed (called here word line s) (λ c. again c args here line) (λ c. other c args here line) (λ c t. same c args here line t fewer)))
range_alike again other count same _ rest here line s few = refl

module _ (context : Context) where
  applied_alike : (again other : Caller) (count : ℕ) → Alike again other count → (c : Callee) (sig : ℕ) (bound : Bound) (here : Text) (line : ℕ) (s : State) → HasForm c count bound
      → applied context again c sig bound here line s ≡ applied context other c sig bound here line s
  applied_alike again other count same (user d) sig bound here line s has = refl
  applied_alike again other count same (builtin b.ApplyRange) sig bound here line s has = range_alike again other count same bound.values bound.rest here line s has.1
  applied_alike again other count same (builtin _) sig bound here line s has = refl

  apply_by_alike : (again other : Caller) (args : List Given) (last : Option Value) → Alike again other (length args) → (c : Callee) (o : Fit) (here : Text) (line : ℕ) (s : State) → fit_or_last (takes c) args last ≡ o
      → apply_by context again o c here line s ≡ apply_by context other o c here line s
  apply_by_alike again other args last same c (Some found) here line s is = applied_alike again other (length args) same c found.0 found.1 here line s (has_form c args last found.0 found.1 is)
  apply_by_alike again other args last same c None here line s is = refl

  within_alike : (j k count : ℕ) → count ≤ j → count ≤ k → Alike (call_within context j) (call_within context k) count
  unfolding call_within
  within_alike zero k count few fewer = λ c args here line s less. absurd (omega arith)
  within_alike (suc j) zero count few fewer = λ c args here line s less. absurd (omega arith)
  within_alike (suc j) (suc k) count few fewer = λ c args here line s less.
      apply_by_alike (call_within context j) (call_within context k) args None (within_alike j k (length args) (omega arith) (omega arith)) c (fit_or_last (takes c) args None) here line s refl

  within_direct : (k : ℕ) → Alike (call_within context k) (direct context) k
  unfolding call_within
  within_direct k = λ c args here line s less.
      within_alike k (suc (length args)) (suc (length args)) (omega arith) (omega arith) c args here line s (omega arith)

  pub apply_direct : (c : Callee) (args : List Given) (last : Option Value) (here : Text) (line : ℕ) (s : State)
      → apply context c args last here line s ≡ apply_by context (direct context) (fit_or_last (takes c) args last) c here line s
  apply_direct c args last here line s =
      apply_by_alike (call_within context (length args)) (direct context) args last (within_direct (length args)) c (fit_or_last (takes c) args last) here line s refl
