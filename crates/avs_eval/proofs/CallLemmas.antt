-- A call, by how its arguments fit.
use Rattle.std.proofs.Common.{◌≡◌, ◌∙◌, ap, refl, sym, ℕ, ℤ, ◌+◌, ◌≤◌, List, [], ◌∷◌, map, length, Bool, true, false, ◌&&◌, if◌then◌else◌, Option, Some, None, Result, Ok, Err}
use Rattle.avs_values.specs.Binding.{Bound}
use Rattle.avs_values.specs.Values.{Text}
use Rattle.avs_values.specs.declared.binding.Given as binding
use Rattle.avs_values.specs.declared.value.Value.{Value}
use Rattle.avs_values.specs.declared.value.Value.TheVariants as v
use Rattle.avs_meaning.proofs.DirectCalls.{apply_direct}
use Rattle.avs_meaning.proofs.RangeArguments.{range_fits}
use Rattle.avs_meaning.specs.Arguments.{is_filter_number, out_of_range}
use Rattle.avs_meaning.specs.Expressions.{Callee, builtin, takes, fit_or_last, unnamed, apply, apply_by, called, direct, performed, ranged_by}
use Rattle.avs_meaning.specs.State.{Context, State, Outcome, and_then, ◌>>=◌, fails}
use Rattle.avs_meaning.specs.Faults.{script}
use Rattle.avs_meaning.specs.Filters.{ranged}
use Rattle.avs_meaning.specs.declared.builtin.Builtin.TheVariants as b
use Rattle.avs_meaning.specs.declared.fault.ScriptKind.{ScriptKind}
use Rattle.avs_meaning.specs.declared.fault.ScriptKind.TheVariants as k
use Rattle.avs_meaning.specs.declared.stop.EvalError.{EvalError}
use Rattle.avs_state.specs.Answers.{Fails}
use Rattle.avs_state.proofs.Failures.{is_fault, then_fails}
use Rattle.avs_eval.specs.Ranges.{Given, given_in}

module _ (context : Context) (here : Text) (line : ℕ) where
  pub applies : (c : Callee) (args : List binding.Given) (last : Option Value) (s : State) (sig : ℕ) (bound : Bound) → fit_or_last (takes c) args last ≡ Some (sig, bound)
      → apply context c args last here line s ≡ performed context c sig bound here line s
  applies c args last s sig bound is =
      apply_direct context c args last here line s
      ∙ ap (λ fit. apply_by context (direct context) fit c here line s) is

  pub applies_not : (c : Callee) (args : List binding.Given) (last : Option Value) (s : State) → fit_or_last (takes c) args last ≡ None
      → apply context c args last here line s ≡ Err (script k.NoMatch here line)
  applies_not c args last s is =
      apply_direct context c args last here line s
      ∙ ap (λ fit. apply_by context (direct context) fit c here line s) is

  pub range_applies : (c : Callee) (args : List binding.Given) (last : Option Value) (s : State) (sig : ℕ) (bound : Bound) → c ≡ builtin b.ApplyRange
      → fit_or_last (takes c) args last ≡ Some (sig, bound)
      → apply context c args last here line s ≡ ranged_by (direct context) bound.values bound.rest here line s
  range_applies (builtin b.ApplyRange) args last s sig bound same is = applies (builtin b.ApplyRange) args last s sig bound is
  range_applies _ args last s sig bound same is = absurd (cc)

  -- by what ApplyRange is given
  abbrev shown_by : Result Given ScriptKind → List Value → State → Outcome Value
  shown_by (Err kind) rest s = fails kind here line s
  shown_by (Ok range) rest s =
      and_then (and_then (called here range.name line s) (λ c. direct context c (map unnamed (v.Clip range.clip ∷ rest)) here line))
      (ranged here range.clip range.first range.last line)

  -- by whether filters take its numbers
  shows_by : (takes_both : Bool) (i : ℕ) (first last : ℤ) (word : Text) (rest : List Value) (s : State)
      → (if takes_both then (called here word line >>= (λ c. direct context c (map unnamed (v.Clip i ∷ rest)) here line) >>= ranged here i first last line) else fails out_of_range here line) s
      ≡ shown_by (if takes_both then Ok (record { clip = i; first = first; last = last; name = word }) else Err out_of_range) rest s
  shows_by true i first last word rest s = refl
  shows_by false i first last word rest s = refl

  shows : (values rest : List Value) (s : State) → ranged_by (direct context) values rest here line s ≡ shown_by (given_in values) rest s
  shows (v.Clip i ∷ v.Int first ∷ v.Int last ∷ v.Text word ∷ []) rest s = shows_by (is_filter_number first && is_filter_number last) i first last word rest s
  shows _ rest s = refl

  pub range_refused : (values rest : List Value) (kind : ScriptKind) (s : State) → given_in values ≡ Err kind → ranged_by (direct context) values rest here line s ≡ Err (script kind here line)
  range_refused values rest kind s is = shows values rest s ∙ ap (λ o. shown_by o rest s) is

  -- the function is called
  pub range_calls : (values rest : List Value) (range : Given) (s : State) → given_in values ≡ Ok range → ranged_by (direct context) values rest here line s
      ≡ and_then (and_then (called here range.name line s) (λ c. apply context c (map unnamed (v.Clip range.clip ∷ rest)) None here line))
      (ranged here range.clip range.first range.last line)
  range_calls values rest range s is = shows values rest s ∙ ap (λ o. shown_by o rest s) is

  range_called : (values rest : List Value) (range : Given) (c : Callee) (s : State) → given_in values ≡ Ok range → called here range.name line s ≡ Ok (c, s)
      → ranged_by (direct context) values rest here line s
      ≡ and_then (apply context c (map unnamed (v.Clip range.clip ∷ rest)) None here line s) (ranged here range.clip range.first range.last line)
  range_called values rest range c s is known =
      range_calls values rest range s is
      ∙ ap (λ o. and_then (and_then o (λ d. apply context d (map unnamed (v.Clip range.clip ∷ rest)) None here line)) (ranged here range.clip range.first range.last line)) known

  -- the function gives a value
  pub range_shows : (values rest : List Value) (range : Given) (c : Callee) (args : List binding.Given) (shown : Value) (s s' : State)
      → given_in values ≡ Ok range → called here range.name line s ≡ Ok (c, s) → args ≡ map unnamed (v.Clip range.clip ∷ rest)
      → apply context c args None here line s ≡ Ok (shown, s')
      → ranged_by (direct context) values rest here line s ≡ ranged here range.clip range.first range.last line shown s'
  range_shows values rest range c args shown s s' is known same gave =
      range_called values rest range c s is known
      ∙ ap (λ o. and_then o (ranged here range.clip range.first range.last line)) (ap (λ l. apply context c l None here line s) (sym same) ∙ gave)

  -- the function fails
  pub range_fails : (values rest : List Value) (range : Given) (c : Callee) (args : List binding.Given) (stop : EvalError) (s : State)
      → given_in values ≡ Ok range → called here range.name line s ≡ Ok (c, s) → args ≡ map unnamed (v.Clip range.clip ∷ rest)
      → Fails (Unit {0}) (apply context c args None here line s) stop → Fails (Unit {0}) (ranged_by (direct context) values rest here line s) stop
  range_fails values rest range c args stop s is known same failed =
      is_fault _ _ stop
      (range_called values rest range c s is known
      ∙ ap (λ l. and_then (apply context c l None here line s) (ranged here range.clip range.first range.last line)) (sym same))
      (then_fails (apply context c args None here line s) (ranged here range.clip range.first range.last line) stop failed)

-- ApplyRange has fewer further values than it was given arguments.
pub few_further : (c : Callee) (args : List binding.Given) (last : Option Value) (sig : ℕ) (bound : Bound) → c ≡ builtin b.ApplyRange → fit_or_last (takes c) args last ≡ Some (sig, bound)
    → length bound.rest + 3 ≤ length args
few_further (builtin b.ApplyRange) args last sig bound same is = (range_fits args last sig bound is).1
few_further _ args last sig bound same is = absurd (cc)
