-- Loops, a turn at a time.
use Rattle.std.proofs.Common.{◌≡◌, ◌∙◌, sym, Ok, ap, ℕ, ℤ, suc, ◌+◌, ◌-◌, ◌<◌, Bool, arith, if◌then◌else◌}
use Rattle.avs_values.specs.Values.{Text}
use Rattle.avs_meaning.specs.Statements as m
use Rattle.avs_meaning.specs.State.{State, Outcome, Run, and_then, ◌>>=◌, ◌>>◌, spend}
use Rattle.avs_meaning.specs.declared.stop.EvalError.{EvalError}
use Rattle.avs_state.specs.Answers.{Fails}
use Rattle.avs_state.proofs.Failures.{first_fails}

module _ (here : Text) where
  -- one more turn of `while`
  pub turn_more : (n i : ℕ) (c : Run Bool) (line : ℕ) (body : Run m.Flow) (s : State) → i < n
      → m.turns here (n - i) c line body s
      ≡ and_then (c s) (λ holds. if holds then (spend here line >> body >>= m.go_on (m.turns here (n - (i + 1)) c line body)) else m.ends)
  turn_more n i c line body s h =
      let less : n - i ≡ suc (n - (i + 1)) = omega arith in
      ap (λ k. m.turns here k c line body s) less

  -- one more turn of `for`
  pub count_more : (n i : ℕ) (x : Text) (a z by : ℤ) (line : ℕ) (body : Run m.Flow) (s : State) → i < n
      → m.counts here (n - i) x a z by line body s
      ≡ and_then (m.turn here x a z by line body s) (m.continues (λ k. m.counts here (n - (i + 1)) x k z by line body))
  count_more n i x a z by line body s h =
      let less : n - i ≡ suc (n - (i + 1)) = omega arith in
      ap (λ k. m.counts here k x a z by line body s) less

  -- where a turn fails, the loop does
  pub count_fails : (n i : ℕ) (x : Text) (a z by : ℤ) (line : ℕ) (body : Run m.Flow) (s : State) (whole : Outcome m.Flow) (stop : EvalError) → i < n
      → m.counts here (n - i) x a z by line body s ≡ whole → Fails (Unit {0}) (m.turn here x a z by line body s) stop → Fails (Unit {0}) whole stop
  count_fails n i x a z by line body s whole stop h same failed =
      first_fails whole (m.turn here x a z by line body s) (m.continues (λ k. m.counts here (n - (i + 1)) x k z by line body)) stop
      (sym same ∙ count_more n i x a z by line body s h) failed

  -- where a turn is the last, the loop ends so
  pub count_stops : (n i : ℕ) (x : Text) (a z by : ℤ) (line : ℕ) (body : Run m.Flow) (s s' : State) (whole : Outcome m.Flow) (flow : m.Flow) → i < n
      → m.counts here (n - i) x a z by line body s ≡ whole → m.turn here x a z by line body s ≡ Ok (m.stops flow, s') → whole ≡ Ok (flow, s')
  count_stops n i x a z by line body s s' whole flow h same stopped =
      sym same ∙ count_more n i x a z by line body s h
      ∙ ap (λ o. and_then o (m.continues (λ k. m.counts here (n - (i + 1)) x k z by line body))) stopped

-- a turn of `for` and what it does to the loop
pub ruleset counting = (count_more, count_fails, count_stops)
