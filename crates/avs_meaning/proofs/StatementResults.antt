-- The rules allow the outcome of the definitions, for statements and for whole texts.
use Rattle.std.proofs.Common.{◌≡◌, ℕ, zero, suc, ◌≤◌, ◌<◌, ℤ, Bool, true, false, Option, Some, None, Ok, Err, refl, sym, subst, if◌then◌else◌, arith}
use Rattle.avs_tree.specs.Tree.{Expr, Kind, global, assign, return, if_, while, for, value, Arms, no_arms, arm, Else, no_else, else_, Block, no_more, then_}
use Rattle.avs_values.specs.Values.{Text}
use Rattle.avs_values.specs.declared.value.Value.{Value}
use Rattle.avs_values.specs.declared.value.Value.TheVariants as v
use Rattle.avs_meaning.proofs.ExecutionUnits.{condition_leaves, block_leaves, below_leaves, advance_leaves}
use Rattle.avs_meaning.proofs.LoopLemmas.{LeavesLess, turn_of, turn_less}
use Rattle.avs_meaning.proofs.RuleResults.{AllBelow, some_gives}
use Rattle.avs_meaning.proofs.RuleSteps.{chosen_block, paid_effect, choice_of, while_unrolled, count_of, for_ended, for_unrolled}
use Rattle.avs_meaning.proofs.UnitLemmas.{Leaves}
use Rattle.avs_meaning.specs.Statements.{Flow, on, back, go_on, ends, turned, advanced_to, advance, continues, numbers, is_past, condition, step_of, bounds, chosen, ends_with, effect_of, arms_of, other_of, block_of, body_of}
use Rattle.avs_meaning.specs.Meaning.{context_of}
use Rattle.avs_meaning.specs.State.{Outside, State, Outcome, Run, and_then, ◌>>=◌, ◌>>◌, pure, lifted, spend, set}
use Rattle.avs_meaning.specs.Rules as r

-- What follows a part, whatever the outcome of the part is.
module _ (outside : Outside) (n : ℕ) (here : Text) where
  after_payment : {s : State} {kind : Kind} {line : ℕ} (o : Outcome (Unit {0})) (next : Run Flow) → spend here line s ≡ o → ((t : State) → r.Does outside n here t kind line (next t)) → r.Pays outside n here s kind line (and_then o (λ _. next))
  after_payment (Ok ended) next is later = r.paid is (later ended.1)
  after_payment (Err fault) next is later = r.unpaid is

  after_turn_payment : {s : State} {line : ℕ} {body : Block} (o : Outcome (Unit {0})) (next : Run Flow) → spend here line s ≡ o → ((t : State) → r.DoesAll outside n here t body (next t)) → r.Turns outside n here s body line (and_then o (λ _. next))
  after_turn_payment (Ok ended) next is later = r.turn_paid is (later ended.1)
  after_turn_payment (Err fault) next is later = r.turn_unpaid is

  after_statement : {s : State} {kind : Kind} {line : ℕ} {rest : Block} (o : Outcome Flow) (next : Run Flow) → r.Pays outside n here s kind line o
      → ((t : State) → r.DoesAll outside n here t rest (next t)) → r.DoesAll outside n here s (then_ kind line rest) (and_then o (go_on next))
  after_statement (Ok (on y, t)) next is later = r.block_goes_on is (later t)
  after_statement (Ok (back y, t)) next is later = r.block_returns is
  after_statement (Err fault) next is later = r.block_fails is

  after_body_statement : {s : State} {kind : Kind} {line : ℕ} {rest : Block} {x : Value} (o : Outcome Flow) (next : Value → Run Value) → r.Pays outside n here s kind line o
      → ((y : Value) (t : State) → r.Executes outside n here t rest y (next y t)) → r.Executes outside n here s (then_ kind line rest) x (and_then o (ends_with next))
  after_body_statement (Ok (on y, t)) next is later = r.body_goes_on is (later y t)
  after_body_statement (Ok (back y, t)) next is later = r.body_returns is
  after_body_statement (Err fault) next is later = r.body_fails is

  after_arm_test : {s : State} {c : Expr} {line : ℕ} {body : Block} {more : Arms} {other : Else} (o : Outcome Bool) (block : Run Flow) (arms : Run (Option Flow)) (last : Run Flow) → r.Tests outside n here s c line o
      → ((t : State) → r.DoesAll outside n here t body (block t)) → ((t : State) → r.Chooses outside n here t more other line (and_then (arms t) (chosen last)))
      → r.Chooses outside n here s (arm c body more) other line (and_then (and_then o (λ holds. if holds then (block >>= (λ flow. pure (Some flow))) else arms)) (chosen last))
  after_arm_test {s = s} {c = c} {line = line} {body = body} {more = more} {other = other} (Ok (true, t)) block arms last is does later =
      subst (λ o. r.Chooses outside n here s (arm c body more) other line o) (sym (chosen_block (block t) last)) (r.arm_taken is (does t))
  after_arm_test (Ok (false, t)) block arms last is does later = r.arm_passed_over is (later t)
  after_arm_test (Err fault) block arms last is does later = r.arm_test_fails is

  -- ---- numbers of `for`

  after_last : {s t : State} {a z e : Expr} {line : ℕ} {x : Value} (o : Outcome Value) (by : Run Value) → r.Gives outside n here s a (Ok (x, t)) → r.Gives outside n here t z o
      → ((w : State) → r.Gives outside n here w e (by w))
      → r.TakesNumbers outside n here s a z (Some e) line (and_then o (λ y. by >>= (λ number. lifted (numbers here line x y number))))
  after_last (Ok ended) by first is later = r.takes_numbers first is (later ended.1)
  after_last (Err fault) by first is later = r.last_number_fails first is

  after_first : {s : State} {a z e : Expr} {line : ℕ} (o : Outcome Value) (last by : Run Value) → r.Gives outside n here s a o → ((t : State) → r.Gives outside n here t z (last t))
      → ((w : State) → r.Gives outside n here w e (by w))
      → r.TakesNumbers outside n here s a z (Some e) line (and_then o (λ x. last >>= (λ y. by >>= (λ number. lifted (numbers here line x y number)))))
  after_first (Ok ended) last by is second third = after_last (last ended.1) by is (second ended.1) third
  after_first (Err fault) last by is second third = r.first_number_fails is

  after_numbers : {s : State} {word : Text} {a z : Expr} {step : Option Expr} {body : Block} {line : ℕ} (o : Outcome (ℤ × ℤ × ℤ)) (next : ℤ → ℤ → ℤ → Run Flow)
      → r.TakesNumbers outside n here s a z step line o
      → ((first last by : ℤ) (t : State) → r.Counts outside n here t word first last by body line (next first last by t))
      → r.Does outside n here s (for word a z step body) line (and_then o (λ i. set word (v.Int i.0) >> next i.0 i.1 i.2))
  after_numbers (Ok ended) next is later = r.for_starts is (later ended.0.0 ended.0.1 ended.0.2 _)
  after_numbers (Err fault) next is later = r.for_numbers_fail is

  -- ---- loops, which are done for each state with fewer units

  module _ (c : Expr) (body : Block) (line : ℕ) (again : Run Flow) where
    after_while_turn : {s t : State} (o : Outcome Flow) → r.Tests outside n here s c line (Ok (true, t)) → r.Turns outside n here t body line o → LeavesLess s.units o
        → ((w : State) → w.units < s.units → r.Does outside n here w (while c body) line (again w)) → r.Does outside n here s (while c body) line (and_then o (go_on again))
    after_while_turn (Ok (on y, w)) test turn few later = r.while_goes_on test turn (later w few)
    after_while_turn (Ok (back y, w)) test turn few later = r.while_returns test turn
    after_while_turn (Err fault) test turn few later = r.while_turn_fails test turn

    after_while_test : {s : State} (o : Outcome Bool) (turn : Run Flow) → r.Tests outside n here s c line o → Leaves s.units o
        → ((t : State) → r.Turns outside n here t body line (turn t)) → ((t : State) → t.units ≤ s.units → LeavesLess s.units (turn t))
        → ((w : State) → w.units < s.units → r.Does outside n here w (while c body) line (again w))
        → r.Does outside n here s (while c body) line (and_then o (λ holds. if holds then (turn >>= go_on again) else ends))
    after_while_test (Ok (true, t)) turn test few turns less later = after_while_turn (turn t) test (turns t) (less t few) later
    after_while_test (Ok (false, t)) turn test few turns less later = r.while_ends test
    after_while_test (Err fault) turn test few turns less later = r.while_test_fails test

  module _ (word : Text) (last by : ℤ) (line : ℕ) (body : Block) (again : ℤ → Run Flow) where
    after_advance : {s t : State} {i : ℤ} {y : Value} (o : Outcome (Option ℤ)) → is_past last by i ≡ false → r.Turns outside n here s body line (Ok (on y, t))
        → advance here word by line t ≡ o → Leaves t.units o → t.units < s.units
        → ((next : ℤ) (w : State) → w.units < s.units → r.Counts outside n here w word next last by body line (again next w))
        → r.Counts outside n here s word i last by body line (and_then (and_then o (λ next. pure (advanced_to next))) (continues again))
    after_advance (Ok (Some next, w)) is turn at few less later = r.for_goes_on is turn at (later next w (omega (arith, few, less)))
    after_advance (Ok (None, w)) is turn at few less later = r.for_leaves_range is turn at
    after_advance (Err fault) is turn at few less later = r.for_advance_fails is turn at

    after_for_turn : {s : State} {i : ℤ} (o : Outcome Flow) → is_past last by i ≡ false → r.Turns outside n here s body line o → LeavesLess s.units o
        → ((next : ℤ) (w : State) → w.units < s.units → r.Counts outside n here w word next last by body line (again next w))
        → r.Counts outside n here s word i last by body line (and_then (and_then o (turned here word by line)) (continues again))
    after_for_turn (Ok (on y, t)) is turn less later =
        after_advance (advance here word by line t) is turn refl (advance_leaves here word by line t.units t (omega arith)) less later
    after_for_turn (Ok (back y, t)) is turn less later = r.for_returns is turn
    after_for_turn (Err fault) is turn less later = r.for_turn_fails is turn

module _ (outside : Outside) (n : ℕ) (deeper : AllBelow outside n) (here : Text) where
  some_tests : (c : Expr) (line : ℕ) (s : State) → r.Tests outside n here s c line (condition (context_of outside n) here c line s)
  some_tests c line s = r.condition_tested (some_gives outside n deeper here c s)

  some_takes : (a z : Expr) (step : Option Expr) (line : ℕ) (s : State) → r.TakesNumbers outside n here s a z step line (bounds (context_of outside n) here a z step line s)
  some_takes a z None line s =
      r.step_is_one (after_first outside n here _ _ (step_of (context_of outside n) here None) (some_gives outside n deeper here a s) (some_gives outside n deeper here z) (λ w. r.gives_number))
  some_takes a z (Some e) line s =
      after_first outside n here _ _ (step_of (context_of outside n) here (Some e)) (some_gives outside n deeper here a s) (some_gives outside n deeper here z) (some_gives outside n deeper here e)

  module _ (body : Block) (does : (s : State) → r.DoesAll outside n here s body (block_of (context_of outside n) here body s)) where
    some_turns : (line : ℕ) (s : State) → r.Turns outside n here s body line (turn_of here line (block_of (context_of outside n) here body) s)
    some_turns line s = after_turn_payment outside n here (spend here line s) (block_of (context_of outside n) here body) refl does

    few_units : (line : ℕ) (s t : State) → t.units ≤ s.units → LeavesLess s.units (turn_of here line (block_of (context_of outside n) here body) t)
    few_units line s t few = turn_less here line (block_of (context_of outside n) here body) (block_leaves (context_of outside n) (below_leaves outside n) here body) s.units t few

    some_while : (c : Expr) (line k : ℕ) (s : State) → s.units < k → r.Does outside n here s (while c body) line (effect_of (context_of outside n) here (while c body) line s)
    some_while c line zero s few = absurd (omega arith)
    some_while c line (suc k) s few =
        subst (λ o. r.Does outside n here s (while c body) line o) (sym (while_unrolled outside n here c body line s))
        (after_while_test outside n here c body line (effect_of (context_of outside n) here (while c body) line) (condition (context_of outside n) here c line s)
        (turn_of here line (block_of (context_of outside n) here body)) (some_tests c line s)
        (condition_leaves (context_of outside n) (below_leaves outside n) here c line s.units s (omega arith)) (some_turns line) (few_units line s)
        (λ w less. some_while c line k w (omega (arith, few, less))))

    some_counts : (word : Text) (last by : ℤ) (line k : ℕ) (i : ℤ) (s : State) → s.units < k → r.Counts outside n here s word i last by body line (count_of outside n here word last by line body i s)
    some_counts word last by line zero i s few = absurd (omega arith)
    some_counts word last by line (suc k) i s few =
        elim (is_past last by i) as (λ past. is_past last by i ≡ past → r.Counts outside n here s word i last by body line (count_of outside n here word last by line body i s)) [
          | true ↦ λ is. subst (λ o. r.Counts outside n here s word i last by body line o) (sym (for_ended outside n here word last by line body i s is)) (r.for_ends is)
          | false ↦ λ is. subst (λ o. r.Counts outside n here s word i last by body line o) (sym (for_unrolled outside n here word last by line body i s is))
              (after_for_turn outside n here word last by line body (count_of outside n here word last by line body) (turn_of here line (block_of (context_of outside n) here body) s) is (some_turns line s)
              (few_units line s s (omega arith)) (λ next w less. some_counts word last by line k next w (omega (arith, few, less))))
        ]
        refl

  mutual
    pub some_does : (kind : Kind) (line : ℕ) (s : State) → r.Does outside n here s kind line (effect_of (context_of outside n) here kind line s)
    some_does (global word e) line s = r.sets_global (some_gives outside n deeper here e s)
    some_does (assign word e) line s = r.sets_variable (some_gives outside n deeper here e s)
    some_does (return e) line s = r.returns (some_gives outside n deeper here e s)
    some_does (if_ arms other) line s = r.branches (some_chooses arms other line (some_other other line) s)
    some_does (while c body) line s = some_while body (some_does_all body) c line (suc s.units) s (omega arith)
    some_does (for word a z step body) line s =
        after_numbers outside n here (bounds (context_of outside n) here a z step line s) (λ first last by. count_of outside n here word last by line body first) (some_takes a z step line s)
        (λ first last by t. some_counts body (some_does_all body) word last by line (suc t.units) first t (omega arith))
    some_does (value e) line s = r.evaluates (some_gives outside n deeper here e s)

    some_chooses : (arms : Arms) (other : Else) (line : ℕ) → ((t : State) → r.Chooses outside n here t no_arms other line (other_of (context_of outside n) here other t))
        → (s : State) → r.Chooses outside n here s arms other line (choice_of outside n here arms other line s)
    some_chooses no_arms other line last s = last s
    some_chooses (arm c body rest) other line last s =
        after_arm_test outside n here (condition (context_of outside n) here c line s) (block_of (context_of outside n) here body) (arms_of (context_of outside n) here rest line) (other_of (context_of outside n) here other)
        (some_tests c line s) (some_does_all body) (some_chooses rest other line last)

    some_other : (other : Else) (line : ℕ) (s : State) → r.Chooses outside n here s no_arms other line (other_of (context_of outside n) here other s)
    some_other no_else line s = r.nothing_taken
    some_other (else_ body) line s = r.else_taken (some_does_all body s)

    some_does_all : (block : Block) (s : State) → r.DoesAll outside n here s block (block_of (context_of outside n) here block s)
    some_does_all no_more s = r.block_ends
    some_does_all (then_ kind line rest) s =
        after_statement outside n here (paid_effect outside n here kind line s) (block_of (context_of outside n) here rest)
        (after_payment outside n here (spend here line s) (effect_of (context_of outside n) here kind line) refl (some_does kind line)) (some_does_all rest)

  pub some_executes : (body : Block) (x : Value) (s : State) → r.Executes outside n here s body x (body_of (context_of outside n) here body x s)
  some_executes no_more x s = r.body_ends
  some_executes (then_ kind line rest) x s =
      after_body_statement outside n here (paid_effect outside n here kind line s) (body_of (context_of outside n) here rest)
      (after_payment outside n here (spend here line s) (effect_of (context_of outside n) here kind line) refl (some_does kind line)) (some_executes rest)

-- however deep calls nest
pub all_below : (outside : Outside) (n : ℕ) → AllBelow outside n
all_below outside zero = tt
all_below outside (suc n) = λ here body s. some_executes outside n (all_below outside n) here body v.Undefined s
