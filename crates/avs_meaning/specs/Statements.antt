-- What a statement does, how it ends, and loops.
use Rattle.std.specs.Prelude.{ℕ, zero, suc, ℤ, pos, ◌+ℤ◌, int_lt, Bool, Option, Some, None, Result, Ok, Err, if◌then◌else◌}
use Rattle.avs_tree.specs.Tree.{Expr, Kind, global, assign, return, if_, while, for, value, Arms, no_arms, arm, Else, no_else, else_, Block, no_more, then_}
use Rattle.avs_values.specs.Operators.{is_zero}
use Rattle.avs_values.specs.Values.{is_number, Text}
use Rattle.avs_values.specs.declared.value.Value.{Value}
use Rattle.avs_values.specs.declared.value.Value.TheVariants as v
use Rattle.avs_meaning.specs.Expressions.{last_name, value_of, truth}
use Rattle.avs_meaning.specs.Faults.{Fault, script}
use Rattle.avs_meaning.specs.State.{Run, ◌>>=◌, ◌>>◌, pure, fails, lifted, spend, variable, set, Context, lookup, set_global}
use Rattle.avs_meaning.specs.declared.fault.ScriptKind.TheVariants as k

-- ==== How statements end, and loops (AviSynth+ wiki, "Control structures").

-- how a statement ends
pub data Flow : Type 0 where
  -- The next one follows. The value is that of an expression, or Undefined.
  on : Value → Flow
  -- `return` ends the text or the function with this value.
  back : Value → Flow

-- after a statement of a block
abbrev pub go_on : Run Flow → Flow → Run Flow
go_on next (on x) = next
go_on next (back x) = pure (back x)

-- a statement without a value
abbrev pub ends : Run Flow
ends = pure (on v.Undefined)

-- ---- numbers of `for`

abbrev pub next_number : ℤ → Option ℤ
next_number n = if is_number n then Some n else None

-- A number is past the end of a loop.
unfoldable pub is_past : ℤ → ℤ → ℤ → Bool
is_past last by i = if int_lt (pos 0) by then int_lt last i else int_lt i last

-- how a turn of `for` ends
pub data Turn : Type 0 where
  -- The next one is at this number.
  goes_to : ℤ → Turn
  -- There is none.
  stops : Flow → Turn

abbrev pub advanced_to : Option ℤ → Turn
advanced_to None = stops (on v.Undefined)
advanced_to (Some n) = goes_to n

abbrev pub continues : (ℤ → Run Flow) → Turn → Run Flow
continues rest (goes_to n) = rest n
continues rest (stops flow) = pure flow

-- The variable becomes the next number, where that has 64 bits.
abbrev pub advanced : Text → Option ℤ → Run (Option ℤ)
advanced x None = pure None
advanced x (Some n) = set x (v.Int n) >> pure (Some n)

-- in the text of this name
module _ (here : Text) where
  -- ---- `while`

  -- Each turn costs a unit, so that there are no more turns than units.
  abbrev pub turns : ℕ → Run Bool → ℕ → Run Flow → Run Flow
  turns zero condition line body = condition >>= (λ holds. if holds then fails k.StepLimit here line else ends)
  turns (suc n) condition line body =
      condition >>= (λ holds. if holds then (spend here line >> body >>= go_on (turns n condition line body)) else ends)

  -- ---- `for`

  abbrev pub number_by : Option Value → ℕ → Result ℤ Fault
  number_by (Some (v.Int n)) line = Ok n
  number_by _ line = Err (script k.TypeFault here line)

  -- the variable of the loop, read again after a turn
  abbrev pub read_number : Text → ℕ → Run ℤ
  read_number x line = λ s. lifted (number_by (variable x s) line) s

  abbrev pub advance : Text → ℤ → ℕ → Run (Option ℤ)
  advance x by line = read_number x line >>= (λ i. advanced x (next_number (i +ℤ by)))

  abbrev pub turned : Text → ℤ → ℕ → Flow → Run Turn
  turned x by line (on y) = advance x by line >>= (λ next. pure (advanced_to next))
  turned x by line (back y) = pure (stops (back y))

  -- a turn at a number
  unfoldable pub turn : Text → ℤ → ℤ → ℤ → ℕ → Run Flow → Run Turn
  turn x i last by line body =
      if is_past last by i then pure (stops (on v.Undefined)) else (spend here line >> body >>= turned x by line)

  -- no more turns than units
  abbrev pub counts : ℕ → Text → ℤ → ℤ → ℤ → ℕ → Run Flow → Run Flow
  counts zero x i last by line body = if is_past last by i then ends else fails k.StepLimit here line
  counts (suc n) x i last by line body =
      turn x i last by line body >>= continues (λ next. counts n x next last by line body)

  -- the first number, the last one, and the step
  abbrev pub numbers : ℕ → Value → Value → Value → Result (ℤ × ℤ × ℤ) Fault
  numbers line (v.Int a) (v.Int z) (v.Int by) = if is_zero by then Err (script k.BadRange here line) else Ok (a, z, by)
  numbers line _ _ _ = Err (script k.TypeFault here line)

-- ==== What a statement does (AviSynth+ wiki, 'Grammar' and "Control structures").

-- the first arm whose condition holds, and else what comes after `else`
abbrev pub chosen : Run Flow → Option Flow → Run Flow
chosen other (Some flow) = pure flow
chosen other None = other

-- A clip becomes `last`.
abbrev pub sets_last : Value → Run Flow
sets_last (v.Clip i) = set last_name (v.Clip i) >> pure (on (v.Clip i))
sets_last x = pure (on x)

abbrev pub or_undefined : Option Value → Value
or_undefined (Some x) = x
or_undefined None = v.Undefined

-- the value of the final statement, or else `last`
abbrev pub settled : Value → Run Value
settled v.Undefined = λ s. Ok (or_undefined (lookup last_name s.env), s)
settled x = pure x

abbrev pub ends_with : (Value → Run Value) → Flow → Run Value
ends_with next (on x) = next x
ends_with next (back x) = pure x

-- in the text of this name
module _ (context : Context) (here : Text) where
  abbrev pub condition : Expr → ℕ → Run Bool
  condition c line = value_of context here c >>= (λ x. lifted (truth here line x))

  abbrev pub step_of : Option Expr → Run Value
  step_of None = pure (v.Int (pos 1))
  step_of (Some e) = value_of context here e

  abbrev pub bounds : Expr → Expr → Option Expr → ℕ → Run (ℤ × ℤ × ℤ)
  bounds a z by line =
      value_of context here a >>= (λ first. value_of context here z >>= (λ last.
      step_of by >>= (λ step. lifted (numbers here line first last step))))

  abbrev mutual
    pub effect_of : Kind → ℕ → Run Flow
    effect_of (global x e) line = value_of context here e >>= (λ y. set_global x y >> ends)
    effect_of (assign x e) line = value_of context here e >>= (λ y. set x y >> ends)
    effect_of (return e) line = value_of context here e >>= (λ y. pure (back y))
    effect_of (if_ arms other) line = arms_of arms line >>= chosen (other_of other)
    effect_of (while c body) line = λ s. turns here s.units (condition c line) line (block_of body) s
    effect_of (for x a z by body) line =
        bounds a z by line >>= (λ n. set x (v.Int n.0)
        >> (λ s. counts here s.units x n.0 n.1 n.2 line (block_of body) s))
    effect_of (value e) line = value_of context here e >>= sets_last

    pub arms_of : Arms → ℕ → Run (Option Flow)
    arms_of no_arms line = pure None
    arms_of (arm c body rest) line =
        condition c line >>= (λ holds.
        if holds then (block_of body >>= (λ flow. pure (Some flow))) else arms_of rest line)

    pub other_of : Else → Run Flow
    other_of no_else = ends
    other_of (else_ body) = block_of body

    -- Each statement costs a unit.
    pub block_of : Block → Run Flow
    block_of no_more = ends
    block_of (then_ kind line rest) = spend here line >> effect_of kind line >>= go_on (block_of rest)

  -- the statements of a text or a function, after one with this value
  abbrev pub body_of : Block → Value → Run Value
  body_of no_more x = settled x
  body_of (then_ kind line rest) x = spend here line >> effect_of kind line >>= ends_with (body_of rest)
