-- Values and their kinds, and what an operator or a function gives: a value, or why there is none.
use Rattle.std.specs.Prelude.{ℕ, List, Bool, true, false, Option, Some, None, ◌≡◌, ◌^◌, ℤ, pos, negsuc, nat_lt, nat_le, length, Result, Ok, Err, if◌then◌else◌}
use Rattle.std.specs.Str.{str_eq_ignore_ascii_case}
use Rattle.avs_values.specs.declared.fault.ValueFault.{ValueFault}
use Rattle.avs_values.specs.declared.fault.ValueFault.TheVariants as f
use Rattle.avs_values.specs.declared.value.Kind.{Kind}
use Rattle.avs_values.specs.declared.value.Kind.TheVariants as k
use Rattle.avs_values.specs.declared.value.Value.{Value}
use Rattle.avs_values.specs.declared.value.Value.TheVariants as v

-- ==== Values and their kinds (AviSynth+ wiki, 'Grammar': "The full AviSynth grammar").

-- the UTF-8 of a text
abbrev pub Text : Type 0
Text = List ℕ

-- Two texts are the same without regard to the case of ASCII letters.
abbrev pub same : Text → Text → Bool
same = str_eq_ignore_ascii_case

abbrev pub is_undefined : Value → Bool
is_undefined v.Undefined = true
is_undefined _ = false

-- each value has the kind `Val`
abbrev pub has_kind : Kind → Value → Bool
has_kind k.Val x = true
has_kind k.Clip (v.Clip n) = true
has_kind k.Int (v.Int n) = true
has_kind k.Text (v.Text t) = true
has_kind k.Bool (v.Bool b) = true
has_kind _ _ = false

-- ==== Why an operator or a function has no value.

pub data Refusal : Type 0 where
  -- a value of another kind than it takes
  TypeFault : Refusal
  -- a number outside 64 bits
  Overflow : Refusal
  -- a division by 0, or its remainder
  DivZero : Refusal
  -- a text that is not what it reads
  BadText : Refusal
  -- a number outside its range
  BadRange : Refusal
  -- a text that is too long
  TextLimit : Refusal
  -- an assertion that failed, with its message
  AssertFailed : Text → Refusal

-- what a fault of the code tells, and nothing of out of memory
abbrev pub refusal_of : ValueFault → Option Refusal
refusal_of f.TypeFault = Some TypeFault
refusal_of f.Overflow = Some Overflow
refusal_of f.DivZero = Some DivZero
refusal_of f.BadText = Some BadText
refusal_of f.BadRange = Some BadRange
refusal_of f.TextLimit = Some TextLimit
refusal_of (f.AssertFailed message) = Some (AssertFailed message)
refusal_of f.Memory = None

-- ==== What an operator or a function gives: a value, or why there is none.

abbrev pub Outcome : Type 0
Outcome = Result Value Refusal

-- The numbers of scripts have 64 bits: they go from -2^63 to 2^63 - 1.
abbrev pub is_number : ℤ → Bool
is_number (pos n) = nat_lt n (2 ^ 63)
is_number (negsuc n) = nat_lt n (2 ^ 63)

abbrev pub number : ℤ → Outcome
number n = if is_number n then Ok (v.Int n) else Err Overflow

-- how many bytes a text has at most
abbrev pub text_limit : ℕ
text_limit = 1048576

abbrev pub text : Text → Outcome
text t = if nat_le (length t) text_limit then Ok (v.Text t) else Err TextLimit

-- ---- what the code answers, where a definition gives an outcome

-- the definition gives this refusal, and of out of memory, which is none, `memory` is said
abbrev pub Refuses : Type 0 → Outcome → Option Refusal → Type 0
Refuses memory outcome (Some refusal) = outcome ≡ Err refusal
Refuses memory outcome None = memory

-- the definition gives this value, or the refusal of this fault
abbrev pub Says : Type 0 → Outcome → Result Value ValueFault → Type 0
Says memory outcome (Ok x) = outcome ≡ Ok x
Says memory outcome (Err fault) = Refuses memory outcome (refusal_of fault)

abbrev pub HasValue : {X E : Type 0} → Result X E → Type 0
HasValue (Ok x) = Unit {0}
HasValue (Err fault) = ⊥

-- The call gives this outcome, or is out of memory in the place of a value. Memory never runs out in the place of a refusal.
abbrev pub Gives : Outcome → Result Value ValueFault → Type 0
Gives outcome = Says (HasValue outcome) outcome

-- The call gives this outcome, and is never out of memory.
abbrev pub AlwaysGives : Outcome → Result Value ValueFault → Type 0
AlwaysGives = Says ⊥
