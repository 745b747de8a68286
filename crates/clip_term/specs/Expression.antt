-- Expressions that are evaluated for each frame: as trees, as lists of words, and what they give.
use Rattle.std.specs.Int.{int_min, int_max}
use Rattle.std.specs.Int.RustNames.{int_div, int_rem}
use Rattle.std.specs.List.{range_with_len, find, fold, count_by}
use Rattle.std.specs.Option.{unwrap_or}
use Rattle.std.specs.Prelude.{ℕ, ℤ, Bool, true, false, ◌&&◌, ◌||◌, ◌==◌, nat_lt, List, [], ◌∷◌, pos, slice_index_or, ◌+◌, ◌*◌, ◌^◌, if◌then◌else◌, nat_le, min, max, negsuc, ◌+ℤ◌, ◌-ℤ◌, ◌*ℤ◌, int_lt, length, Option, Some, None}
use Rattle.fv_rows.specs.Rows.{flat_rows}
use Rattle.fv_plane.specs.Format.{largest_sample, planes, plane_width, plane_height}
use Rattle.fv_plane.specs.Picture.{Look, plane_from}
use Rattle.fv_plane.specs.declared.format.Shape.{Shape}
use Rattle.clip_term.specs.declared.run.PlaneStat.{PlaneStat}
use Rattle.clip_term.specs.declared.run.PlaneStat.TheVariants.{Least, Greatest, Median}
use Rattle.clip_term.specs.declared.run.RunExpr.{RunExpr, fold-RunExpr}
use Rattle.clip_term.specs.declared.run.RunExpr.TheOpen.{RunExpr-F, RunStep-F}
use Rattle.clip_term.specs.declared.run.RunOper.{RunOper}
use Rattle.clip_term.specs.declared.run.RunOper.TheVariants as o
use Rattle.clip_term.specs.declared.run.RunStep.{RunStep, fold-RunStep}

-- ==== Expressions that are evaluated for each frame, as trees, and the tree that a value of the code means.

mutual
  pub data Expr : Type 0 where
    int : ℤ → Expr
    bool : Bool → Expr
    current_frame : Expr
    of_plane : ℕ → PlaneStat → Expr
    abs_ : Expr → Expr
    min_ : Exprs → Expr
    max_ : Exprs → Expr
    minus : Expr → Expr
    not_ : Expr → Expr
    chain : Expr → Steps → Expr
    compare : RunOper → Expr → Expr → Expr
    group : Expr → Expr

  pub data Exprs : Type 0 where
    no_exprs : Exprs
    and_expr : Expr → Exprs → Exprs

  pub data Steps : Type 0 where
    no_steps : Steps
    and_step : RunOper → Expr → Steps → Steps

-- ---- the tree of a value of the code

abbrev pub StepIs : Type 0
StepIs = RunOper × Expr

abbrev pub exprs_of : List Expr → Exprs
exprs_of [] = no_exprs
exprs_of (e ∷ es) = and_expr e (exprs_of es)

abbrev pub steps_of : List StepIs → Steps
steps_of [] = no_steps
steps_of (s ∷ ss) = and_step s.0 s.1 (steps_of ss)

abbrev pub expr_layer : RunExpr-F Expr StepIs → Expr
expr_layer (RunExpr-F.Int n) = int n
expr_layer (RunExpr-F.Bool b) = bool b
expr_layer RunExpr-F.CurrentFrame = current_frame
expr_layer (RunExpr-F.Plane p stat) = of_plane p stat
expr_layer (RunExpr-F.Abs e) = abs_ e.value
expr_layer (RunExpr-F.Min es) = min_ (exprs_of es.items)
expr_layer (RunExpr-F.Max es) = max_ (exprs_of es.items)
expr_layer (RunExpr-F.Minus e) = minus e.value
expr_layer (RunExpr-F.Not e) = not_ e.value
expr_layer (RunExpr-F.Chain e ss) = chain e.value (steps_of ss.items)
expr_layer (RunExpr-F.Compare op a b) = compare op a.value b.value
expr_layer (RunExpr-F.Group e) = group e.value

abbrev pub step_layer : RunStep-F Expr StepIs → StepIs
step_layer s = (s.op, s.operand)

abbrev pub expr_view : RunExpr → Expr
expr_view = fold-RunExpr Expr StepIs expr_layer step_layer

abbrev pub step_view : RunStep → StepIs
step_view = fold-RunStep Expr StepIs expr_layer step_layer

-- ---- which trees are expressions

abbrev pub is_arithmetic : RunOper → Bool
is_arithmetic o.Plus = true
is_arithmetic o.Minus = true
is_arithmetic o.Times = true
is_arithmetic o.Divide = true
is_arithmetic o.Remainder = true
is_arithmetic _ = false

-- The part is a number, of planes below this one. As no part makes a number of a truth value, no part of a number is one.
abbrev mutual
  pub is_number : ℕ → Expr → Bool
  is_number planes (int n) = true
  is_number planes (bool b) = false
  is_number planes current_frame = true
  is_number planes (of_plane p stat) = nat_lt p planes
  is_number planes (abs_ e) = is_number planes e
  is_number planes (min_ es) = are_two planes es
  is_number planes (max_ es) = are_two planes es
  is_number planes (minus e) = is_number planes e
  is_number planes (not_ e) = false
  is_number planes (chain e ss) = is_number planes e && are_steps planes ss
  is_number planes (compare op a b) = false
  is_number planes (group e) = is_number planes e

  -- two numbers or more
  pub are_two : ℕ → Exprs → Bool
  are_two planes (and_expr a (and_expr b es)) = is_number planes a && (is_number planes b && are_numbers planes es)
  are_two planes _ = false

  pub are_numbers : ℕ → Exprs → Bool
  are_numbers planes no_exprs = true
  are_numbers planes (and_expr e es) = is_number planes e && are_numbers planes es

  pub are_steps : ℕ → Steps → Bool
  are_steps planes no_steps = true
  are_steps planes (and_step op e ss) = is_arithmetic op && (is_number planes e && are_steps planes ss)

abbrev pub same_stat : PlaneStat → PlaneStat → Bool
same_stat Least Least = true
same_stat Greatest Greatest = true
same_stat Median Median = true
same_stat _ _ = false

-- the expression names this statistic of this plane
abbrev mutual
  pub asks : ℕ → PlaneStat → Expr → Bool
  asks p stat (int n) = false
  asks p stat (bool b) = false
  asks p stat current_frame = false
  asks p stat (of_plane q other) = p == q && same_stat stat other
  asks p stat (abs_ e) = asks p stat e
  asks p stat (min_ es) = any_asks p stat es
  asks p stat (max_ es) = any_asks p stat es
  asks p stat (minus e) = asks p stat e
  asks p stat (not_ e) = false
  asks p stat (chain e ss) = asks p stat e || steps_ask p stat ss
  asks p stat (compare op a b) = false
  asks p stat (group e) = asks p stat e

  pub any_asks : ℕ → PlaneStat → Exprs → Bool
  any_asks p stat no_exprs = false
  any_asks p stat (and_expr e es) = asks p stat e || any_asks p stat es

  pub steps_ask : ℕ → PlaneStat → Steps → Bool
  steps_ask p stat no_steps = false
  steps_ask p stat (and_step op e ss) = asks p stat e || steps_ask p stat ss

-- ==== An expression as a list of words, operands before what takes them, so that an op is plain data; and the tree of a list.

pub data Word : Type 0 where
  int_word : ℤ → Word
  bool_word : Bool → Word
  frame_word : Word
  plane_word : ℕ → PlaneStat → Word
  abs_word : Word
  min_word : Word
  max_word : Word
  minus_word : Word
  not_word : Word
  chain_word : Word
  compare_word : RunOper → Word
  group_word : Word
  -- a list of operands ends, or has one more before it
  end_word : Word
  more_word : Word
  -- the same of the steps of a chain
  last_word : Word
  step_word : RunOper → Word

-- the words of a part, before others
abbrev mutual
  pub words : Expr → List Word → List Word
  words (int z) rest = int_word z ∷ rest
  words (bool b) rest = bool_word b ∷ rest
  words current_frame rest = frame_word ∷ rest
  words (of_plane p stat) rest = plane_word p stat ∷ rest
  words (abs_ e) rest = words e (abs_word ∷ rest)
  words (min_ es) rest = all_words es (min_word ∷ rest)
  words (max_ es) rest = all_words es (max_word ∷ rest)
  words (minus e) rest = words e (minus_word ∷ rest)
  words (not_ e) rest = words e (not_word ∷ rest)
  words (chain e ss) rest = words e (step_words ss (chain_word ∷ rest))
  words (compare op a b) rest = words a (words b (compare_word op ∷ rest))
  words (group e) rest = words e (group_word ∷ rest)

  pub all_words : Exprs → List Word → List Word
  all_words no_exprs rest = end_word ∷ rest
  all_words (and_expr e es) rest = words e (all_words es (more_word ∷ rest))

  pub step_words : Steps → List Word → List Word
  step_words no_steps rest = last_word ∷ rest
  step_words (and_step op e ss) rest = words e (step_words ss (step_word op ∷ rest))

-- what words make of the parts before them, the last part first
abbrev pub read : List Word → List Expr → List Exprs → List Steps → List Expr
read [] es ls ss = es
read (int_word z ∷ ws) es ls ss = read ws (int z ∷ es) ls ss
read (bool_word b ∷ ws) es ls ss = read ws (bool b ∷ es) ls ss
read (frame_word ∷ ws) es ls ss = read ws (current_frame ∷ es) ls ss
read (plane_word p stat ∷ ws) es ls ss = read ws (of_plane p stat ∷ es) ls ss
read (abs_word ∷ ws) (e ∷ es) ls ss = read ws (abs_ e ∷ es) ls ss
read (min_word ∷ ws) es (l ∷ ls) ss = read ws (min_ l ∷ es) ls ss
read (max_word ∷ ws) es (l ∷ ls) ss = read ws (max_ l ∷ es) ls ss
read (minus_word ∷ ws) (e ∷ es) ls ss = read ws (minus e ∷ es) ls ss
read (not_word ∷ ws) (e ∷ es) ls ss = read ws (not_ e ∷ es) ls ss
read (chain_word ∷ ws) (e ∷ es) ls (s ∷ ss) = read ws (chain e s ∷ es) ls ss
read (compare_word op ∷ ws) (b ∷ a ∷ es) ls ss = read ws (compare op a b ∷ es) ls ss
read (group_word ∷ ws) (e ∷ es) ls ss = read ws (group e ∷ es) ls ss
read (end_word ∷ ws) es ls ss = read ws es (no_exprs ∷ ls) ss
read (more_word ∷ ws) (e ∷ es) (l ∷ ls) ss = read ws es (and_expr e l ∷ ls) ss
read (last_word ∷ ws) es ls ss = read ws es ls (no_steps ∷ ss)
read (step_word op ∷ ws) (e ∷ es) ls (s ∷ ss) = read ws es ls (and_step op e s ∷ ss)
read (_ ∷ ws) es ls ss = read ws es ls ss

-- the tree of words
abbrev pub tree_of : List Word → Expr
tree_of ws = slice_index_or (read ws [] [] []) 0 (int (pos 0))

-- ==== What an expression gives for a frame: a number of 64 bits, or none where a result leaves them or a divisor is 0.

-- ---- statistics

-- at least half of the samples are no greater
abbrev pub is_half : List ℕ → ℕ → Bool
is_half samples v = nat_le (length samples) (2 * count_by (λ s. nat_le s v) samples)

-- of samples that are no greater than the greatest one that there may be
abbrev pub stat_in : ℕ → PlaneStat → List ℕ → ℕ
stat_in greatest Least samples = fold min greatest samples
stat_in greatest Greatest samples = fold max 0 samples
stat_in greatest Median samples = unwrap_or (find (is_half samples) (range_with_len 0 (greatest + 1))) 0

-- the samples of a plane, row by row
abbrev pub samples_from : Shape → Look → ℕ → List ℕ
samples_from shape from p = flat_rows (plane_from from p (plane_width shape p) (plane_height shape p))

-- of a plane that the format hasn't, 0
abbrev pub stat_of : Shape → Look → ℕ → PlaneStat → ℕ
stat_of shape from p stat =
    if nat_lt p (planes shape.kind) then stat_in (largest_sample shape) stat (samples_from shape from p) else 0

-- ---- numbers

abbrev pub is_int64 : ℤ → Bool
is_int64 (pos n) = nat_lt n (2 ^ 63)
is_int64 (negsuc n) = nat_lt n (2 ^ 63)

abbrev pub on_64 : ℤ → Option ℤ
on_64 z = if is_int64 z then Some z else None

abbrev pub is_zero : ℤ → Bool
is_zero (pos n) = n == 0
is_zero (negsuc n) = false

-- division and remainder truncate towards zero
abbrev pub by_oper : RunOper → ℤ → ℤ → Option ℤ
by_oper o.Plus a b = on_64 (a +ℤ b)
by_oper o.Minus a b = on_64 (a -ℤ b)
by_oper o.Times a b = on_64 (a *ℤ b)
by_oper o.Divide a b = if is_zero b then None else on_64 (int_div a b)
by_oper o.Remainder a b = if is_zero b then None else on_64 (int_rem a b)
by_oper _ a b = None

abbrev pub both_of : (ℤ → ℤ → Option ℤ) → Option ℤ → Option ℤ → Option ℤ
both_of f (Some a) (Some b) = f a b
both_of f _ _ = None

abbrev pub one_of : (ℤ → Option ℤ) → Option ℤ → Option ℤ
one_of f (Some a) = f a
one_of f None = None

abbrev pub picked : (ℤ → ℤ → ℤ) → ℤ → ℤ → Option ℤ
picked pick a b = Some (pick a b)

abbrev pub absolute : ℤ → Option ℤ
absolute a = if int_lt a (pos 0) then on_64 (pos 0 -ℤ a) else Some a

abbrev pub negative : ℤ → Option ℤ
negative a = on_64 (pos 0 -ℤ a)

-- ---- the value of an expression at frame n, by the statistics of the test's frame; a truth value is no number

abbrev mutual
  pub value : ℕ → (ℕ → PlaneStat → ℕ) → Expr → Option ℤ
  value n stats (int z) = Some z
  value n stats (bool b) = None
  value n stats current_frame = Some (pos n)
  value n stats (of_plane p stat) = Some (pos (stats p stat))
  value n stats (abs_ e) = one_of absolute (value n stats e)
  value n stats (min_ es) = of_all int_min n stats es
  value n stats (max_ es) = of_all int_max n stats es
  value n stats (minus e) = one_of negative (value n stats e)
  value n stats (not_ e) = None
  value n stats (chain e ss) = along n stats (value n stats e) ss
  value n stats (compare op a b) = None
  value n stats (group e) = value n stats e

  -- one number, and what it becomes with each further one
  pub of_all : (ℤ → ℤ → ℤ) → ℕ → (ℕ → PlaneStat → ℕ) → Exprs → Option ℤ
  of_all pick n stats no_exprs = None
  of_all pick n stats (and_expr e es) = picked_from pick n stats (value n stats e) es

  pub picked_from : (ℤ → ℤ → ℤ) → ℕ → (ℕ → PlaneStat → ℕ) → Option ℤ → Exprs → Option ℤ
  picked_from pick n stats a no_exprs = a
  picked_from pick n stats a (and_expr e es) =
      picked_from pick n stats (both_of (picked pick) a (value n stats e)) es

  -- the operators of a chain, from the left
  pub along : ℕ → (ℕ → PlaneStat → ℕ) → Option ℤ → Steps → Option ℤ
  along n stats a no_steps = a
  along n stats a (and_step op e ss) = along n stats (both_of (by_oper op) a (value n stats e)) ss
