-- What may still come, by the grammar, where a part of an expression was read.
use Rattle.std.proofs.Common.{◌≡◌, ℕ, ◌≤◌, ◌⊎◌, List, [], ◌∷◌, ◌++◌, Option, Some, None}
use Rattle.avs_tree.specs.Lexeme.{Lexemes, precedence_of, tail}
use Rattle.avs_lex.specs.Spelling.{Text}
use Rattle.avs_tree.specs.Tree.{Expr, call, method_calls, minus, not_, chain, compare, conditional, group, Args, arg, MethodCalls, Steps, step}
use Rattle.avs_tree.specs.Tree as t
use Rattle.avs_tree.specs.View.{ArgIs, MethodCallIs, StepIs, method_call_of}
use Rattle.avs_tree.specs.Grammar.{IsPunctuation, IsNameAt, Derives, DerivesSteps, DerivesMethodCalls, DerivesArgs, DerivesMoreArgs}
use Rattle.avs_tree.specs.Machine.{Callee, call_of, method_of, Open, paren, argument, minus_of, not_of, chain_of, compare_of, yes_of, no_of, ExprState, operand_next, value_read, name_read, args_opened, dot_read, method_read, calls_read, ExprStep, refused, keeps, leaves, hole}
use Rattle.avs_tree.specs.declared.symbol.Punctuation.TheVariants as m
use Rattle.avs_tree.proofs.Left.{Grows}

-- these and then further ones
abbrev pub all_args : List ArgIs → Args → Args
all_args [] rest = rest
all_args (a ∷ found) rest = arg a.0 a.1 (all_args found rest)

abbrev pub all_calls : List MethodCallIs → MethodCalls → MethodCalls
all_calls [] rest = rest
all_calls (d ∷ ds) rest = method_call_of d.0 d.1.0 d.1.1 (all_calls ds rest)

abbrev pub all_steps : List StepIs → Steps → Steps
all_steps [] rest = rest
all_steps (x ∷ ss) rest = step x.0 x.1.0 x.1.1 (all_steps ss rest)

-- The expression of precedence k grows to one of precedence r at most, and C goes on.
abbrev pub GrownIn : ℕ → (Expr → Lexemes → Type 0) → ℕ → Expr → Lexemes → Type 0
GrownIn r C k e ts = (e' : Expr) × (us : Lexemes) × Grows k r e ts us e' × C e' us

module _ (r : ℕ) (C : Expr → Lexemes → Type 0) where
  -- after the right parenthesis of arguments
  abbrev pub CalledIn : Callee → Args → Lexemes → Type 0
  CalledIn (call_of x line) es ts = GrownIn r C 0 (call x es line) ts
  CalledIn (method_of e ds x line) es ts = (rest : MethodCalls) × (us : Lexemes) × DerivesMethodCalls rest ts us × GrownIn r C 1 (method_calls e (all_calls ds (method_call_of x (Some es) line rest))) us

  -- after the value of an argument
  abbrev pub ArgumentIn : Callee → List ArgIs → Option Text → Expr → Lexemes → Type 0
  ArgumentIn c found x e ts = (es : Args) × (us : Lexemes) × DerivesMoreArgs es ts us × CalledIn c (all_args found (arg x e es)) us

  -- after a name that is followed by `=`
  abbrev pub LabelIn : Callee → List ArgIs → Expr → Lexemes → Type 0
  LabelIn c found (t.name y line) ts = (us vs : Lexemes) × (e : Expr) × IsPunctuation m.Assign ts us × Derives 8 e us vs × ArgumentIn c found (Some y) e vs
  LabelIn c found _ ts = ⊥

module _ (K : Expr → Lexemes → Type 0) where
  -- What may come after an expression in all that is open, where K says what may come after the whole.
  abbrev pub Continuation : List Open → Expr → Lexemes → Type 0
  Continuation [] e ts = K e ts
  Continuation (paren ∷ fs) e ts = (us : Lexemes) × IsPunctuation m.RightParen ts us × GrownIn (hole fs) (λ x vs. Continuation fs x vs) 0 (group e) us
  Continuation (argument c found None ∷ fs) e ts = ArgumentIn (hole fs) (λ x vs. Continuation fs x vs) c found None e ts ⊎ LabelIn (hole fs) (λ x vs. Continuation fs x vs) c found e ts
  Continuation (argument c found (Some y) ∷ fs) e ts = ArgumentIn (hole fs) (λ x vs. Continuation fs x vs) c found (Some y) e ts
  Continuation (minus_of line ∷ fs) e ts = GrownIn (hole fs) (λ x vs. Continuation fs x vs) 2 (minus e line) ts
  Continuation (not_of line ∷ fs) e ts = GrownIn (hole fs) (λ x vs. Continuation fs x vs) 2 (not_ e line) ts
  Continuation (chain_of first ss op line ∷ fs) e ts =
      (rest : Steps) × (us : Lexemes) × DerivesSteps (precedence_of op) rest ts us × GrownIn (hole fs) (λ x vs. Continuation fs x vs) (precedence_of op) (chain first (all_steps ss (step op e line rest))) us
  Continuation (compare_of op first line ∷ fs) e ts = GrownIn (hole fs) (λ x vs. Continuation fs x vs) 5 (compare op first e line) ts
  Continuation (yes_of c line ∷ fs) e ts =
      (us vs : Lexemes) × (b : Expr) × IsPunctuation m.Colon ts us × Derives 8 b us vs × GrownIn (hole fs) (λ x vs. Continuation fs x vs) 8 (conditional c e b line) vs
  Continuation (no_of c yes_ line ∷ fs) e ts = GrownIn (hole fs) (λ x vs. Continuation fs x vs) 8 (conditional c yes_ e line) ts

  abbrev pub Grown : List Open → ℕ → Expr → Lexemes → Type 0
  Grown fs k e ts = GrownIn (hole fs) (Continuation fs) k e ts

  abbrev pub Called : List Open → Callee → Args → Lexemes → Type 0
  Called fs c es ts = CalledIn (hole fs) (Continuation fs) c es ts

  abbrev pub Opened : List Open → Callee → Lexemes → Type 0
  Opened fs c ts = (es : Args) × (us : Lexemes) × DerivesArgs es ts us × Called fs c es us

  abbrev pub WithCalls : List Open → Expr → List MethodCallIs → Lexemes → Type 0
  WithCalls fs e ds ts = (rest : MethodCalls) × (us : Lexemes) × DerivesMethodCalls rest ts us × Grown fs 1 (method_calls e (all_calls ds rest)) us

  abbrev pub MethodNamed : List Open → Expr → List MethodCallIs → Text → ℕ → Lexemes → Type 0
  MethodNamed fs e ds x line ts = WithCalls fs e (ds ++ (x, (None, line)) ∷ []) ts ⊎ ((us : Lexemes) × IsPunctuation m.LeftParen ts us × Opened fs (method_of e ds x line) us)

  abbrev pub Meaning : ExprState → List Open → Lexemes → Type 0
  Meaning operand_next fs ts = (e : Expr) × (us : Lexemes) × Derives (hole fs) e ts us × Continuation fs e us
  Meaning (value_read k e) fs ts = Grown fs k e ts
  Meaning (name_read x line) fs ts = Grown fs 0 (t.name x line) ts ⊎ ((us : Lexemes) × IsPunctuation m.LeftParen ts us × Opened fs (call_of x line) us)
  Meaning (args_opened c) fs ts = Opened fs c ts
  Meaning (dot_read e ds) fs ts = (x : Text) × (line : ℕ) × (us : Lexemes) × IsNameAt x line ts us × MethodNamed fs e ds x line us
  Meaning (method_read e ds x line) fs ts = MethodNamed fs e ds x line ts
  Meaning (calls_read e ds) fs ts = WithCalls fs e ds ts

  -- what may come where a token was taken
  abbrev pub After : ExprStep → Lexemes → Type 0
  After refused ts = ⊥
  After (keeps now fs) ts = Meaning now fs (tail ts)
  After (leaves e) ts = K e ts

-- Operators stand at their precedences.
abbrev pub Formed : List Open → Type 0
Formed [] = Unit {0}
Formed (chain_of first ss op line ∷ fs) = (precedence_of op ≤ hole fs) × (precedence_of op ≡ 5 → ⊥) × Formed fs
Formed (compare_of op first line ∷ fs) = (precedence_of op ≡ 5) × (5 ≤ hole fs) × Formed fs
Formed (yes_of c line ∷ fs) = (8 ≤ hole fs) × Formed fs
Formed (no_of c yes_ line ∷ fs) = (8 ≤ hole fs) × Formed fs
Formed (_ ∷ fs) = Formed fs
