-- A script as it is written: its tokens in their order, with a blank between two and a newline after each function and
-- each statement.
use Rattle.std.specs.Prelude.{◌≡◌, ℕ, ◌+◌, ◌/◌, ◌%◌, ◌^◌, ◌==◌, ℤ, pos, negsuc, Bool, true, false, if◌then◌else◌, nat_lt, List, [], ◌∷◌, ◌++◌, map, length, codes, Option, Some, None}
use Rattle.std.specs.Fmt.{decimal}
use Rattle.std.specs.List.{list_any}
use Rattle.std.specs.Int.{cast_unsigned, w64}
use Rattle.avs_lex.specs.declared.token.TokenKind.{TokenKind}
use Rattle.avs_lex.specs.declared.token.TokenKind.TheVariants as k
use Rattle.avs_lex.specs.Spelling.{spelling, Text}
use Rattle.avs_lex.specs.Written.{Word, written}
use Rattle.avs_tree.specs.Tree.{Expr, int, bool, str, name, call, method_calls, minus, not_, chain, compare, conditional, group, Args, no_args, arg, MethodCalls, no_method_calls, method, method_call, Steps, no_steps, step, Kind, global, assign, return, if_, while, for, value, Arms, no_arms, arm, Else, no_else, else_, Block, no_more, then_, Function, Script}
use Rattle.avs_tree.specs.Grammar.{truth}
use Rattle.avs_tree.specs.Lexeme.{word_of_keyword, word_of_type}
use Rattle.avs_tree.specs.declared.tree.Operator.{Operator}
use Rattle.avs_tree.specs.declared.tree.Operator.TheVariants as o
use Rattle.avs_tree.specs.declared.tree.Parameter.{Parameter}
use Rattle.avs_tree.specs.declared.words.Keyword.{Keyword}
use Rattle.avs_tree.specs.declared.words.Keyword.TheVariants as w

-- ---- single words

abbrev pub word_as : TokenKind → Text → Word
word_as kind bytes = record { kind = kind; bytes = bytes; ends_line = false }

abbrev pub ident : Text → Word
ident = word_as k.Ident

abbrev pub punctuation : TokenKind → Word
punctuation kind = word_as kind (spelling kind)

-- the last word ends its line
abbrev pub ended : List Word → List Word
ended [] = []
ended (w ∷ []) = record w { ends_line = true } ∷ []
ended (w ∷ v ∷ ws) = w ∷ ended (v ∷ ws)

-- no line ends after the last word
abbrev pub Open : List Word → Type 0
Open [] = Unit {0}
Open (w ∷ []) = w.ends_line ≡ false
Open (w ∷ v ∷ ws) = Open (v ∷ ws)

abbrev pub hexadecimal_digit : ℕ → ℕ
hexadecimal_digit n = if nat_lt n 10 then 48 + n else 55 + n

-- the 8 hexadecimal digits of 32 bits, and the 16 of 64 bits
abbrev pub half : ℕ → Text
half n = map (λ exponent. hexadecimal_digit (n / 16 ^ exponent % 16)) (7 ∷ 6 ∷ 5 ∷ 4 ∷ 3 ∷ 2 ∷ 1 ∷ 0 ∷ [])

unfoldable pub hexadecimal : ℕ → Text
hexadecimal n = half (n / 2 ^ 32) ++ half (n % 2 ^ 32)

-- decimal, or `$` and the digits of the two's complement
abbrev pub number : ℤ → Text
number (pos n) = decimal n
number (negsuc n) = 36 ∷ hexadecimal (cast_unsigned w64 (negsuc n))

-- between `"`, or between `"""` where there is a `"` inside
abbrev pub quotes_for : Text → Text
quotes_for x = if list_any (λ c. c == 34) x then codes "\"\"\"" else codes "\""

abbrev pub quoted : Text → Text
quoted x = quotes_for x ++ (x ++ quotes_for x)

-- a reserved word
abbrev pub keyword : Keyword → Word
keyword k = ident (word_of_keyword k)

abbrev pub operator_kind : Operator → TokenKind
operator_kind o.Or = k.OrOr
operator_kind o.And = k.AndAnd
operator_kind o.Equal = k.Equal
operator_kind o.NotEqual = k.NotEqual
operator_kind o.Less = k.Less
operator_kind o.LessEqual = k.LessEqual
operator_kind o.Greater = k.Greater
operator_kind o.GreaterEqual = k.GreaterEqual
operator_kind o.Plus = k.Plus
operator_kind o.Minus = k.Minus
operator_kind o.PlusPlus = k.PlusPlus
operator_kind o.Times = k.Times
operator_kind o.Divide = k.Divide
operator_kind o.Remainder = k.Remainder

-- ---- expressions

abbrev pub label_words : Option Text → List Word
label_words None = []
label_words (Some x) = ident x ∷ punctuation k.Assign ∷ []

-- the comma before an element of a list, but for the first
abbrev pub comma_words : Bool → List Word
comma_words true = []
comma_words false = punctuation k.Comma ∷ []

abbrev mutual
  pub expr_words : Expr → List Word
  expr_words (int n) = word_as (k.Int n) (number n) ∷ []
  expr_words (bool b) = keyword (truth b) ∷ []
  expr_words (str x) = word_as k.Str (quoted x) ∷ []
  expr_words (name x line) = ident x ∷ []
  expr_words (call x es line) = ident x ∷ punctuation k.LeftParen ∷ (args_words true es ++ punctuation k.RightParen ∷ [])
  expr_words (method_calls e ds) = expr_words e ++ method_calls_words ds
  expr_words (minus e line) = punctuation k.Minus ∷ expr_words e
  expr_words (not_ e line) = punctuation k.Not ∷ expr_words e
  expr_words (chain e ss) = expr_words e ++ steps_words ss
  expr_words (compare op a b line) = expr_words a ++ punctuation (operator_kind op) ∷ expr_words b
  expr_words (conditional c a b line) = expr_words c ++ punctuation k.Question ∷ (expr_words a ++ punctuation k.Colon ∷ expr_words b)
  expr_words (group e) = punctuation k.LeftParen ∷ (expr_words e ++ punctuation k.RightParen ∷ [])

  pub args_words : Bool → Args → List Word
  args_words first no_args = []
  args_words first (arg x e es) = comma_words first ++ (label_words x ++ (expr_words e ++ args_words false es))

  pub method_calls_words : MethodCalls → List Word
  method_calls_words no_method_calls = []
  method_calls_words (method x line ds) = punctuation k.Dot ∷ ident x ∷ method_calls_words ds
  method_calls_words (method_call x es line ds) = punctuation k.Dot ∷ ident x ∷ punctuation k.LeftParen ∷ (args_words true es ++ punctuation k.RightParen ∷ method_calls_words ds)

  pub steps_words : Steps → List Word
  steps_words no_steps = []
  steps_words (step op e line ss) = punctuation (operator_kind op) ∷ (expr_words e ++ steps_words ss)

-- ---- statements

abbrev pub condition_words : Expr → List Word
condition_words e = punctuation k.LeftParen ∷ (expr_words e ++ punctuation k.RightParen ∷ [])

abbrev pub step_words : Option Expr → List Word
step_words None = []
step_words (Some e) = punctuation k.Comma ∷ expr_words e

abbrev pub head_words : Text → Expr → Expr → Option Expr → List Word
head_words x a b c = punctuation k.LeftParen ∷ ident x ∷ punctuation k.Assign ∷ (expr_words a ++ punctuation k.Comma ∷ (expr_words b ++ (step_words c ++ punctuation k.RightParen ∷ [])))

-- the `else` before an arm, but for the first
abbrev pub else_word : Bool → List Word
else_word true = []
else_word false = keyword w.Else ∷ []

abbrev pub braces_words : List Word → List Word
braces_words inside = punctuation k.LeftBrace ∷ (inside ++ punctuation k.RightBrace ∷ [])

abbrev mutual
  pub kind_words : Kind → List Word
  kind_words (global x e) = keyword w.Global ∷ ident x ∷ punctuation k.Assign ∷ expr_words e
  kind_words (assign x e) = ident x ∷ punctuation k.Assign ∷ expr_words e
  kind_words (return e) = keyword w.Return ∷ expr_words e
  kind_words (if_ arms other) = arms_words true arms ++ else_words other
  kind_words (while e b) = keyword w.While ∷ (condition_words e ++ braces_words (block_words b))
  kind_words (for x a b c d) = keyword w.For ∷ (head_words x a b c ++ braces_words (block_words d))
  kind_words (value e) = expr_words e

  pub arms_words : Bool → Arms → List Word
  arms_words first no_arms = []
  arms_words first (arm e b rest) = else_word first ++ keyword w.If ∷ (condition_words e ++ (braces_words (block_words b) ++ arms_words false rest))

  pub else_words : Else → List Word
  else_words no_else = []
  else_words (else_ b) = keyword w.Else ∷ braces_words (block_words b)

  pub block_words : Block → List Word
  block_words no_more = []
  block_words (then_ k line rest) = ended (kind_words k) ++ block_words rest

-- ---- functions and scripts

abbrev pub param_name : Bool → Text → Word
param_name false x = ident x
param_name true x = word_as k.Str (quoted x)

abbrev pub param_words : Parameter → List Word
param_words p = ident (word_of_type p.word) ∷ param_name p.optional p.name ∷ []

abbrev pub params_words : Bool → List Parameter → List Word
params_words first [] = []
params_words first (p ∷ ps) = comma_words first ++ (param_words p ++ params_words false ps)

abbrev pub function_words : Function → List Word
function_words f =
    keyword w.Function ∷ ident f.name ∷ punctuation k.LeftParen ∷ (params_words true f.params ++ punctuation k.RightParen ∷ braces_words (block_words f.body))

abbrev pub functions_words : List Function → List Word
functions_words [] = []
functions_words (f ∷ fs) = ended (function_words f) ++ functions_words fs

abbrev pub script_words : Script → List Word
script_words tree = functions_words tree.functions ++ block_words tree.statements

-- the text of a script
abbrev pub printed : Script → Text
printed tree = written (script_words tree)

-- these words were put after what was there
abbrev pub Appends : List Word → Text → Text → Type 0
Appends words old new = new ≡ old ++ written words

-- Where words were put after a text of this size, and the last one has a blank after it, it has a newline now.
abbrev pub EndsLine : ℕ → Text → Text → Type 0
EndsLine start old new = (before : Text) (words : List Word) → length before ≡ start → Open words → old ≡ before ++ written words → new ≡ before ++ written (ended words)
