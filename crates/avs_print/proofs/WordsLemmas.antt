-- The words that are printed of a plain tree are words, and lines end outside parentheses.
use Rattle.std.proofs.Common.{◌≡◌, ◌≢◌, refl, sym, subst, inl, inr, ℕ, ◌+◌, ◌-◌, ℤ, List, [], ◌∷◌, ◌++◌, Option, Some, None, Bool, true, false, IsTrue, slice_index, codes, arith}
use Rattle.std.specs.List.{list_all}
use Rattle.std.specs.Char.{is_ascii_digit}
use Rattle.avs_lex.specs.declared.token.TokenKind.{TokenKind}
use Rattle.avs_lex.specs.declared.token.TokenKind.TheVariants as k
use Rattle.avs_lex.specs.Spelling.{dollar, begins_name, continues_name, Text, IsName, IsQuoted, Spells}
use Rattle.avs_lex.specs.Tokens.{open_parentheses_after}
use Rattle.avs_lex.specs.Written.{Word, IsWord, AreWords}
use Rattle.avs_lex.proofs.CallerLemmas.{is_punctuation}
use Rattle.avs_tree.specs.Lexeme.{keyword_of, word_of_keyword, word_of_type}
use Rattle.avs_tree.specs.Tree.{Expr, int, bool, str, name, call, method_calls, minus, not_, chain, compare, conditional, group, Args, no_args, arg, MethodCalls, no_method_calls, method, method_call, Steps, no_steps, step, Kind, global, assign, return, if_, while, for, value, Arms, no_arms, arm, Else, no_else, else_, Block, no_more, then_, Function, Script}
use Rattle.avs_tree.specs.Grammar.{precedence_of_steps, truth}
use Rattle.avs_tree.specs.declared.tree.Operator.{Operator}
use Rattle.avs_tree.specs.declared.tree.Operator.TheVariants as o
use Rattle.avs_tree.specs.declared.tree.Parameter.{Parameter}
use Rattle.avs_tree.specs.declared.words.Keyword.{Keyword}
use Rattle.avs_tree.specs.declared.words.Keyword.TheVariants as reserved
use Rattle.avs_tree.specs.declared.words.TypeWord.{TypeWord}
use Rattle.avs_tree.specs.declared.words.TypeWord.TheVariants as y
use Rattle.avs_print.specs.Printed.{word_as, ident, punctuation, keyword, ended, number, quoted, operator_kind, label_words, comma_words, expr_words, args_words, method_calls_words, steps_words, condition_words, step_words, head_words, else_word, braces_words, kind_words, arms_words, else_words, block_words, param_name, param_words, params_words, function_words, functions_words, script_words}
use Rattle.avs_print.proofs.Plain.{IsNamed, IsSaid, IsNumber, Plain, PlainLabel, PlainArgs, PlainMethodCalls, PlainSteps, PlainStep, PlainKind, PlainArms, PlainElse, PlainBlock, PlainName, PlainParams, PlainFunction, PlainFunctions, PlainScript}

-- ---- single words

-- punctuation, and operators among it
punctuation_word : (kind : TokenKind) → is_punctuation kind ≡ true → IsWord (punctuation kind)
punctuation_word k.Ident is = cc
punctuation_word (k.Int n) is = cc
punctuation_word k.Str is = cc
punctuation_word k.Newline is = cc
punctuation_word k.End is = cc
punctuation_word kind is = record { spelled = refl; no_newline = λ same. cc same; no_end = λ same. cc same; no_end_line = λ same. cc same }

operator_punctuation : (op : Operator) → is_punctuation (operator_kind op) ≡ true
operator_punctuation o.Or = refl
operator_punctuation _ = refl

name_word : (x : Text) → IsName x → x ≢ codes "__END__" → IsWord (ident x)
name_word x spelled other = record { spelled = spelled; no_newline = λ same. cc same; no_end = λ same. cc same; no_end_line = other }

-- `__END__` is a reserved word
not_end_line : (x : Text) → keyword_of x ≡ None → x ≢ codes "__END__"
unfolding keyword_of
not_end_line x free same = let end : keyword_of (codes "__END__") ≡ None = subst (λ z. keyword_of z ≡ None) same free in cc end

named_word : (x : Text) → IsNamed x → IsWord (ident x)
named_word x named = name_word x named.spelled (not_end_line x named.free)

-- neither digits nor a `$` begin it
digits_other : (bytes : Text) → IsTrue (list_all is_ascii_digit bytes) → bytes ≢ codes "__END__"
digits_other bytes digits same = let all : IsTrue (list_all is_ascii_digit (codes "__END__")) = subst (λ z. IsTrue (list_all is_ascii_digit z)) same digits in cc all

dollar_other : (bytes : Text) → slice_index bytes 0 ≡ dollar → bytes ≢ codes "__END__"
dollar_other bytes opens same = let opening : slice_index (codes "__END__") 0 ≡ dollar = subst (λ z. slice_index z 0 ≡ dollar) same opens in cc opening

number_other : (n : ℤ) (bytes : Text) → Spells (k.Int n) bytes → bytes ≢ codes "__END__"
number_other n bytes spelled = elim spelled as (λ _. bytes ≢ codes "__END__") [
  | inl decimal ↦ digits_other bytes decimal.digits
  | inr hexadecimal ↦ dollar_other bytes hexadecimal.opens
]

number_word : (n : ℤ) → IsNumber n → IsWord (word_as (k.Int n) (number n))
number_word n written = record { spelled = written; no_newline = λ same. cc same; no_end = λ same. cc same; no_end_line = number_other n (number n) written }

-- nor does a quote
said_word : (x : Text) → IsSaid x → IsWord (word_as k.Str (quoted x))
said_word x said = record {
  spelled = said.spelled;
  no_newline = λ same. cc same;
  no_end = λ same. cc same;
  no_end_line = λ same. let quoted_end : IsQuoted (codes "__END__") = subst IsQuoted same said.spelled in cc (quoted_end.opens);
}

-- the words of the language itself
is_fixed : (x : Text) → begins_name (slice_index x 0) ≡ true → list_all continues_name x ≡ true → x ≢ codes "__END__" → IsWord (ident x)
is_fixed x begins continues other = name_word x (record { begins = begins; continues = continues }) other

keyword_word : (word : Keyword) → word ≢ reserved.End → IsWord (keyword word)
keyword_word reserved.End other = absurd (other refl)
keyword_word word other = is_fixed (word_of_keyword word) refl refl (λ same. cc same)

truth_word : (b : Bool) → IsWord (keyword (truth b))
truth_word true = keyword_word reserved.True (λ same. cc same)
truth_word false = keyword_word reserved.False (λ same. cc same)

type_word : (word : TypeWord) → IsWord (ident (word_of_type word))
type_word y.Clip = is_fixed (word_of_type y.Clip) refl refl (λ same. cc same)
type_word word = is_fixed (word_of_type word) refl refl (λ same. cc same)

-- ---- parentheses

-- how many parentheses are open after these words
abbrev open_parentheses_after_words : ℕ → List Word → ℕ
open_parentheses_after_words open_parentheses [] = open_parentheses
open_parentheses_after_words open_parentheses (w ∷ words) = open_parentheses_after_words (open_parentheses_after w.kind open_parentheses) words

-- words that begin where `before` parentheses are open, and end where `after` are
record Leads (before after : ℕ) (words : List Word) : Type 0 where
  are : AreWords before words
  left : open_parentheses_after_words before words ≡ after

nothing : {open_parentheses : ℕ} → Leads open_parentheses open_parentheses []
nothing = record { are = tt; left = refl }

-- a word that ends no line
word_first : {before after : ℕ} {w : Word} {words : List Word} → IsWord w → w.ends_line ≡ false → Leads (open_parentheses_after w.kind before) after words → Leads before after (w ∷ words)
word_first is open_ rest = record { are = (is, (λ ends. absurd (cc (open_, ends))), rest.are); left = rest.left }

punctuation_first : {before after : ℕ} (kind : TokenKind) {words : List Word} → is_punctuation kind ≡ true → Leads (open_parentheses_after kind before) after words → Leads before after (punctuation kind ∷ words)
punctuation_first kind is rest = word_first (punctuation_word kind is) refl rest

named_first : {before after : ℕ} {x : Text} {words : List Word} → IsNamed x → Leads before after words → Leads before after (ident x ∷ words)
named_first {x = x} named rest = word_first (named_word x named) refl rest

both : (front : List Word) {back : List Word} {before middle after : ℕ} → Leads before middle front → Leads middle after back → Leads before after (front ++ back)
both [] {back} {before} {middle} {after} one two = subst (λ open_parentheses. Leads open_parentheses after back) (sym one.left) two
both (w ∷ front) one two =
    let rest = both front (record { are = one.are.2; left = one.left }) two in
    record { are = (one.are.0, one.are.1, rest.are); left = rest.left }

-- words in parentheses
enclosed : {before after : ℕ} (inside : List Word) {rest : List Word} → Leads (before + 1) (before + 1) inside → Leads before after rest → Leads before after (punctuation k.LeftParen ∷ (inside ++ punctuation k.RightParen ∷ rest))
enclosed {before} {after} inside {rest} one two =
    let closed : before + 1 - 1 ≡ before = omega arith in
    let last = subst (λ open_parentheses. Leads open_parentheses after rest) (sym closed) two in
    punctuation_first k.LeftParen refl (both inside one (punctuation_first k.RightParen refl last))

-- an operator is no parenthesis
operator_open_parentheses : (op : Operator) (open_parentheses : ℕ) → open_parentheses_after (operator_kind op) open_parentheses ≡ open_parentheses
operator_open_parentheses o.Or open_parentheses = refl
operator_open_parentheses _ open_parentheses = refl

operator_first : {before after : ℕ} (op : Operator) {words : List Word} → Leads before after words → Leads before after (punctuation (operator_kind op) ∷ words)
operator_first {before} {after} op {words} rest = punctuation_first (operator_kind op) (operator_punctuation op) (subst (λ open_parentheses. Leads open_parentheses after words) (sym (operator_open_parentheses op before)) rest)

-- The last of the words may end its line where no parenthesis is open after it.
ended_leads : (words : List Word) {before : ℕ} → Leads before 0 words → Leads before 0 (ended words)
ended_leads [] all = all
ended_leads (w ∷ []) all =
    let is = all.are.0 in
    let line : IsWord (record w { ends_line = true }) = record { spelled = is.spelled; no_newline = is.no_newline; no_end = is.no_end; no_end_line = is.no_end_line } in
    record { are = (line, (λ ends. all.left), tt); left = all.left }
ended_leads (w ∷ next ∷ words) all =
    let rest = ended_leads (next ∷ words) (record { are = all.are.2; left = all.left }) in
    record { are = (all.are.0, all.are.1, rest.are); left = rest.left }

-- ---- expressions

label_leads : (x : Option Text) (open_parentheses : ℕ) → PlainLabel x → Leads open_parentheses open_parentheses (label_words x)
label_leads None open_parentheses plain = nothing
label_leads (Some x) open_parentheses plain = named_first plain (punctuation_first k.Assign refl nothing)

comma_leads : (begins : Bool) (open_parentheses : ℕ) → Leads open_parentheses open_parentheses (comma_words begins)
comma_leads true open_parentheses = nothing
comma_leads false open_parentheses = punctuation_first k.Comma refl nothing

mutual
  expr_leads : (e : Expr) (r open_parentheses : ℕ) → Plain r e → Leads open_parentheses open_parentheses (expr_words e)
  expr_leads (int n) r open_parentheses plain = word_first (number_word n plain) refl nothing
  expr_leads (bool b) r open_parentheses plain = word_first (truth_word b) refl nothing
  expr_leads (str x) r open_parentheses plain = word_first (said_word x plain) refl nothing
  expr_leads (name x line) r open_parentheses plain = named_first plain nothing
  expr_leads (call x es line) r open_parentheses (named, plain) = named_first named (enclosed (args_words true es) (args_lead true es (open_parentheses + 1) plain) nothing)
  expr_leads (method_calls e ds) r open_parentheses (high, some, plain, more) = both (expr_words e) (expr_leads e 0 open_parentheses plain) (method_calls_lead ds open_parentheses more)
  expr_leads (minus e line) r open_parentheses (high, plain) = punctuation_first k.Minus refl (expr_leads e 2 open_parentheses plain)
  expr_leads (not_ e line) r open_parentheses (high, plain) = punctuation_first k.Not refl (expr_leads e 2 open_parentheses plain)
  expr_leads (chain e ss) r open_parentheses (high, some, plain, more) = both (expr_words e) (expr_leads e (precedence_of_steps ss - 1) open_parentheses plain) (steps_lead ss (precedence_of_steps ss) open_parentheses more)
  expr_leads (compare op a b line) r open_parentheses (high, precedences, left, right) =
      both (expr_words a) (expr_leads a 4 open_parentheses left) (operator_first op (expr_leads b 4 open_parentheses right))
  expr_leads (conditional c a b line) r open_parentheses (high, asks, one, other) =
      both (expr_words c) (expr_leads c 7 open_parentheses asks)
      (punctuation_first k.Question refl (both (expr_words a) (expr_leads a 8 open_parentheses one) (punctuation_first k.Colon refl (expr_leads b 8 open_parentheses other))))
  expr_leads (group e) r open_parentheses plain = enclosed (expr_words e) (expr_leads e 8 (open_parentheses + 1) plain) nothing

  args_lead : (begins : Bool) (es : Args) (open_parentheses : ℕ) → PlainArgs es → Leads open_parentheses open_parentheses (args_words begins es)
  args_lead begins no_args open_parentheses plain = nothing
  args_lead begins (arg x e es) open_parentheses (label, plain, more) =
      both (comma_words begins) (comma_leads begins open_parentheses)
      (both (label_words x) (label_leads x open_parentheses label)
      (both (expr_words e) (expr_leads e 8 open_parentheses plain) (args_lead false es open_parentheses more)))

  method_calls_lead : (ds : MethodCalls) (open_parentheses : ℕ) → PlainMethodCalls ds → Leads open_parentheses open_parentheses (method_calls_words ds)
  method_calls_lead no_method_calls open_parentheses plain = nothing
  method_calls_lead (method x line ds) open_parentheses (named, more) = punctuation_first k.Dot refl (named_first named (method_calls_lead ds open_parentheses more))
  method_calls_lead (method_call x es line ds) open_parentheses (named, plain, more) =
      punctuation_first k.Dot refl (named_first named (enclosed (args_words true es) (args_lead true es (open_parentheses + 1) plain) (method_calls_lead ds open_parentheses more)))

  steps_lead : (ss : Steps) (r open_parentheses : ℕ) → PlainSteps r ss → Leads open_parentheses open_parentheses (steps_words ss)
  steps_lead no_steps r open_parentheses plain = nothing
  steps_lead (step op e line ss) r open_parentheses (precedences, plain, more) = operator_first op (both (expr_words e) (expr_leads e (r - 1) open_parentheses plain) (steps_lead ss r open_parentheses more))

-- ---- statements

condition_leads : (e : Expr) → Plain 8 e → Leads 0 0 (condition_words e)
condition_leads e plain = enclosed (expr_words e) (expr_leads e 8 1 plain) nothing

step_leads : (c : Option Expr) → PlainStep c → Leads 1 1 (step_words c)
step_leads None plain = nothing
step_leads (Some e) plain = punctuation_first k.Comma refl (expr_leads e 8 1 plain)

assign_leads : (x : Text) (e : Expr) → IsNamed x → Plain 8 e → Leads 0 0 (ident x ∷ punctuation k.Assign ∷ expr_words e)
assign_leads x e named plain = named_first named (punctuation_first k.Assign refl (expr_leads e 8 0 plain))

head_leads : (x : Text) (a b : Expr) (c : Option Expr) → IsNamed x → Plain 8 a → Plain 8 b → PlainStep c → Leads 0 0 (head_words x a b c)
head_leads x a b c named from to by =
    punctuation_first k.LeftParen refl (named_first named (punctuation_first k.Assign refl
    (both (expr_words a) (expr_leads a 8 1 from)
    (punctuation_first k.Comma refl (both (expr_words b) (expr_leads b 8 1 to)
    (both (step_words c) (step_leads c by) (punctuation_first k.RightParen refl nothing)))))))

braces_lead : (inside : List Word) → Leads 0 0 inside → Leads 0 0 (braces_words inside)
braces_lead inside all = punctuation_first k.LeftBrace refl (both inside all (punctuation_first k.RightBrace refl nothing))

else_word_leads : (begins : Bool) → Leads 0 0 (else_word begins)
else_word_leads true = nothing
else_word_leads false = word_first (keyword_word reserved.Else (λ same. cc same)) refl nothing

arm_leads : (begins : Bool) (e : Expr) (b : Block) (rest : Arms) → Plain 8 e → Leads 0 0 (block_words b) → Leads 0 0 (arms_words false rest) → Leads 0 0 (arms_words begins (arm e b rest))
arm_leads begins e b rest plain body more =
    both (else_word begins) (else_word_leads begins)
    (word_first (keyword_word reserved.If (λ same. cc same)) refl (both (condition_words e) (condition_leads e plain)
    (both (braces_words (block_words b)) (braces_lead (block_words b) body) more)))

mutual
  kind_leads : (what : Kind) → PlainKind what → Leads 0 0 (kind_words what)
  kind_leads (global x e) (named, plain) = word_first (keyword_word reserved.Global (λ same. cc same)) refl (assign_leads x e named plain)
  kind_leads (assign x e) (named, plain) = assign_leads x e named plain
  kind_leads (return e) plain = word_first (keyword_word reserved.Return (λ same. cc same)) refl (expr_leads e 8 0 plain)
  kind_leads (if_ no_arms other) plain = absurd plain
  kind_leads (if_ (arm e b rest) other) (plain, body, more, last) =
      both (arms_words true (arm e b rest)) (arm_leads true e b rest plain (block_leads b body) (arms_lead rest more)) (else_leads other last)
  kind_leads (while e b) (plain, body) =
      word_first (keyword_word reserved.While (λ same. cc same)) refl (both (condition_words e) (condition_leads e plain) (braces_lead (block_words b) (block_leads b body)))
  kind_leads (for x a b c d) (named, from, to, by, body) =
      word_first (keyword_word reserved.For (λ same. cc same)) refl (both (head_words x a b c) (head_leads x a b c named from to by) (braces_lead (block_words d) (block_leads d body)))
  kind_leads (value e) plain = expr_leads e 8 0 plain

  arms_lead : (arms : Arms) → PlainArms arms → Leads 0 0 (arms_words false arms)
  arms_lead no_arms plain = nothing
  arms_lead (arm e b rest) (plain, body, more) = arm_leads false e b rest plain (block_leads b body) (arms_lead rest more)

  else_leads : (other : Else) → PlainElse other → Leads 0 0 (else_words other)
  else_leads no_else plain = nothing
  else_leads (else_ b) plain = word_first (keyword_word reserved.Else (λ same. cc same)) refl (braces_lead (block_words b) (block_leads b plain))

  block_leads : (b : Block) → PlainBlock b → Leads 0 0 (block_words b)
  block_leads no_more plain = nothing
  block_leads (then_ what line rest) (plain, more) = both (ended (kind_words what)) (ended_leads (kind_words what) (kind_leads what plain)) (block_leads rest more)

-- ---- functions and scripts

param_leads : (optional : Bool) (x : Text) → PlainName optional x → Leads 1 1 (param_name optional x ∷ [])
param_leads false x plain = named_first plain nothing
param_leads true x (spelled, plain) = word_first (said_word x plain) refl nothing

params_lead : (params : List Parameter) (begins must : Bool) → PlainParams must params → Leads 1 1 (params_words begins params)
params_lead [] begins must plain = nothing
params_lead (p ∷ ps) begins must (follows, plain, more) =
    both (comma_words begins) (comma_leads begins 1)
    (both (param_words p) (word_first (type_word p.word) refl (param_leads p.optional p.name plain)) (params_lead ps false p.optional more))

function_leads : (f : Function) → PlainFunction f → Leads 0 0 (function_words f)
function_leads f plain =
    word_first (keyword_word reserved.Function (λ same. cc same)) refl (named_first plain.name
    (enclosed (params_words true f.params) (params_lead f.params true false plain.params) (braces_lead (block_words f.body) (block_leads f.body plain.body))))

functions_lead : (fs : List Function) → PlainFunctions fs → Leads 0 0 (functions_words fs)
functions_lead [] plain = nothing
functions_lead (f ∷ fs) (plain, more) = both (ended (function_words f)) (ended_leads (function_words f) (function_leads f plain)) (functions_lead fs more)

script_leads : (tree : Script) → PlainScript tree → Leads 0 0 (script_words tree)
script_leads tree plain = both (functions_words tree.functions) (functions_lead tree.functions plain.functions) (block_leads tree.statements plain.statements)

-- what is printed of a plain tree is words
pub words_are : (tree : Script) → PlainScript tree → AreWords 0 (script_words tree)
words_are tree plain = (script_leads tree plain).are
