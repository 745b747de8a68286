-- What is written, piece by piece.
use Rattle.std.proofs.Common.{◌≡◌, refl, sym, ap, subst, ◌∙◌, ℕ, ℤ, pos, negsuc, suc, ◌+◌, ◌<◌, arith, List, [], ◌∷◌, ◌++◌, append_assoc, append-nil, map, take, drop, length-append, ◌-◌, ◌≤◌, ◌⊎◌, inl, inr, length, get_or, Option, Some, None, Bool, false, if◌then◌else◌, ◌<ℤ◌, add-one, drop-cons, true, rules}
use Rattle.std.specs.Int.{cast_unsigned, w64}
use Rattle.std.proofs.lemmas.Int.{ints}
use Rattle.std.specs.Int.Signed.{le_z}
use Rattle.std.proofs.lemmas.Grind.{common_steps}
use Rattle.avs_lex.specs.Written.{Word, written}
use Rattle.avs_tree.specs.View.{MethodCallIs, ArmIs, args_of, method_calls_of, method_call_of, steps_of, arms_of, block_of, arg_view, method_call_view, step_view, arm_view, statement_view, kind_view, function_view}
use Rattle.avs_tree.specs.Tree.{Expr, int, bool, str, call, method_calls, minus, not_, chain, compare, conditional, group, Args, no_args, arg, MethodCalls, no_method_calls, method, method_call, Steps, no_steps, step, Kind, global, assign, return, if_, while, for, value, Arms, no_arms, arm, Else, no_else, else_, Function}
use Rattle.avs_tree.specs.Tree as t
use Rattle.avs_print.specs.Printed.{number, hexadecimal, method_calls_words, args_words, punctuation, keyword, ident, arms_words, else_word, condition_words, braces_words, block_words, expr_words, steps_words, label_words, kind_words, else_words, head_words, comma_words, operator_kind, params_words, function_words, ended, Open, EndsLine}
use Rattle.avs_lex.specs.declared.token.TokenKind.TheVariants.{Dot, LeftParen, RightParen, LeftBrace, RightBrace, Assign, Minus, Not, Question, Colon}
use Rattle.avs_tree.specs.declared.tree.Expr.{the_lemmas}
use Rattle.avs_tree.specs.declared.tree.StatementKind.{the_lemmas as statement_lemmas}
use Rattle.avs_tree.specs.declared.tree.Statement.{Statement}
use Rattle.avs_tree.specs.declared.tree.Arm.{Arm}
use Rattle.avs_tree.specs.declared.words.Keyword.TheVariants as reserved
use Rattle.avs_tree.specs.declared.tree.Parameter.{Parameter}
use Rattle.avs_tree.specs.declared.tree.Function.{Function as Code}
use Rattle.avs_tree.specs.declared.tree.Arg.{Arg}
use Rattle.avs_tree.specs.declared.tree.DotCall.{DotCall}
use Rattle.avs_tree.specs.declared.tree.Step.{Step}

pub written_both : (a b : List Word) → written (a ++ b) ≡ written a ++ written b
written_both [] b = refl
written_both (w ∷ a) b = ap (λ z. w.bytes ++ (if w.ends_line then 10 else 32) ∷ z) (written_both a b) ∙ sym (append_assoc w.bytes ((if w.ends_line then 10 else 32) ∷ written a) (written b))

-- the rest of a list begins with its first element
rest_more : {A B : Type 0} (view : A → B) (xs : List A) (i : ℕ) (x : A) → i < length xs → x ≡ get_or xs i x → map view (drop i xs) ≡ view x ∷ map view (drop (i + 1) xs)
rest_more view xs i x h is = rw (add-one, drop-cons xs i x) (ap (λ z. view z ∷ map view (drop (suc i) xs)) (sym is))

pub args_more : (xs : List Arg) (i : ℕ) (x : Arg) → i < length xs → x ≡ get_or xs i x → args_of (map arg_view (drop i xs)) ≡ args_of (arg_view x ∷ map arg_view (drop (i + 1) xs))
args_more xs i x h is = ap args_of (rest_more arg_view xs i x h is)

pub method_calls_more : (xs : List DotCall) (i : ℕ) (x : DotCall) → i < length xs → x ≡ get_or xs i x → method_calls_of (map method_call_view (drop i xs)) ≡ method_calls_of (method_call_view x ∷ map method_call_view (drop (i + 1) xs))
method_calls_more xs i x h is = ap method_calls_of (rest_more method_call_view xs i x h is)

pub steps_more : (xs : List Step) (i : ℕ) (x : Step) → i < length xs → x ≡ get_or xs i x → steps_of (map step_view (drop i xs)) ≡ steps_of (step_view x ∷ map step_view (drop (i + 1) xs))
steps_more xs i x h is = ap steps_of (rest_more step_view xs i x h is)

-- one more method call
pub method_calls_one : (x : List ℕ) (o : Option Args) (line : ℕ) (ds : MethodCalls) → method_calls_words (method_call_of x o line ds) ≡ method_calls_words (method_call_of x o line no_method_calls) ++ method_calls_words ds
method_calls_one x None line ds = refl
method_calls_one x (Some es) line ds = ap (λ z. punctuation Dot ∷ ident x ∷ punctuation LeftParen ∷ z) (sym (append_assoc (args_words true es) (punctuation RightParen ∷ []) (method_calls_words ds)))

method_calls_split : (d : MethodCallIs) (ds : List MethodCallIs) → method_calls_words (method_calls_of (d ∷ ds)) ≡ method_calls_words (method_calls_of (d ∷ [])) ++ method_calls_words (method_calls_of ds)
method_calls_split d ds = method_calls_one d.0 d.1.0 d.1.1 (method_calls_of ds)

-- one more turn of the loop over calls
pub calls_step : (xs : List DotCall) (i : ℕ) (x : DotCall) (old new whole : List ℕ) → i < length xs → x ≡ get_or xs i x → old ++ written (method_calls_words (method_calls_of (map method_call_view (drop i xs)))) ≡ whole
    → new ≡ old ++ written (method_calls_words (method_calls_of (method_call_view x ∷ []))) → new ++ written (method_calls_words (method_calls_of (map method_call_view (drop (i + 1) xs)))) ≡ whole
calls_step xs i x old new whole h item before is =
    let one = method_calls_words (method_calls_of (method_call_view x ∷ [])) in
    let rest = method_calls_words (method_calls_of (map method_call_view (drop (i + 1) xs))) in
    ap (λ z. z ++ written rest) is ∙ append_assoc old (written one) (written rest)
    ∙ ap (λ z. old ++ z) (sym (written_both one rest) ∙ ap written (sym (method_calls_split (method_call_view x) (map method_call_view (drop (i + 1) xs)))) ∙ ap (λ z. written (method_calls_words z)) (sym (method_calls_more xs i x h item))) ∙ before

-- a number below zero
pub number_below : (z : ℤ) → le_z (pos 0) z ≡ false → number z ≡ 36 ∷ hexadecimal (cast_unsigned w64 z)
number_below (pos n) h = let never : ⊥ = grind (arith, ints, h) in absurd never
number_below (negsuc n) h = refl

-- what is put word by word
pub ruleset putting = (the_lemmas, append_assoc, written_both)

pub block_more : (xs : List Statement) (i : ℕ) (x : Statement) → i < length xs → x ≡ get_or xs i x → block_of (map statement_view (drop i xs)) ≡ block_of (statement_view x ∷ map statement_view (drop (i + 1) xs))
block_more xs i x h is = ap block_of (rest_more statement_view xs i x h is)

pub arms_more : (xs : List Arm) (i : ℕ) (x : Arm) → i < length xs → x ≡ get_or xs i x → arms_of (map arm_view (drop i xs)) ≡ arms_of (arm_view x ∷ map arm_view (drop (i + 1) xs))
arms_more xs i x h is = ap arms_of (rest_more arm_view xs i x h is)

-- one more arm
pub arms_one : (first : Bool) (a : ArmIs) (rest : Arms) → arms_words first (arm a.0 a.1 rest) ≡ else_word first ++ (arms_words true (arm a.0 a.1 no_arms) ++ arms_words false rest)
arms_one first a rest =
    let inside = condition_words a.0 in
    let body = braces_words (block_words a.1) in
    ap (λ z. else_word first ++ keyword reserved.If ∷ z) (sym (append_assoc inside (body ++ []) (arms_words false rest) ∙ ap (λ z. inside ++ z) (append_assoc body [] (arms_words false rest))))

pub ruleset putting_statements = (putting, statement_lemmas)

-- ---- ends of lines

-- what is written of words but the last blank or newline
init : List Word → List ℕ
init [] = []
init (w ∷ []) = w.bytes
init (w ∷ v ∷ ws) = w.bytes ++ (if w.ends_line then 10 else 32) ∷ init (v ∷ ws)

open_init : (w : Word) (ws : List Word) → Open (w ∷ ws) → written (w ∷ ws) ≡ init (w ∷ ws) ++ 32 ∷ []
unfolding init
open_init w [] h = ap (λ b. w.bytes ++ (if b then 10 else 32) ∷ []) h
open_init w (v ∷ ws) h =
    ap (λ z. w.bytes ++ (if w.ends_line then 10 else 32) ∷ z) (open_init v ws h) ∙ sym (append_assoc w.bytes ((if w.ends_line then 10 else 32) ∷ init (v ∷ ws)) (32 ∷ []))

ended_init : (w : Word) (ws : List Word) → written (ended (w ∷ ws)) ≡ init (w ∷ ws) ++ 10 ∷ []
unfolding init
ended_init w [] = refl
ended_init w (v ∷ ws) =
    ap (λ z. w.bytes ++ (if w.ends_line then 10 else 32) ∷ z) (ended_init v ws) ∙ sym (append_assoc w.bytes ((if w.ends_line then 10 else 32) ∷ init (v ∷ ws)) (10 ∷ []))

cut_at : (front : List ℕ) → take (length (front ++ 32 ∷ []) - 1) (front ++ 32 ∷ []) ≡ front
cut_at front = grind (arith, common_steps)

last_at : (front : List ℕ) → get_or (front ++ 32 ∷ []) (length (front ++ 32 ∷ []) - 1) 0 ≡ 32
last_at front = grind (arith, common_steps)

-- a newline replaces the last blank
pub line_ends : (start : ℕ) (old new : List ℕ) → start < length old → get_or old (length old - 1) 0 ≡ 32 → new ≡ take (length old - 1) old ++ 10 ∷ [] → EndsLine start old new
line_ends start old new some blank is before [] at open_ same = absurd (omega (arith, ap length (same ∙ append-nil before)))
line_ends start old new some blank is before (w ∷ ws) at open_ same =
    let front = before ++ init (w ∷ ws) in
    let all : old ≡ front ++ 32 ∷ [] = same ∙ ap (λ z. before ++ z) (open_init w ws open_) ∙ sym (append_assoc before (init (w ∷ ws)) (32 ∷ [])) in
    let cut : take (length old - 1) old ≡ front = subst (λ z. take (length z - 1) z ≡ front) (sym all) (cut_at front) in
    is ∙ ap (λ z. z ++ 10 ∷ []) cut ∙ append_assoc before (init (w ∷ ws)) (10 ∷ []) ∙ ap (λ z. before ++ z) (sym (ended_init w ws))

-- nothing was put, or no blank is last
pub line_stays : (start : ℕ) (old : List ℕ) → (length old ≤ start) ⊎ (get_or old (length old - 1) 0 ≡ 32 → ⊥) → EndsLine start old old
line_stays start old why before [] at open_ same = same
line_stays start old (inl short) before (w ∷ ws) at open_ same = absurd (omega (arith, ap length (same ∙ ap (λ z. before ++ z) (open_init w ws open_)), length-append before (init (w ∷ ws) ++ 32 ∷ []), length-append (init (w ∷ ws)) (32 ∷ [])))
line_stays start old (inr other) before (w ∷ ws) at open_ same =
    let front = before ++ init (w ∷ ws) in
    let all : old ≡ front ++ 32 ∷ [] = same ∙ ap (λ z. before ++ z) (open_init w ws open_) ∙ sym (append_assoc before (init (w ∷ ws)) (32 ∷ [])) in
    absurd (other (subst (λ z. get_or z (length z - 1) 0 ≡ 32) (sym all) (last_at front)))

-- no line ends after what is put last
open_both : (a b : List Word) → Open a → Open b → Open (a ++ b)
open_both [] b h k = k
open_both (w ∷ []) [] h k = h
open_both (w ∷ []) (v ∷ b) h k = k
open_both (w ∷ v ∷ a) b h k = open_both (v ∷ a) b h k

open_one : (w : Word) (b : List Word) → w.ends_line ≡ false → Open b → Open (w ∷ b)
open_one w [] h k = h
open_one w (v ∷ b) h k = k

open_last : (a : List Word) (w : Word) → w.ends_line ≡ false → Open (a ++ w ∷ [])
open_last [] w h = h
open_last (v ∷ []) w h = h
open_last (v ∷ u ∷ a) w h = open_last (u ∷ a) w h

open_label : (x : Option (List ℕ)) → Open (label_words x)
open_label None = tt
open_label (Some x) = refl

open_comma : (first : Bool) → Open (comma_words first)
open_comma true = tt
open_comma false = refl

mutual
  open_expr : (e : Expr) → Open (expr_words e)
  open_expr (int n) = refl
  open_expr (bool b) = refl
  open_expr (str x) = refl
  open_expr (t.name x line) = refl
  open_expr (call x es line) = open_one (punctuation LeftParen) (args_words true es ++ punctuation RightParen ∷ []) refl (open_last (args_words true es) (punctuation RightParen) refl)
  open_expr (method_calls e ds) = open_both (expr_words e) (method_calls_words ds) (open_expr e) (open_method_calls ds)
  open_expr (minus e line) = open_one (punctuation Minus) (expr_words e) refl (open_expr e)
  open_expr (not_ e line) = open_one (punctuation Not) (expr_words e) refl (open_expr e)
  open_expr (chain e ss) = open_both (expr_words e) (steps_words ss) (open_expr e) (open_steps ss)
  open_expr (compare op a b line) = open_both (expr_words a) (punctuation (operator_kind op) ∷ expr_words b) (open_expr a) (open_one (punctuation (operator_kind op)) (expr_words b) refl (open_expr b))
  open_expr (conditional c a b line) =
      open_both (expr_words c) (punctuation Question ∷ (expr_words a ++ punctuation Colon ∷ expr_words b)) (open_expr c)
      (open_one (punctuation Question) (expr_words a ++ punctuation Colon ∷ expr_words b) refl (open_both (expr_words a) (punctuation Colon ∷ expr_words b) (open_expr a) (open_one (punctuation Colon) (expr_words b) refl (open_expr b))))
  open_expr (group e) = open_one (punctuation LeftParen) (expr_words e ++ punctuation RightParen ∷ []) refl (open_last (expr_words e) (punctuation RightParen) refl)

  open_method_calls : (ds : MethodCalls) → Open (method_calls_words ds)
  open_method_calls no_method_calls = tt
  open_method_calls (method x line ds) = open_one (ident x) (method_calls_words ds) refl (open_method_calls ds)
  open_method_calls (method_call x es line ds) =
      open_one (punctuation LeftParen) (args_words true es ++ punctuation RightParen ∷ method_calls_words ds) refl
      (open_both (args_words true es) (punctuation RightParen ∷ method_calls_words ds) (open_args true es) (open_one (punctuation RightParen) (method_calls_words ds) refl (open_method_calls ds)))

  open_args : (first : Bool) (es : Args) → Open (args_words first es)
  open_args first no_args = tt
  open_args first (arg x e es) =
      open_both (comma_words first) (label_words x ++ (expr_words e ++ args_words false es)) (open_comma first)
      (open_both (label_words x) (expr_words e ++ args_words false es) (open_label x) (open_both (expr_words e) (args_words false es) (open_expr e) (open_args false es)))

  open_steps : (ss : Steps) → Open (steps_words ss)
  open_steps no_steps = tt
  open_steps (step op e line ss) = open_one (punctuation (operator_kind op)) (expr_words e ++ steps_words ss) refl (open_both (expr_words e) (steps_words ss) (open_expr e) (open_steps ss))

open_braces : (inside : List Word) → Open (braces_words inside)
open_braces inside = open_one (punctuation LeftBrace) (inside ++ punctuation RightBrace ∷ []) refl (open_last inside (punctuation RightBrace) refl)

open_else_word : (first : Bool) → Open (else_word first)
open_else_word true = tt
open_else_word false = refl

open_arms : (first : Bool) (arms : Arms) → Open (arms_words first arms)
open_arms first no_arms = tt
open_arms first (arm e b rest) =
    let body = braces_words (block_words b) ++ arms_words false rest in
    open_both (else_word first) (keyword reserved.If ∷ (condition_words e ++ body)) (open_else_word first)
    (open_one (keyword reserved.If) (condition_words e ++ body) refl
    (open_both (condition_words e) body (open_one (punctuation LeftParen) (expr_words e ++ punctuation RightParen ∷ []) refl (open_last (expr_words e) (punctuation RightParen) refl))
    (open_both (braces_words (block_words b)) (arms_words false rest) (open_braces (block_words b)) (open_arms false rest))))

open_else : (other : Else) → Open (else_words other)
open_else no_else = tt
open_else (else_ b) = open_one (keyword reserved.Else) (braces_words (block_words b)) refl (open_braces (block_words b))

open_before_braces : (a inside : List Word) → Open (a ++ braces_words inside)
open_before_braces [] inside = open_braces inside
open_before_braces (w ∷ []) inside = open_braces inside
open_before_braces (w ∷ v ∷ a) inside = open_before_braces (v ∷ a) inside

pub open_kind : (k : Kind) → Open (kind_words k)
open_kind (global x e) = open_one (punctuation Assign) (expr_words e) refl (open_expr e)
open_kind (assign x e) = open_one (punctuation Assign) (expr_words e) refl (open_expr e)
open_kind (return e) = open_one (keyword reserved.Return) (expr_words e) refl (open_expr e)
open_kind (if_ arms other) = open_both (arms_words true arms) (else_words other) (open_arms true arms) (open_else other)
open_kind (while e b) = open_before_braces (keyword reserved.While ∷ condition_words e) (block_words b)
open_kind (for x a b c d) = open_before_braces (keyword reserved.For ∷ head_words x a b c) (block_words d)
open_kind (value e) = open_expr e

pub view_kind : (q : Statement) → (statement_view q).0 ≡ kind_view q.kind
view_kind q = search (rules, statement_lemmas)

pub statement_put : (k : Kind) (old mid new : List ℕ) → mid ≡ old ++ written (kind_words k) → EndsLine (length old) mid new → new ≡ old ++ written (ended (kind_words k))
statement_put k old mid new is ends = ends old (kind_words k) refl (open_kind k) is

open_back : (a : List Word) (w : Word) (b : List Word) → Open (w ∷ b) → Open (a ++ w ∷ b)
open_back [] w b h = h
open_back (v ∷ []) w b h = h
open_back (v ∷ u ∷ a) w b h = open_back (u ∷ a) w b h

pub open_function : (f : Function) → Open (function_words f)
open_function f =
    let rest = braces_words (block_words f.body) in
    open_one (punctuation LeftParen) (params_words true f.params ++ punctuation RightParen ∷ rest) refl (open_back (params_words true f.params) (punctuation RightParen) rest (open_one (punctuation RightParen) rest refl (open_braces (block_words f.body))))

pub function_put : (f : Function) (old mid new : List ℕ) → mid ≡ old ++ written (function_words f) → EndsLine (length old) mid new → new ≡ old ++ written (ended (function_words f))
function_put f old mid new is ends = ends old (function_words f) refl (open_function f) is

pub params_more : (xs : List Parameter) (i : ℕ) (x : Parameter) → i < length xs → x ≡ get_or xs i x → drop i xs ≡ x ∷ drop (i + 1) xs
params_more xs i x h is = rw (add-one, drop-cons xs i x) (ap (λ z. z ∷ drop (suc i) xs) (sym is))

pub functions_more : (xs : List Code) (i : ℕ) (x : Code) → i < length xs → x ≡ get_or xs i x → map function_view (drop i xs) ≡ function_view x ∷ map function_view (drop (i + 1) xs)
functions_more xs i x h is = rest_more function_view xs i x h is
