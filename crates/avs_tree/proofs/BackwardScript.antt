-- What may come in a script after a token may come with it.
use Rattle.std.proofs.Common.{◌≡◌, refl, sym, ap, subst, ◌∙◌, ℕ, true, false, inl, inr, List, [], ◌∷◌, ◌++◌, Option, Some, None, if◌then◌else◌}
use Rattle.avs_tree.specs.Lexeme.{Lexemes, line_of, peek, content_at, tail, is_punctuation}
use Rattle.avs_tree.specs.Tree.{Expr, Kind, global, assign, return, if_, while, for, value, Arms, no_arms, arm, Else, no_else, else_, Block, no_more, then_, Function, Script, ends_with_brace}
use Rattle.avs_tree.specs.Tree as t
use Rattle.avs_tree.specs.View.{StatementIs, ArmIs, arms_of}
use Rattle.avs_tree.specs.Grammar.{IsPunctuation, IsKeyword, Derives, Newlines, Separates, DerivesKind, DerivesElseIfs, DerivesElse}
use Rattle.avs_tree.specs.declared.symbol.Symbol.{Symbol}
use Rattle.avs_tree.specs.declared.symbol.Symbol.TheVariants as s
use Rattle.avs_tree.specs.declared.words.Keyword.TheVariants as w
use Rattle.avs_tree.specs.declared.symbol.Punctuation.TheVariants as m
use Rattle.avs_tree.specs.Machine.{operand_next, keeps, leaves, refused, ExprStep, operand_by, operand, expr_step, Use, to_value, to_global, to_assign, to_return, to_arm, to_while, to_first, to_last, to_step, Owner, arm_of, else_of, while_of, for_of, Levels, top, in_function, level, StatementState, statement_next, in_expression, parenthesis_next, braces_next, after_arm, after_else, after_global, after_global_name, after_for, for_opened, after_for_name, State, at, at_head, stuck, goes, close_by, end_by, in_statement, function_by, items_by, done_by, assigned, used, expression_by, body_by, arms_by, other_by, global_by, for_by, advance_statement, advance}
use Rattle.avs_tree.proofs.ScriptMeaning.{all_arms, function_with, ArmsIn, OwnedIn, TopNext, Rest, Next, Done, Bodied, Assigns, Stepped, Used, OperandNext, Conditioned, ForNamed, Statement, Completion, AfterStep}
use Rattle.avs_tree.proofs.Tokens.{next_is, is_next, is_here, on_if}
use Rattle.avs_tree.proofs.ExprMeaning.{After}
use Rattle.avs_tree.proofs.Backward.{back_operand_by, back_expr_step}
use Rattle.avs_tree.proofs.Blocks.{block_so_far, arms_so_far, arms_then, no_newlines, newline_then, separates_of, rest_ends, rest_then}
use Rattle.avs_tree.proofs.BackwardHead.{back_function, back_head}

module _ (tree : Script) where
  -- ---- `}` and the end

  back_owner : (ss : List StatementIs) (ls : Levels) (ts : Lexemes) → IsPunctuation m.RightBrace ts (tail ts) → AfterStep tree (close_by ss ls) ts → Rest tree ls ss ts
  back_owner ss (top gs) ts brace h = absurd h
  back_owner ss (in_function y ps line before gs) ts brace h =
      rest_ends tree (in_function y ps line before gs) ss ts (tail ts, brace, subst (λ b. TopNext tree (gs ++ function_with y ps line b ∷ []) before (tail ts)) (sym (block_so_far ss)) h)
  back_owner ss (level (arm_of arms e) line before ls) ts brace h =
      rest_ends tree (level (arm_of arms e) line before ls) ss ts (tail ts, brace, subst (λ b. OwnedIn (Next tree ls) (arm_of arms e) line before b (tail ts)) (sym (block_so_far ss)) h)
  back_owner ss (level (else_of arms) line before ls) ts brace h =
      rest_ends tree (level (else_of arms) line before ls) ss ts (tail ts, brace, subst (λ b. OwnedIn (Next tree ls) (else_of arms) line before b (tail ts)) (sym (block_so_far ss)) h)
  back_owner ss (level (while_of e) line before ls) ts brace h =
      rest_ends tree (level (while_of e) line before ls) ss ts (tail ts, brace, subst (λ b. OwnedIn (Next tree ls) (while_of e) line before b (tail ts)) (sym (block_so_far ss)) h)
  back_owner ss (level (for_of y a b c) line before ls) ts brace h =
      rest_ends tree (level (for_of y a b c) line before ls) ss ts (tail ts, brace, subst (λ d. OwnedIn (Next tree ls) (for_of y a b c) line before d (tail ts)) (sym (block_so_far ss)) h)

  back_end : (ss : List StatementIs) (ls : Levels) (ts : Lexemes) → IsPunctuation m.End ts (tail ts) → AfterStep tree (end_by ss ls) ts → Rest tree ls ss ts
  back_end ss (top gs) ts is (last, same) =
      rest_ends tree (top gs) ss ts (subst (λ w. IsPunctuation m.End ts w) last is, ap (λ b. record { functions = gs; statements = b }) (block_so_far ss) ∙ same)
  back_end ss _ ts is h = absurd h

  back_function_word : (ss : List StatementIs) (ls : Levels) (ts : Lexemes) → IsKeyword w.Function ts (tail ts) → AfterStep tree (function_by (line_of ts) ss ls) ts → Rest tree ls ss ts
  back_function_word ss (top gs) ts is h = back_function tree gs ss ts is h
  back_function_word ss _ ts is h = absurd h

  -- ---- statements

  to_next : (ls : Levels) (ss : List StatementIs) (ts : Lexemes) → Rest tree ls ss ts → Next tree ls ss ts
  to_next ls ss ts rest = (ts, no_newlines ts, rest)

  rest_next : (k : Kind) (ls : Levels) (ss : List StatementIs) (ts us : Lexemes) → ends_with_brace k ≡ true → DerivesKind k ts us → Next tree ls (ss ++ (k, line_of ts) ∷ []) us → Rest tree ls ss ts
  rest_next k ls ss ts us is kind (vs, nls, rest) = rest_then tree k ls ss ts us vs kind (subst (λ b. Separates b us vs) (sym is) (separates_of us vs nls)) rest

  rest_done : (k : Kind) (ls : Levels) (ss : List StatementIs) (ts us : Lexemes) → ends_with_brace k ≡ false → DerivesKind k ts us → Done tree ls ss k (line_of ts) us → Rest tree ls ss ts
  rest_done k ls ss ts us is kind (vs, sep, rest) = rest_then tree k ls ss ts us vs kind (subst (λ b. Separates b us vs) (sym is) sep) rest

  back_assigns : (ls : Levels) (ss : List StatementIs) (e : Expr) (ts us : Lexemes) → Derives 8 e ts us → Assigns tree ls ss (line_of ts) e us → Rest tree ls ss ts
  back_assigns ls ss (t.name y k) ts us d (vs, ws, f, assign_, d', done) = rest_done (assign y f) ls ss ts ws refl (us, vs, (k, d), assign_, d') done
  back_assigns ls ss _ ts us d h = absurd h

  back_value : (ls : Levels) (ss : List StatementIs) (ts : Lexemes) → OperandNext tree ls ss (line_of ts) to_value ts → Rest tree ls ss ts
  back_value ls ss ts (e, us, d, inl done) = rest_done (value e) ls ss ts us refl d done
  back_value ls ss ts (e, us, d, inr h) = back_assigns ls ss e ts us d h

  back_operand : (ls : Levels) (ss : List StatementIs) (x : ExprStep) (line : ℕ) (ts : Lexemes) → AfterStep tree (in_statement x to_value line ss ls) ts → After (Used tree ls ss line to_value) x ts
  back_operand ls ss refused line ts h = h
  back_operand ls ss (keeps now fs) line ts h = h
  back_operand ls ss (leaves e) line ts h = absurd h

  back_if : (ls : Levels) (ss : List StatementIs) (ts : Lexemes) → IsKeyword w.If ts (tail ts) → Conditioned tree ls ss (line_of ts) (to_arm []) (tail ts) → Rest tree ls ss ts
  back_if ls ss ts is (c1, left, (e, c2, d, (v, right, (t1, t2, nls, lb, (t3, nls', (b, t4, inside, (v', rb, (rest, o, us, vs, elses, els, next)))))))) =
      rest_next (if_ (arm e b rest) o) ls ss ts vs refl (tail ts, v, v', us, is, (c1, c2, left, d, right), (t1, t2, t3, t4, nls, lb, nls', inside, rb), elses, els) next

  back_while : (ls : Levels) (ss : List StatementIs) (ts : Lexemes) → IsKeyword w.While ts (tail ts) → Conditioned tree ls ss (line_of ts) to_while (tail ts) → Rest tree ls ss ts
  back_while ls ss ts is (c1, left, (e, c2, d, (v, right, (t1, t2, nls, lb, (t3, nls', (b, t4, inside, (v', rb, next))))))) =
      rest_next (while e b) ls ss ts v' refl (tail ts, v, is, (c1, c2, left, d, right), (t1, t2, t3, t4, nls, lb, nls', inside, rb)) next

  back_for : (ls : Levels) (ss : List StatementIs) (ts : Lexemes) → IsKeyword w.For ts (tail ts) → Statement tree after_for (line_of ts) ss ls (tail ts) → Rest tree ls ss ts
  back_for ls ss ts is (h1, left, (x, h2, nm, (h3, assign_, (a, h4, first, (h5, h6, b, comma, last, (c, h7, step, (v, right, (t1, t2, nls, lb, (t3, nls', (d, t4, inside, (v', rb, next))))))))))) =
      rest_next (for x a b c d) ls ss ts v' refl (tail ts, v, is, (h1, h2, h3, h4, h5, h6, h7, left, nm, assign_, first, comma, last, step, right), (t1, t2, t3, t4, nls, lb, nls', inside, rb)) next

  back_items : (ls : Levels) (ss : List StatementIs) (ts : Lexemes) (x : Option Symbol) → peek ts ≡ x
      → AfterStep tree (items_by x (operand_by x [] (content_at ts) (line_of ts)) (line_of ts) ss ls) ts → Next tree ls ss ts
  back_items ls ss ts (Some (s.Punctuation m.Newline)) is (us, nls, rest) = (us, newline_then ts us is nls, rest)
  back_items ls ss ts (Some (s.Punctuation m.RightBrace)) is h = to_next ls ss ts (back_owner ss ls ts (is_next ts (s.Punctuation m.RightBrace) is) h)
  back_items ls ss ts (Some (s.Punctuation m.End)) is h = to_next ls ss ts (back_end ss ls ts (is_next ts (s.Punctuation m.End) is) h)
  back_items ls ss ts (Some (s.Keyword w.If)) is h = to_next ls ss ts (back_if ls ss ts (is_next ts (s.Keyword w.If) is) h)
  back_items ls ss ts (Some (s.Keyword w.While)) is h = to_next ls ss ts (back_while ls ss ts (is_next ts (s.Keyword w.While) is) h)
  back_items ls ss ts (Some (s.Keyword w.For)) is h = to_next ls ss ts (back_for ls ss ts (is_next ts (s.Keyword w.For) is) h)
  back_items ls ss ts (Some (s.Keyword w.Function)) is h = to_next ls ss ts (back_function_word ss ls ts (is_next ts (s.Keyword w.Function) is) h)
  back_items ls ss ts (Some (s.Keyword w.Return)) is (e, us, d, done) = to_next ls ss ts (rest_done (return e) ls ss ts us refl (tail ts, is_next ts (s.Keyword w.Return) is, d) done)
  back_items ls ss ts (Some (s.Keyword w.Global)) is (y, us, nm, (vs, assign_, (e, ws, d, done))) =
      to_next ls ss ts (rest_done (global y e) ls ss ts ws refl (tail ts, us, vs, is_next ts (s.Keyword w.Global) is, nm, assign_, d) done)
  back_items ls ss ts x is h =
      to_next ls ss ts (back_value ls ss ts (back_operand_by (Used tree ls ss (line_of ts) to_value) [] ts x is (back_operand ls ss (operand_by x [] (content_at ts) (line_of ts)) (line_of ts) ts h)))

  -- ---- after an expression

  back_done : (ls : Levels) (ss : List StatementIs) (k : Kind) (line : ℕ) (ts : Lexemes) (x : Option Symbol) → peek ts ≡ x → AfterStep tree (done_by x (ss ++ (k, line) ∷ []) line ls) ts → Done tree ls ss k line ts
  back_done ls ss k line ts (Some (s.Punctuation m.Newline)) is (us, nls, rest) = (us, inl (tail ts, is_next ts (s.Punctuation m.Newline) is, nls), rest)
  back_done ls ss k line ts (Some (s.Punctuation m.RightBrace)) is h =
      let here = is_next ts (s.Punctuation m.RightBrace) is in (ts, inr (inr (tail ts, inl here), refl), back_owner (ss ++ (k, line) ∷ []) ls ts here h)
  back_done ls ss k line ts (Some (s.Punctuation m.End)) is h =
      let here = is_next ts (s.Punctuation m.End) is in (ts, inr (inr (tail ts, inr here), refl), back_end (ss ++ (k, line) ∷ []) ls ts here h)
  back_done ls ss k line ts _ is h = absurd h

  back_assigned : (ls : Levels) (ss : List StatementIs) (line : ℕ) (e : Expr) (ts : Lexemes) → IsPunctuation m.Assign ts (tail ts) → AfterStep tree (assigned e line ss ls) ts → Assigns tree ls ss line e ts
  back_assigned ls ss line (t.name y k) ts is (f, vs, d, done) = (tail ts, vs, f, is, d, done)
  back_assigned ls ss line _ ts is h = absurd h

  back_used : (ls : Levels) (ss : List StatementIs) (line : ℕ) (use_ : Use) (e : Expr) (ts : Lexemes) → AfterStep tree (used use_ e line ss ls ts) ts → Used tree ls ss line use_ e ts
  back_used ls ss line to_value e ts h =
      on_if (λ z. AfterStep tree z ts) (Used tree ls ss line to_value e ts) (is_punctuation m.Assign ts) (assigned e line ss ls) (done_by (peek ts) (ss ++ (value e, line) ∷ []) line ls)
      (λ is h. inr (back_assigned ls ss line e ts (is_here m.Assign ts is) h)) (λ _ h. inl (back_done ls ss (value e) line ts (peek ts) refl h)) h
  back_used ls ss line (to_global y) e ts h = back_done ls ss (global y e) line ts (peek ts) refl h
  back_used ls ss line (to_assign y) e ts h = back_done ls ss (assign y e) line ts (peek ts) refl h
  back_used ls ss line to_return e ts h = back_done ls ss (return e) line ts (peek ts) refl h
  back_used ls ss line (to_arm arms) e ts h =
      on_if (λ z. AfterStep tree z ts) (Used tree ls ss line (to_arm arms) e ts) (is_punctuation m.RightParen ts) (goes (at (braces_next (arm_of arms e)) line ss ls)) stuck
      (λ is h. (tail ts, is_here m.RightParen ts is, h)) (λ _ h. absurd h) h
  back_used ls ss line to_while e ts h =
      on_if (λ z. AfterStep tree z ts) (Used tree ls ss line to_while e ts) (is_punctuation m.RightParen ts) (goes (at (braces_next (while_of e)) line ss ls)) stuck
      (λ is h. (tail ts, is_here m.RightParen ts is, h)) (λ _ h. absurd h) h
  back_used ls ss line (to_first y) e ts h =
      on_if (λ z. AfterStep tree z ts) (Used tree ls ss line (to_first y) e ts) (is_punctuation m.Comma ts) (goes (at (in_expression (to_last y e) operand_next []) line ss ls)) stuck
      (λ is (b, vs, d, h). (tail ts, vs, b, is_here m.Comma ts is, d, h)) (λ _ h. absurd h) h
  back_used ls ss line (to_last y a) e ts h =
      on_if (λ z. AfterStep tree z ts) (Stepped tree ls ss line y a e ts) (is_punctuation m.Comma ts) (goes (at (in_expression (to_step y a e) operand_next []) line ss ls))
      (if is_punctuation m.RightParen ts then goes (at (braces_next (for_of y a e None)) line ss ls) else stuck)
      (λ is (c, us, d, h). (Some c, us, (tail ts, is_here m.Comma ts is, d), h))
      (λ _ h. on_if (λ z. AfterStep tree z ts) (Stepped tree ls ss line y a e ts) (is_punctuation m.RightParen ts) (goes (at (braces_next (for_of y a e None)) line ss ls)) stuck
      (λ is h. (None, ts, refl, (tail ts, is_here m.RightParen ts is, h))) (λ _ h. absurd h) h) h
  back_used ls ss line (to_step y a b) e ts h =
      on_if (λ z. AfterStep tree z ts) (Used tree ls ss line (to_step y a b) e ts) (is_punctuation m.RightParen ts) (goes (at (braces_next (for_of y a b (Some e))) line ss ls)) stuck
      (λ is h. (tail ts, is_here m.RightParen ts is, h)) (λ _ h. absurd h) h

  back_expression : (x : ExprStep) (use_ : Use) (line : ℕ) (ss : List StatementIs) (ls : Levels) (ts : Lexemes) → AfterStep tree (expression_by x use_ line ss ls ts) ts → After (Used tree ls ss line use_) x ts
  back_expression refused use_ line ss ls ts h = h
  back_expression (keeps now fs) use_ line ss ls ts h = h
  back_expression (leaves e) use_ line ss ls ts h = back_used ls ss line use_ e ts h

  -- ---- braces

  back_body : (o : Owner) (line : ℕ) (ss : List StatementIs) (ls : Levels) (ts : Lexemes) (x : Option Symbol) → peek ts ≡ x → AfterStep tree (body_by x o line ss ls) ts → Bodied tree ls ss line o ts
  back_body o line ss ls ts (Some (s.Punctuation m.Newline)) is (us, vs, nls, left, next) = (us, vs, newline_then ts us is nls, left, next)
  back_body o line ss ls ts (Some (s.Punctuation m.LeftBrace)) is h = (ts, tail ts, no_newlines ts, is_next ts (s.Punctuation m.LeftBrace) is, h)
  back_body o line ss ls ts _ is h = absurd h

  more_newlines : (line : ℕ) (ss : List StatementIs) (ls : Levels) (arms : List ArmIs) (rest : Arms) (o : Else) (ts us vs : Lexemes) → peek ts ≡ Some (s.Punctuation m.Newline) → DerivesElseIfs rest (tail ts) us → DerivesElse o us vs
      → Next tree ls (ss ++ (if_ (all_arms arms rest) o, line) ∷ []) vs → ArmsIn (Next tree ls) line ss arms ts
  more_newlines line ss ls arms no_arms no_else ts us vs is same same' (ws, nls, rest) =
      (no_arms, no_else, ts, ts, refl, refl, (ws, newline_then ts ws is (subst (λ z. Newlines z ws) (sym (same ∙ same')) nls), rest))
  more_newlines line ss ls arms no_arms (else_ b) ts us vs is same (t1, t2, nls, els, braces) next =
      (no_arms, else_ b, ts, vs, refl, (t1, t2, newline_then ts t1 is (subst (λ z. Newlines z t1) (sym same) nls), els, braces), next)
  more_newlines line ss ls arms (arm e b rest) o ts us vs is (t1, t2, t3, t4, t5, nls, els, if__, cond, braces, more) els' next =
      (arm e b rest, o, us, vs, (t1, t2, t3, t4, t5, newline_then ts t1 is nls, els, if__, cond, braces, more), els', next)

  back_else : (line : ℕ) (ss : List StatementIs) (ls : Levels) (arms : List ArmIs) (ts : Lexemes) → IsKeyword w.Else ts (tail ts) → Statement tree (after_else arms) line ss ls (tail ts) → ArmsIn (Next tree ls) line ss arms ts
  back_else line ss ls arms ts is (inl (us, if__, (c1, left, (e, c2, d, (v, right, (t1, t2, nls, lb, (t3, nls', (b, t4, inside, (v', rb, (rest, o, u1, u2, elses, els, next)))))))))) = (
    arm e b rest,
    o,
    u1,
    u2,
    (ts, tail ts, us, v, v', no_newlines ts, is, if__, (c1, c2, left, d, right), (t1, t2, t3, t4, nls, lb, nls', inside, rb), elses),
    els,
    subst (λ y. Next tree ls (ss ++ (if_ y o, line) ∷ []) u2) (arms_then arms e b rest) next,
  )
  back_else line ss ls arms ts is (inr (t1, t2, nls, lb, (t3, nls', (b, t4, inside, (v', rb, next))))) = (
    no_arms,
    else_ b,
    ts,
    v',
    refl,
    (ts, tail ts, no_newlines ts, is, (t1, t2, t3, t4, nls, lb, nls', inside, rb)),
    subst (λ y. Next tree ls (ss ++ (if_ y (else_ b), line) ∷ []) v') (sym (arms_so_far arms)) next,
  )

  no_else_out : (line : ℕ) (ss : List StatementIs) (ls : Levels) (arms : List ArmIs) (ts : Lexemes) → Next tree ls (ss ++ (if_ (arms_of arms) no_else, line) ∷ []) ts → ArmsIn (Next tree ls) line ss arms ts
  no_else_out line ss ls arms ts next = (no_arms, no_else, ts, ts, refl, refl, subst (λ z. Next tree ls (ss ++ (if_ z no_else, line) ∷ []) ts) (sym (arms_so_far arms)) next)

  back_arms : (line : ℕ) (ss : List StatementIs) (ls : Levels) (arms : List ArmIs) (ts : Lexemes) (x : Option Symbol) → peek ts ≡ x
      → AfterStep tree (arms_by x (operand_by x [] (content_at ts) (line_of ts)) (line_of ts) arms line ss ls) ts → ArmsIn (Next tree ls) line ss arms ts
  back_arms line ss ls arms ts (Some (s.Punctuation m.Newline)) is (rest, o, us, vs, elses, els, next) = more_newlines line ss ls arms rest o ts us vs is elses els next
  back_arms line ss ls arms ts (Some (s.Keyword w.Else)) is h = back_else line ss ls arms ts (is_next ts (s.Keyword w.Else) is) h
  back_arms line ss ls arms ts x is h = no_else_out line ss ls arms ts (back_items ls (ss ++ (if_ (arms_of arms) no_else, line) ∷ []) ts x is h)

  back_other : (line : ℕ) (ss : List StatementIs) (ls : Levels) (arms : List ArmIs) (ts : Lexemes) (x : Option Symbol) → peek ts ≡ x → AfterStep tree (other_by x arms line ss ls) ts → Statement tree (after_else arms) line ss ls ts
  back_other line ss ls arms ts (Some (s.Keyword w.If)) is h = inl (tail ts, is_next ts (s.Keyword w.If) is, h)
  back_other line ss ls arms ts x is h = inr (back_body (else_of arms) line ss ls ts x is h)

  back_global : (line : ℕ) (ss : List StatementIs) (ls : Levels) (ts : Lexemes) (x : Option Symbol) → peek ts ≡ x → AfterStep tree (global_by x (content_at ts) line ss ls) ts → Statement tree after_global line ss ls ts
  back_global line ss ls ts (Some s.Name) is h = (content_at ts, tail ts, (line_of ts, next_is ts s.Name is), h)
  back_global line ss ls ts _ is h = absurd h

  back_for_name : (line : ℕ) (ss : List StatementIs) (ls : Levels) (ts : Lexemes) (x : Option Symbol) → peek ts ≡ x → AfterStep tree (for_by x (content_at ts) line ss ls) ts → ForNamed tree ls ss line ts
  back_for_name line ss ls ts (Some s.Name) is h = (content_at ts, tail ts, (line_of ts, next_is ts s.Name is), h)
  back_for_name line ss ls ts _ is h = absurd h

  back_statement : (here : StatementState) (line : ℕ) (ss : List StatementIs) (ls : Levels) (ts : Lexemes) → AfterStep tree (advance_statement here line ss ls ts) ts → Statement tree here line ss ls ts
  unfolding operand
  back_statement statement_next line ss ls ts h = back_items ls ss ts (peek ts) refl h
  back_statement (in_expression use_ now fs) line ss ls ts h =
      back_expr_step (Used tree ls ss line use_) now fs ts (back_expression (expr_step now fs ts) use_ line ss ls ts h)
  back_statement (parenthesis_next use_) line ss ls ts h =
      on_if (λ z. AfterStep tree z ts) (Statement tree (parenthesis_next use_) line ss ls ts) (is_punctuation m.LeftParen ts) (goes (at (in_expression use_ operand_next []) line ss ls)) stuck
      (λ is h. (tail ts, is_here m.LeftParen ts is, h)) (λ _ h. absurd h) h
  back_statement (braces_next o) line ss ls ts h = back_body o line ss ls ts (peek ts) refl h
  back_statement (after_arm arms) line ss ls ts h = back_arms line ss ls arms ts (peek ts) refl h
  back_statement (after_else arms) line ss ls ts h = back_other line ss ls arms ts (peek ts) refl h
  back_statement after_global line ss ls ts h = back_global line ss ls ts (peek ts) refl h
  back_statement (after_global_name y) line ss ls ts h =
      on_if (λ z. AfterStep tree z ts) (Statement tree (after_global_name y) line ss ls ts) (is_punctuation m.Assign ts) (goes (at (in_expression (to_global y) operand_next []) line ss ls)) stuck
      (λ is h. (tail ts, is_here m.Assign ts is, h)) (λ _ h. absurd h) h
  back_statement after_for line ss ls ts h =
      on_if (λ z. AfterStep tree z ts) (Statement tree after_for line ss ls ts) (is_punctuation m.LeftParen ts) (goes (at for_opened line ss ls)) stuck (λ is h. (tail ts, is_here m.LeftParen ts is, h)) (λ _ h. absurd h) h
  back_statement for_opened line ss ls ts h = back_for_name line ss ls ts (peek ts) refl h
  back_statement (after_for_name y) line ss ls ts h =
      on_if (λ z. AfterStep tree z ts) (Statement tree (after_for_name y) line ss ls ts) (is_punctuation m.Assign ts) (goes (at (in_expression (to_first y) operand_next []) line ss ls)) stuck
      (λ is h. (tail ts, is_here m.Assign ts is, h)) (λ _ h. absurd h) h

  -- What may come after the token is taken may come with it, and nothing is lost by a refusal.
  pub back_advance : (state : State) (ts : Lexemes) → AfterStep tree (advance state ts) ts → Completion tree state ts
  back_advance (at here line ss ls) ts h = back_statement here line ss ls ts h
  back_advance (at_head here line ss gs) ts h = back_head tree here line ss gs ts h
