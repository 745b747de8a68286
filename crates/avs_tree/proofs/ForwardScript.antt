-- Nothing that may come in a script is lost at a token.
use Rattle.std.proofs.Common.{◌≡◌, refl, sym, ap, subst, ◌∙◌, ℕ, ◌<◌, arith, true, inl, inr, List, [], ◌∷◌, ◌++◌, Option, Some, None, if◌then◌else◌}
use Rattle.avs_tree.specs.Lexeme.{Lexemes, line_of, peek, content_at, tail, punctuation_by, is_punctuation}
use Rattle.avs_lex.specs.Spelling.{Text}
use Rattle.avs_tree.specs.Tree.{Expr, Kind, global, assign, return, if_, while, for, value, Arms, no_arms, arm, Else, no_else, else_, Block, no_more, then_, Function, Script, ends_with_brace}
use Rattle.avs_tree.specs.Tree as t
use Rattle.avs_tree.specs.View.{StatementIs, ArmIs, arms_of, block_of}
use Rattle.avs_tree.specs.Grammar.{IsPunctuation, Newlines, Separates, Condition, Braces, DerivesKind, DerivesElseIfs, DerivesElse, DerivesAll}
use Rattle.avs_tree.specs.declared.symbol.Symbol.{Symbol}
use Rattle.avs_tree.specs.declared.symbol.Symbol.TheVariants as s
use Rattle.avs_tree.specs.declared.words.Keyword.TheVariants as w
use Rattle.avs_tree.specs.declared.symbol.Punctuation.TheVariants as m
use Rattle.avs_tree.specs.declared.tree.Operator.TheVariants as o
use Rattle.avs_tree.specs.Machine.{keeps, leaves, refused, ExprStep, operand_by, operand, reach, expr_step, Use, to_value, to_global, to_assign, to_return, to_arm, to_while, to_first, to_last, to_step, Owner, arm_of, else_of, while_of, for_of, Levels, top, in_function, level, StatementState, statement_next, in_expression, parenthesis_next, braces_next, after_arm, after_else, after_global, after_global_name, after_for, for_opened, after_for_name, State, at, at_head, close_by, items_by, done_by, assigned, used, expression_by, body_by, arms_by, other_by, advance_statement, advance}
use Rattle.avs_tree.proofs.ScriptMeaning.{all_block, all_arms, function_with, OwnedIn, TopNext, Closed, Rest, Next, Done, Bodied, Assigns, Used, OperandNext, Conditioned, Statement, Completion, AfterStep}
use Rattle.avs_tree.proofs.ExprMeaning.{After, Formed}
use Rattle.avs_tree.proofs.Forward.{reach_is, on_operand_next, on_expr_step}
use Rattle.avs_tree.proofs.Blocks.{block_so_far, arms_so_far, arms_then, newlines_cases, next_of, RestCase, the_end, a_statement, a_function, rest_case}
use Rattle.avs_tree.proofs.ForwardHead.{function_in, on_head}

-- Operators stand at their precedences.
abbrev pub FormedStatement : StatementState → Type 0
FormedStatement (in_expression use_ now fs) = Formed fs
FormedStatement _ = Unit {0}

abbrev pub FormedState : State → Type 0
FormedState (at here line ss ls) = FormedStatement here
FormedState (at_head here line ss gs) = Unit {0}

module _ (tree : Script) where
  -- ---- `}` and the end

  on_owner : (o : Owner) (line : ℕ) (before ss : List StatementIs) (ls : Levels) (ts : Lexemes) → OwnedIn (Next tree ls) o line before (block_of ss) (tail ts)
      → AfterStep tree (close_by ss (level o line before ls)) ts
  on_owner (arm_of arms e) line before ss ls ts h = h
  on_owner (else_of arms) line before ss ls ts h = h
  on_owner (while_of e) line before ss ls ts h = h
  on_owner (for_of y a b c) line before ss ls ts h = h

  on_closed : (ls : Levels) (ss : List StatementIs) (operand : ExprStep) (line : ℕ) (ts : Lexemes) → Closed tree ls (all_block ss no_more) ts → AfterStep tree (items_by (peek ts) operand line ss ls) ts
  on_closed (top gs) ss operand line ts ((l, (z, is)), same) =
      subst (λ w. AfterStep tree (items_by (peek w) operand line ss (top gs)) w) (sym is) (refl, ap (λ b. record { functions = gs; statements = b }) (sym (block_so_far ss)) ∙ same)
  on_closed (in_function y ps l before gs) ss operand line ts (us, (k, (z, is)), h) =
      subst (λ w. AfterStep tree (items_by (peek w) operand line ss (in_function y ps l before gs)) w) (sym is)
      (subst (λ b. TopNext tree (gs ++ function_with y ps l b ∷ []) before us) (block_so_far ss) h)
  on_closed (level o l before ls) ss operand line ts (us, (k, (z, is)), h) =
      subst (λ w. AfterStep tree (items_by (peek w) operand line ss (level o l before ls)) w) (sym is)
      (on_owner o l before ss ls ((s.Punctuation m.RightBrace, z, k) ∷ us) (subst (λ b. OwnedIn (Next tree ls) o l before b us) (block_so_far ss) h))

  -- ---- an expression begins a statement

  operand_step : (x : Option Symbol) (y : Text) (line : ℕ) (ss : List StatementIs) (ls : Levels) (ts : Lexemes) → After (Used tree ls ss line to_value) (operand_by x [] y line) ts
      → AfterStep tree (items_by x (operand_by x [] y line) line ss ls) ts
  operand_step (Some (s.Int n)) y line ss ls ts h = h
  operand_step (Some s.Str) y line ss ls ts h = h
  operand_step (Some s.Name) y line ss ls ts h = h
  operand_step (Some (s.Keyword w.True)) y line ss ls ts h = h
  operand_step (Some (s.Keyword w.False)) y line ss ls ts h = h
  operand_step (Some (s.Operator o.Minus)) y line ss ls ts h = h
  operand_step (Some (s.Punctuation m.LeftParen)) y line ss ls ts h = h
  operand_step (Some (s.Punctuation m.Not)) y line ss ls ts h = h
  operand_step _ y line ss ls ts h = absurd h

  -- ---- what follows an expression

  done_past : (ls : Levels) (ss : List StatementIs) (k : Kind) (line : ℕ) (ts : Lexemes) → Done tree ls ss k line ts → 8 < reach (peek ts)
  unfolding reach
  done_past ls ss k line ts (us, inl (vs, (l, is), nls), rest) = omega (arith, reach_is (s.Punctuation m.Newline) l ts vs is)
  done_past ls ss k line ts (us, inr (inl no_, same), rest) = absurd (cc)
  done_past ls ss k line ts (us, inr (inr (vs, inl (l, is)), same), rest) = omega (arith, reach_is (s.Punctuation m.RightBrace) l ts vs is)
  done_past ls ss k line ts (us, inr (inr (vs, inr (l, is)), same), rest) = omega (arith, reach_is (s.Punctuation m.End) l ts vs is)

  assigns_past : (ls : Levels) (ss : List StatementIs) (line : ℕ) (e : Expr) (ts : Lexemes) → Assigns tree ls ss line e ts → 8 < reach (peek ts)
  unfolding reach
  assigns_past ls ss line (t.name y k) ts (us, vs, f, (l, is), d, h) = omega (arith, reach_is (s.Punctuation m.Assign) l ts us is)
  assigns_past ls ss line _ ts h = absurd h

  pub used_past : (ls : Levels) (ss : List StatementIs) (line : ℕ) (use_ : Use) (e : Expr) (ts : Lexemes) → Used tree ls ss line use_ e ts → 8 < reach (peek ts)
  unfolding reach
  used_past ls ss line to_value e ts (inl h) = done_past ls ss (value e) line ts h
  used_past ls ss line to_value e ts (inr h) = assigns_past ls ss line e ts h
  used_past ls ss line (to_global y) e ts h = done_past ls ss (global y e) line ts h
  used_past ls ss line (to_assign y) e ts h = done_past ls ss (assign y e) line ts h
  used_past ls ss line to_return e ts h = done_past ls ss (return e) line ts h
  used_past ls ss line (to_arm arms) e ts (us, (l, is), h) = omega (arith, reach_is (s.Punctuation m.RightParen) l ts us is)
  used_past ls ss line to_while e ts (us, (l, is), h) = omega (arith, reach_is (s.Punctuation m.RightParen) l ts us is)
  used_past ls ss line (to_first y) e ts (us, vs, b, (l, is), d, h) = omega (arith, reach_is (s.Punctuation m.Comma) l ts us is)
  used_past ls ss line (to_last y a) e ts (None, us, same, (vs, (l, (z, is)), h)) = omega (arith, reach_is (s.Punctuation m.RightParen) l ts vs (z, same ∙ is))
  used_past ls ss line (to_last y a) e ts (Some c, us, (vs, (l, is), d), h) = omega (arith, reach_is (s.Punctuation m.Comma) l ts vs is)
  used_past ls ss line (to_step y a b) e ts (us, (l, is), h) = omega (arith, reach_is (s.Punctuation m.RightParen) l ts us is)

  operand_next_step : (ss : List StatementIs) (ls : Levels) (ts : Lexemes) → OperandNext tree ls ss (line_of ts) to_value ts → AfterStep tree (items_by (peek ts) (operand [] ts) (line_of ts) ss ls) ts
  unfolding operand
  operand_next_step ss ls ts h = operand_step (peek ts) (content_at ts) (line_of ts) ss ls ts (on_operand_next (Used tree ls ss (line_of ts) to_value) (used_past ls ss (line_of ts) to_value) [] ts h)

  -- ---- statements

  bodied_in : (ls : Levels) (ss : List StatementIs) (line : ℕ) (o : Owner) (b : Block) (ts us : Lexemes) → Braces (λ vs ws. DerivesAll b vs ws) ts us → OwnedIn (Next tree ls) o line ss b us
      → Bodied tree ls ss line o ts
  bodied_in ls ss line o b ts us (t1, t2, t3, t4, nls, left, nls', inside, right) h = (t1, t2, nls, left, (t3, nls', (b, t4, inside, (us, right, h))))

  conditioned_in : (ls : Levels) (ss : List StatementIs) (line : ℕ) (use_ : Use) (e : Expr) (ts us : Lexemes) → Condition e ts us
      → ((vs : Lexemes) → IsPunctuation m.RightParen vs us → Used tree ls ss line use_ e vs) → Conditioned tree ls ss line use_ ts
  conditioned_in ls ss line use_ e ts us (t1, t2, left, d, right) h = (t1, left, (e, t2, d, h t2 right))

  -- what separates a statement from the next, and the rest
  abbrev Follows : Levels → List StatementIs → Kind → ℕ → Lexemes → Type 0
  Follows ls ss k line ts = (us : Lexemes) × Separates (ends_with_brace k) ts us × Rest tree ls (ss ++ (k, line) ∷ []) us

  then_next : (ls : Levels) (ss : List StatementIs) (k : Kind) (line : ℕ) (ts : Lexemes) → ends_with_brace k ≡ true → Follows ls ss k line ts → Next tree ls (ss ++ (k, line) ∷ []) ts
  then_next ls ss k line ts is (us, sep, rest) = next_of tree ls (ss ++ (k, line) ∷ []) ts us (subst (λ b. Separates b ts us) is sep) rest

  kind_step : (k : Kind) (ls : Levels) (ss : List StatementIs) (ts us : Lexemes) → DerivesKind k ts us → Follows ls ss k (line_of ts) us
      → AfterStep tree (items_by (peek ts) (operand [] ts) (line_of ts) ss ls) ts
  kind_step (global x e) ls ss ts us (t1, t2, t3, (l, (z, is)), nm, assign_, d) =
      subst (λ v. Follows ls ss (global x e) (line_of v) us → AfterStep tree (items_by (peek v) (operand [] v) (line_of v) ss ls) v) (sym is) (λ h. (x, t2, nm, (t3, assign_, (e, us, d, h))))
  kind_step (assign x e) ls ss ts us (t1, t2, (l, is), assign_, d) = λ h. operand_next_step ss ls ts (t.name x l, t1, is, inr (t2, us, e, assign_, d, h))
  kind_step (return e) ls ss ts us (t1, (l, (z, is)), d) =
      subst (λ v. Follows ls ss (return e) (line_of v) us → AfterStep tree (items_by (peek v) (operand [] v) (line_of v) ss ls) v) (sym is) (λ h. (e, us, d, h))
  kind_step (if_ no_arms o) ls ss ts us h = absurd h
  kind_step (if_ (arm e b rest) o) ls ss ts us (t1, t2, t3, t4, (l, (z, is)), cond, braces, elses, els) =
      subst (λ v. Follows ls ss (if_ (arm e b rest) o) (line_of v) us → AfterStep tree (items_by (peek v) (operand [] v) (line_of v) ss ls) v) (sym is)
      (λ h. conditioned_in ls ss l (to_arm []) e t1 t2 cond (λ vs right. (
        t2,
        right,
        bodied_in ls ss l (arm_of [] e) b t2 t3 braces (rest, o, t4, us, elses, els, then_next ls ss (if_ (arm e b rest) o) l us refl h),
      )))
  kind_step (while e b) ls ss ts us (t1, t2, (l, (z, is)), cond, braces) =
      subst (λ v. Follows ls ss (while e b) (line_of v) us → AfterStep tree (items_by (peek v) (operand [] v) (line_of v) ss ls) v) (sym is)
      (λ h. conditioned_in ls ss l to_while e t1 t2 cond (λ vs right. (t2, right, bodied_in ls ss l (while_of e) b t2 us braces (then_next ls ss (while e b) l us refl h))))
  kind_step (for x a b c d) ls ss ts us (t1, t2, (l, (z, is)), (h1, h2, h3, h4, h5, h6, h7, left, nm, assign_, first, comma, last, step, right), braces) =
      subst (λ v. Follows ls ss (for x a b c d) (line_of v) us → AfterStep tree (items_by (peek v) (operand [] v) (line_of v) ss ls) v) (sym is)
      (λ h. (
        h1,
        left,
        (
          x,
          h2,
          nm,
          (
            h3,
            assign_,
            (
              a,
              h4,
              first,
              (
                h5,
                h6,
                b,
                comma,
                last,
                (c, h7, step, (t2, right, bodied_in ls ss l (for_of x a b c) d t2 us braces (then_next ls ss (for x a b c d) l us refl h))),
              ),
            ),
          ),
        ),
      ))
  kind_step (value e) ls ss ts us d = λ h. operand_next_step ss ls ts (e, us, d, inl h)

  case_step : (ls : Levels) (ss : List StatementIs) (ts : Lexemes) → RestCase tree ls ss ts → AfterStep tree (items_by (peek ts) (operand [] ts) (line_of ts) ss ls) ts
  case_step ls ss ts (the_end closed) = on_closed ls ss (operand [] ts) (line_of ts) ts closed
  case_step ls ss ts (a_statement k us vs kind sep rest) = kind_step k ls ss ts us kind (vs, sep, rest)
  case_step ls ss ts (a_function f gs us vs same d sep rest) =
      subst (λ z. AfterStep tree (items_by (peek ts) (operand [] ts) (line_of ts) ss z) ts) (sym same) (function_in tree f gs ss ts us vs d sep rest)

  on_rest : (ls : Levels) (ss : List StatementIs) (ts : Lexemes) → Rest tree ls ss ts → AfterStep tree (items_by (peek ts) (operand [] ts) (line_of ts) ss ls) ts
  on_rest ls ss ts rest = case_step ls ss ts (rest_case tree ls ss ts rest)

  on_next : (ls : Levels) (ss : List StatementIs) (ts : Lexemes) → Next tree ls ss ts → AfterStep tree (items_by (peek ts) (operand [] ts) (line_of ts) ss ls) ts
  on_next ls ss ts (us, nls, rest) =
      newlines_cases (AfterStep tree (items_by (peek ts) (operand [] ts) (line_of ts) ss ls) ts) ts us nls (λ same. on_rest ls ss ts (subst (λ w. Rest tree ls ss w) (sym same) rest))
      (λ nl more. subst (λ y. AfterStep tree (items_by y (operand [] ts) (line_of ts) ss ls) ts) (sym nl) (us, more, rest))

  -- ---- after an expression

  on_done : (ls : Levels) (ss : List StatementIs) (k : Kind) (line : ℕ) (ts : Lexemes) → Done tree ls ss k line ts → AfterStep tree (done_by (peek ts) (ss ++ (k, line) ∷ []) line ls) ts
  on_done ls ss k line ts (us, inl (vs, (l, (z, is)), nls), rest) = subst (λ w. AfterStep tree (done_by (peek w) (ss ++ (k, line) ∷ []) line ls) w) (sym is) (us, nls, rest)
  on_done ls ss k line ts (us, inr (inl no_, same), rest) = absurd (cc)
  on_done ls ss k line ts (us, inr (inr (vs, inl (l, (z, is))), same), rest) =
      subst (λ x. AfterStep tree (items_by x (operand [] ts) (line_of ts) (ss ++ (k, line) ∷ []) ls) ts → AfterStep tree (done_by x (ss ++ (k, line) ∷ []) line ls) ts) (sym (ap peek is)) (λ h. h)
      (on_rest ls (ss ++ (k, line) ∷ []) ts (subst (λ w. Rest tree ls (ss ++ (k, line) ∷ []) w) (sym same) rest))
  on_done ls ss k line ts (us, inr (inr (vs, inr (l, (z, is))), same), rest) =
      subst (λ x. AfterStep tree (items_by x (operand [] ts) (line_of ts) (ss ++ (k, line) ∷ []) ls) ts → AfterStep tree (done_by x (ss ++ (k, line) ∷ []) line ls) ts) (sym (ap peek is)) (λ h. h)
      (on_rest ls (ss ++ (k, line) ∷ []) ts (subst (λ w. Rest tree ls (ss ++ (k, line) ∷ []) w) (sym same) rest))

  no_assign : (x : Option Symbol) (e : Expr) (line : ℕ) (ss ss' : List StatementIs) (ls : Levels) (ts : Lexemes) → AfterStep tree (done_by x ss' line ls) ts
      → AfterStep tree (if punctuation_by m.Assign x then assigned e line ss ls else done_by x ss' line ls) ts
  no_assign (Some (s.Punctuation m.Newline)) e line ss ss' ls ts h = h
  no_assign (Some (s.Punctuation m.RightBrace)) e line ss ss' ls ts h = h
  no_assign (Some (s.Punctuation m.End)) e line ss ss' ls ts h = h
  no_assign _ e line ss ss' ls ts h = absurd h

  on_assigns : (ls : Levels) (ss : List StatementIs) (line : ℕ) (e : Expr) (ts : Lexemes) → Assigns tree ls ss line e ts → AfterStep tree (used to_value e line ss ls ts) ts
  unfolding is_punctuation
  on_assigns ls ss line (t.name y k) ts (us, vs, f, (l, (z, is)), d, h) = subst (λ w. AfterStep tree (used to_value (t.name y k) line ss ls w) w) (sym is) (f, vs, d, h)
  on_assigns ls ss line _ ts h = absurd h

  on_used : (ls : Levels) (ss : List StatementIs) (line : ℕ) (use_ : Use) (e : Expr) (ts : Lexemes) → Used tree ls ss line use_ e ts → AfterStep tree (used use_ e line ss ls ts) ts
  unfolding is_punctuation
  on_used ls ss line to_value e ts (inl h) = no_assign (peek ts) e line ss (ss ++ (value e, line) ∷ []) ls ts (on_done ls ss (value e) line ts h)
  on_used ls ss line to_value e ts (inr h) = on_assigns ls ss line e ts h
  on_used ls ss line (to_global y) e ts h = on_done ls ss (global y e) line ts h
  on_used ls ss line (to_assign y) e ts h = on_done ls ss (assign y e) line ts h
  on_used ls ss line to_return e ts h = on_done ls ss (return e) line ts h
  on_used ls ss line (to_arm arms) e ts (us, (l, (z, is)), h) = subst (λ w. AfterStep tree (used (to_arm arms) e line ss ls w) w) (sym is) h
  on_used ls ss line to_while e ts (us, (l, (z, is)), h) = subst (λ w. AfterStep tree (used to_while e line ss ls w) w) (sym is) h
  on_used ls ss line (to_first y) e ts (us, vs, b, (l, (z, is)), d, h) = subst (λ w. AfterStep tree (used (to_first y) e line ss ls w) w) (sym is) (b, vs, d, h)
  on_used ls ss line (to_last y a) e ts (None, us, same, (vs, (l, (z, is)), h)) = subst (λ w. AfterStep tree (used (to_last y a) e line ss ls w) w) (sym (same ∙ is)) h
  on_used ls ss line (to_last y a) e ts (Some c, us, (vs, (l, (z, is)), d), h) = subst (λ w. AfterStep tree (used (to_last y a) e line ss ls w) w) (sym is) (c, us, d, h)
  on_used ls ss line (to_step y a b) e ts (us, (l, (z, is)), h) = subst (λ w. AfterStep tree (used (to_step y a b) e line ss ls w) w) (sym is) h

  on_expression : (x : ExprStep) (use_ : Use) (line : ℕ) (ss : List StatementIs) (ls : Levels) (ts : Lexemes) → After (Used tree ls ss line use_) x ts → AfterStep tree (expression_by x use_ line ss ls ts) ts
  on_expression refused use_ line ss ls ts h = h
  on_expression (keeps now fs) use_ line ss ls ts h = h
  on_expression (leaves e) use_ line ss ls ts h = on_used ls ss line use_ e ts h

  -- ---- braces

  on_body : (o : Owner) (line : ℕ) (ss : List StatementIs) (ls : Levels) (ts : Lexemes) → Bodied tree ls ss line o ts → AfterStep tree (body_by (peek ts) o line ss ls) ts
  on_body o line ss ls ts (us, vs, nls, (l, (z, is)), next) =
      newlines_cases (AfterStep tree (body_by (peek ts) o line ss ls) ts) ts us nls (λ same. subst (λ w. AfterStep tree (body_by (peek w) o line ss ls) w) (sym (same ∙ is)) next)
      (λ nl more. subst (λ y. AfterStep tree (body_by y o line ss ls) ts) (sym nl) (us, vs, more, (l, (z, is)), next))

  no_else_step : (x : Option Symbol) (y : Text) (n : ℕ) (arms : List ArmIs) (line : ℕ) (ss : List StatementIs) (ls : Levels) (ts : Lexemes)
      → AfterStep tree (items_by x (operand_by x [] y n) n (ss ++ (if_ (arms_of arms) no_else, line) ∷ []) ls) ts → AfterStep tree (arms_by x (operand_by x [] y n) n arms line ss ls) ts
  no_else_step (Some (s.Punctuation m.Newline)) y n arms line ss ls ts h =
      (no_arms, no_else, tail ts, tail ts, refl, refl, subst (λ z. Next tree ls (ss ++ (if_ z no_else, line) ∷ []) (tail ts)) (sym (arms_so_far arms)) h)
  no_else_step (Some (s.Keyword w.Else)) y n arms line ss ls ts h = absurd h
  no_else_step _ y n arms line ss ls ts h = h

  on_arms : (line : ℕ) (ss : List StatementIs) (ls : Levels) (arms : List ArmIs) (rest : Arms) (o : Else) (ts us vs : Lexemes) → DerivesElseIfs rest ts us → DerivesElse o us vs
      → Next tree ls (ss ++ (if_ (all_arms arms rest) o, line) ∷ []) vs → AfterStep tree (arms_by (peek ts) (operand [] ts) (line_of ts) arms line ss ls) ts
  unfolding operand
  on_arms line ss ls arms no_arms no_else ts us vs same same' next =
      no_else_step (peek ts) (content_at ts) (line_of ts) arms line ss ls ts
      (on_next ls (ss ++ (if_ (arms_of arms) no_else, line) ∷ []) ts
      (subst (λ z. Next tree ls (ss ++ (if_ z no_else, line) ∷ []) ts) (arms_so_far arms) (subst (λ w. Next tree ls (ss ++ (if_ (all_arms arms no_arms) no_else, line) ∷ []) w) (sym (same ∙ same')) next)))
  on_arms line ss ls arms no_arms (else_ b) ts us vs same (t1, t2, nls, (l, (z, is)), braces) next =
      newlines_cases (AfterStep tree (arms_by (peek ts) (operand [] ts) (line_of ts) arms line ss ls) ts) ts t1 (subst (λ w. Newlines w t1) (sym same) nls)
      (λ here. subst (λ w. AfterStep tree (arms_by (peek w) (operand [] w) (line_of w) arms line ss ls) w) (sym (here ∙ is))
      (inr (bodied_in ls ss line (else_of arms) b t2 vs braces (subst (λ y. Next tree ls (ss ++ (if_ y (else_ b), line) ∷ []) vs) (arms_so_far arms) next))))
      (λ nl more. subst (λ y. AfterStep tree (arms_by y (operand [] ts) (line_of ts) arms line ss ls) ts) (sym nl) (no_arms, else_ b, tail ts, vs, refl, (t1, t2, more, (l, (z, is)), braces), next))
  on_arms line ss ls arms (arm e b rest) o ts us vs (t1, t2, t3, t4, t5, nls, (l, (z, is)), if__, cond, braces, more_arms) els next =
      newlines_cases (AfterStep tree (arms_by (peek ts) (operand [] ts) (line_of ts) arms line ss ls) ts) ts t1 nls
      (λ here. subst (λ w. AfterStep tree (arms_by (peek w) (operand [] w) (line_of w) arms line ss ls) w) (sym (here ∙ is))
      (inl (
        t3,
        if__,
        conditioned_in ls ss line (to_arm arms) e t3 t4 cond (λ v right. (
          t4,
          right,
          bodied_in ls ss line (arm_of arms e) b t4 t5 braces
              (rest, o, us, vs, more_arms, els, subst (λ y. Next tree ls (ss ++ (if_ y o, line) ∷ []) vs) (sym (arms_then arms e b rest)) next),
        )),
      )))
      (λ nl more. subst (λ y. AfterStep tree (arms_by y (operand [] ts) (line_of ts) arms line ss ls) ts) (sym nl)
      (arm e b rest, o, us, vs, (t1, t2, t3, t4, t5, more, (l, (z, is)), if__, cond, braces, more_arms), els, next))

  not_if : (x : Option Symbol) (arms : List ArmIs) (line : ℕ) (ss : List StatementIs) (ls : Levels) (ts : Lexemes) → AfterStep tree (body_by x (else_of arms) line ss ls) ts
      → AfterStep tree (other_by x arms line ss ls) ts
  not_if (Some (s.Keyword w.If)) arms line ss ls ts h = absurd h
  not_if _ arms line ss ls ts h = h

  on_statement : (here : StatementState) (line : ℕ) (ss : List StatementIs) (ls : Levels) (ts : Lexemes) → FormedStatement here → Statement tree here line ss ls ts → AfterStep tree (advance_statement here line ss ls ts) ts
  unfolding is_punctuation
  on_statement statement_next line ss ls ts formed h = on_next ls ss ts h
  on_statement (in_expression use_ now fs) line ss ls ts formed h =
      on_expression (expr_step now fs ts) use_ line ss ls ts (on_expr_step (Used tree ls ss line use_) (used_past ls ss line use_) now fs formed ts h)
  on_statement (parenthesis_next use_) line ss ls ts formed (us, (l, (z, is)), h) = subst (λ w. AfterStep tree (advance_statement (parenthesis_next use_) line ss ls w) w) (sym is) h
  on_statement (braces_next o) line ss ls ts formed h = on_body o line ss ls ts h
  on_statement (after_arm arms) line ss ls ts formed (rest, o, us, vs, elses, els, next) = on_arms line ss ls arms rest o ts us vs elses els next
  on_statement (after_else arms) line ss ls ts formed (inl (us, (l, (z, is)), h)) = subst (λ w. AfterStep tree (advance_statement (after_else arms) line ss ls w) w) (sym is) h
  on_statement (after_else arms) line ss ls ts formed (inr h) = not_if (peek ts) arms line ss ls ts (on_body (else_of arms) line ss ls ts h)
  on_statement after_global line ss ls ts formed (y, us, (l, is), h) = subst (λ w. AfterStep tree (advance_statement after_global line ss ls w) w) (sym is) h
  on_statement (after_global_name y) line ss ls ts formed (us, (l, (z, is)), h) = subst (λ w. AfterStep tree (advance_statement (after_global_name y) line ss ls w) w) (sym is) h
  on_statement after_for line ss ls ts formed (us, (l, (z, is)), h) = subst (λ w. AfterStep tree (advance_statement after_for line ss ls w) w) (sym is) h
  on_statement for_opened line ss ls ts formed (y, us, (l, is), h) = subst (λ w. AfterStep tree (advance_statement for_opened line ss ls w) w) (sym is) h
  on_statement (after_for_name y) line ss ls ts formed (us, (l, (z, is)), h) = subst (λ w. AfterStep tree (advance_statement (after_for_name y) line ss ls w) w) (sym is) h

  -- What may come still may come after the token is taken, and where the token is refused nothing may come.
  pub on_advance : (state : State) (ts : Lexemes) → FormedState state → Completion tree state ts → AfterStep tree (advance state ts) ts
  on_advance (at here line ss ls) ts formed h = on_statement here line ss ls ts formed h
  on_advance (at_head here line ss gs) ts formed h = on_head tree here line ss gs ts h
