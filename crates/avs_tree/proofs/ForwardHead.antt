-- Nothing that may come in the head of a function is lost at a token.
use Rattle.std.proofs.Common.{◌≡◌, refl, sym, ap, subst, ◌∙◌, ℕ, Bool, true, false, IsTrue, inl, inr, List, [], ◌∷◌, ◌++◌, append_assoc, append-nil, Some, if◌then◌else◌}
use Rattle.avs_tree.specs.Lexeme.{Lexemes, line_of, is_name, type_word_of, peek, content_at, is_punctuation}
use Rattle.avs_lex.specs.Spelling.{Text}
use Rattle.avs_tree.specs.Tree.{Block, Function, Script}
use Rattle.avs_tree.specs.View.{StatementIs}
use Rattle.avs_tree.specs.Grammar.{IsPunctuation, Separates, Braces, DerivesAll, Parameters, DerivesFunction}
use Rattle.avs_tree.specs.declared.symbol.Symbol.TheVariants as s
use Rattle.avs_tree.specs.declared.words.TypeWord.{TypeWord}
use Rattle.avs_tree.specs.declared.symbol.Punctuation.TheVariants as m
use Rattle.avs_tree.specs.declared.tree.Parameter.{Parameter}
use Rattle.avs_tree.specs.Machine.{operand, top, HeadState, after_function, after_function_name, head_opened, after_type, after_parameter, parameter_next, function_braces_next, at_head, stuck, goes, items_by, type_by, with_parameter, function_body_by, advance_head}
use Rattle.avs_tree.proofs.ScriptMeaning.{function_with, TopRest, FunctionBodied, HeadEnds, ParametersEnd, Typed, ParameterNext, HeadOpened, Head, AfterStep}
use Rattle.avs_tree.proofs.Blocks.{newlines_cases, next_of}

-- ---- tests

when_not : {A : Type 0} (P : A → Type 0) (b : Bool) (x y : A) → (IsTrue b → IsTrue false) → P y → P (if b then x else y)
when_not P true x y no_ h = absurd (cc (no_ refl))
when_not P false x y no_ h = h

when : {A : Type 0} (P : A → Type 0) (b : Bool) (x y : A) → IsTrue b → P x → P (if b then x else y)
when P true x y is h = h
when P false x y is h = absurd (cc)

module _ (tree : Script) where
  -- ---- a function

  head_in : (gs : List Function) (ss : List StatementIs) (line : ℕ) (y : Text) (ps : List Parameter) (b : Block) (ts us vs ws : Lexemes) → IsPunctuation m.RightParen ts us
      → Braces (λ v w. DerivesAll b v w) us vs → Separates true vs ws → TopRest tree (gs ++ function_with y ps line b ∷ []) ss ws → HeadEnds tree gs ss line y ps ts
  head_in gs ss line y ps b ts us vs ws paren (t1, t2, t3, t4, nls, left, nls', inside, right) sep rest =
      (us, paren, (t1, t2, nls, left, (t3, nls', (b, t4, inside, (vs, right, next_of tree (top (gs ++ function_with y ps line b ∷ [])) ss vs ws sep rest)))))

  opened_in : (gs : List Function) (ss : List StatementIs) (line : ℕ) (y : Text) (ps : List Parameter) (ts us : Lexemes) → Parameters ps ts us → HeadEnds tree gs ss line y ps us → HeadOpened tree gs ss line y ts
  opened_in gs ss line y [] ts us same h = inl (subst (λ z. HeadEnds tree gs ss line y [] z) (sym same) h)
  opened_in gs ss line y (p ∷ ps) ts us (vs, (x, ws, nm, is, pname), more) h = inr (x, p.word, ws, nm, is, (p.optional, p.name, vs, (λ no_. absurd (cc)), pname, (ps, us, more, h)))

  pub function_in : (f : Function) (gs : List Function) (ss : List StatementIs) (ts us vs : Lexemes) → DerivesFunction f ts us → Separates true us vs → TopRest tree (gs ++ f ∷ []) ss vs
      → AfterStep tree (items_by (peek ts) (operand [] ts) (line_of ts) ss (top gs)) ts
  function_in f gs ss ts us vs (line, t1, t2, t3, t4, t5, (l, (z, is)), nm, left, params, right, braces) sep rest =
      let same : l ≡ f.line = ap line_of (sym is) ∙ line in
      subst (λ v. AfterStep tree (items_by (peek v) (operand [] v) (line_of v) ss (top gs)) v) (sym is) (
        f.name,
        t2,
        nm,
        (
          t3,
          left,
          opened_in gs ss l f.name f.params t3 t4 params
              (head_in gs ss l f.name f.params f.body t4 t5 us vs right braces sep (subst (λ n. TopRest tree (gs ++ function_with f.name f.params n f.body ∷ []) ss vs) (sym same) rest)),
        ),
      )

  -- ---- the tokens of its head

  on_type : (gs : List Function) (ss : List StatementIs) (line : ℕ) (y : Text) (ps : List Parameter) (must : Bool) (ts : Lexemes) → ParameterNext tree gs ss line y ps must ts
      → AfterStep tree (type_by (peek ts) (type_word_of (content_at ts)) y ps must line ss gs) ts
  on_type gs ss line y ps must ts (x, word, us, (l, is), type_, h) =
      subst (λ w. AfterStep tree (type_by (peek w) (type_word_of (content_at w)) y ps must line ss gs) w) (sym is)
      (subst (λ z. AfterStep tree (type_by (Some s.Name) z y ps must line ss gs) ((s.Name, x, l) ∷ us)) (sym type_) h)

  on_opened : (gs : List Function) (ss : List StatementIs) (line : ℕ) (y : Text) (ts : Lexemes) → HeadOpened tree gs ss line y ts → AfterStep tree (advance_head (head_opened y) line ss gs ts) ts
  unfolding is_punctuation
  on_opened gs ss line y ts (inl (us, (l, (z, is)), h)) = subst (λ w. AfterStep tree (advance_head (head_opened y) line ss gs w) w) (sym is) h
  on_opened gs ss line y ts (inr (x, word, us, (l, is), type_, h)) =
      subst (λ w. AfterStep tree (advance_head (head_opened y) line ss gs w) w) (sym is)
      (subst (λ z. AfterStep tree (type_by (Some s.Name) z y [] false line ss gs) ((s.Name, x, l) ∷ us)) (sym type_) h)

  on_parameter : (gs : List Function) (ss : List StatementIs) (line : ℕ) (y : Text) (ps : List Parameter) (must : Bool) (ts : Lexemes) → ParametersEnd tree gs ss line y ps must ts
      → AfterStep tree (advance_head (after_parameter y ps must) line ss gs ts) ts
  unfolding is_punctuation
  on_parameter gs ss line y ps must ts ([], us, same, (vs, (l, (z, is)), h)) =
      subst (λ w. AfterStep tree (advance_head (after_parameter y ps must) line ss gs w) w) (sym (same ∙ is)) (subst (λ qs. FunctionBodied tree gs ss line y qs vs) (append-nil ps) h)
  on_parameter gs ss line y ps must ts (p ∷ rest, us, (implies, vs, ws, (l, (z, is)), (x, xs, nm, type_, pname), more), h) =
      subst (λ w. AfterStep tree (advance_head (after_parameter y ps must) line ss gs w) w) (sym is)
      (x, p.word, xs, nm, type_, (p.optional, p.name, ws, implies, pname, (rest, us, more, subst (λ qs. HeadEnds tree gs ss line y qs us) (sym (append_assoc ps (p ∷ []) rest)) h)))

  on_named : (gs : List Function) (ss : List StatementIs) (line : ℕ) (y : Text) (ps : List Parameter) (must : Bool) (word : TypeWord) (ts : Lexemes) → Typed tree gs ss line y ps must word ts
      → AfterStep tree (advance_head (after_type y ps must word) line ss gs ts) ts
  on_named gs ss line y ps must word ts (false, z, us, implies, (l, is), h) =
      subst (λ w. AfterStep tree (advance_head (after_type y ps must word) line ss gs w) w) (sym is)
      (when_not (λ step. AfterStep tree step ((s.Name, z, l) ∷ us)) must stuck (goes (at_head (after_parameter y (with_parameter ps word false z) false) line ss gs)) implies h)
  on_named gs ss line y ps must word ts (true, z, us, implies, (fine, (l, is)), h) =
      subst (λ w. AfterStep tree (advance_head (after_type y ps must word) line ss gs w) w) (sym is)
      (when (λ step. AfterStep tree step ((s.Str, z, l) ∷ us)) (is_name z) (goes (at_head (after_parameter y (with_parameter ps word true z) true) line ss gs)) stuck fine h)

  on_braces : (gs : List Function) (ss : List StatementIs) (line : ℕ) (y : Text) (ps : List Parameter) (ts : Lexemes) → FunctionBodied tree gs ss line y ps ts
      → AfterStep tree (function_body_by (peek ts) y ps line ss gs) ts
  on_braces gs ss line y ps ts (us, vs, nls, (l, (z, is)), next) =
      newlines_cases (AfterStep tree (function_body_by (peek ts) y ps line ss gs) ts) ts us nls (λ same. subst (λ w. AfterStep tree (function_body_by (peek w) y ps line ss gs) w) (sym (same ∙ is)) next)
      (λ nl more. subst (λ x. AfterStep tree (function_body_by x y ps line ss gs) ts) (sym nl) (us, vs, more, (l, (z, is)), next))

  -- The same where the head of a function is read.
  pub on_head : (here : HeadState) (line : ℕ) (ss : List StatementIs) (gs : List Function) (ts : Lexemes) → Head tree here line ss gs ts → AfterStep tree (advance_head here line ss gs ts) ts
  unfolding is_punctuation
  on_head after_function line ss gs ts (y, us, (l, is), h) = subst (λ w. AfterStep tree (advance_head after_function line ss gs w) w) (sym is) h
  on_head (after_function_name y) line ss gs ts (us, (l, (z, is)), h) = subst (λ w. AfterStep tree (advance_head (after_function_name y) line ss gs w) w) (sym is) h
  on_head (head_opened y) line ss gs ts h = on_opened gs ss line y ts h
  on_head (after_type y ps must word) line ss gs ts h = on_named gs ss line y ps must word ts h
  on_head (after_parameter y ps must) line ss gs ts h = on_parameter gs ss line y ps must ts h
  on_head (parameter_next y ps must) line ss gs ts h = on_type gs ss line y ps must ts h
  on_head (function_braces_next y ps) line ss gs ts h = on_braces gs ss line y ps ts h
