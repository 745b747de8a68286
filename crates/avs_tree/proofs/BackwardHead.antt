-- What may come in the head of a function after a token may come with it.
use Rattle.std.proofs.Common.{◌≡◌, refl, sym, subst, ℕ, Bool, true, false, inl, inr, List, [], ◌∷◌, append_assoc, append-nil, Option, Some, if◌then◌else◌}
use Rattle.avs_tree.specs.Lexeme.{Lexemes, line_of, is_name, type_word_of, peek, content_at, tail, is_punctuation}
use Rattle.avs_lex.specs.Spelling.{Text}
use Rattle.avs_tree.specs.Tree.{Function, Script}
use Rattle.avs_tree.specs.View.{StatementIs}
use Rattle.avs_tree.specs.Grammar.{IsPunctuation, IsKeyword, IsName, Parameters}
use Rattle.avs_tree.specs.declared.symbol.Symbol.{Symbol}
use Rattle.avs_tree.specs.declared.symbol.Symbol.TheVariants as s
use Rattle.avs_tree.specs.declared.words.Keyword.TheVariants as w
use Rattle.avs_tree.specs.declared.words.TypeWord.{TypeWord}
use Rattle.avs_tree.specs.declared.symbol.Punctuation.TheVariants as m
use Rattle.avs_tree.specs.declared.tree.Parameter.{Parameter}
use Rattle.avs_tree.specs.Machine.{HeadState, after_function, after_function_name, head_opened, after_type, after_parameter, parameter_next, function_braces_next, at_head, stuck, goes, function_name_by, type_by, with_parameter, parameter_by, function_body_by, advance_head}
use Rattle.avs_tree.proofs.ScriptMeaning.{function_with, TopRest, FunctionBodied, HeadEnds, ParametersEnd, Typed, ParameterNext, HeadOpened, HeadNamed, Head, AfterStep}
use Rattle.avs_tree.proofs.Tokens.{next_is, is_next, is_here, on_if}
use Rattle.avs_tree.proofs.Blocks.{no_newlines, newline_then, separates_of, rest_function}

module _ (tree : Script) where
  -- ---- a function

  function_out : (gs : List Function) (ss : List StatementIs) (y : Text) (ps : List Parameter) (ts t2 t3 t4 : Lexemes) → IsKeyword w.Function ts (tail ts) → IsName y (tail ts) t2 → IsPunctuation m.LeftParen t2 t3
      → Parameters ps t3 t4 → HeadEnds tree gs ss (line_of ts) y ps t4 → TopRest tree gs ss ts
  function_out gs ss y ps ts t2 t3 t4 word nm left params (t5, right, (u1, u2, nls, lb, (u3, nls', (b, u4, inside, (us, rb, (vs, nls'', rest)))))) =
      rest_function tree (function_with y ps (line_of ts) b) gs ss ts us vs (refl, tail ts, t2, t3, t4, t5, word, nm, left, params, right, (u1, u2, u3, u4, nls, lb, nls', inside, rb)) (separates_of us vs nls'') rest

  pub back_function : (gs : List Function) (ss : List StatementIs) (ts : Lexemes) → IsKeyword w.Function ts (tail ts) → Head tree after_function (line_of ts) ss gs (tail ts) → TopRest tree gs ss ts
  back_function gs ss ts word (y, t2, nm, (t3, left, inl ends_)) = function_out gs ss y [] ts t2 t3 t3 word nm left refl ends_
  back_function gs ss ts word (y, t2, nm, (t3, left, inr (x, type_, u1, nm', is, (optional, z, u2, implies, pname, (rest, t4, more, ends_))))) =
      function_out gs ss y (record { name = z; word = type_; optional = optional } ∷ rest) ts t2 t3 t4 word nm left (u2, (x, u1, nm', is, pname), more) ends_

  -- ---- the tokens of its head

  back_name : (line : ℕ) (ss : List StatementIs) (gs : List Function) (ts : Lexemes) (x : Option Symbol) → peek ts ≡ x → AfterStep tree (function_name_by x (content_at ts) line ss gs) ts → Head tree after_function line ss gs ts
  back_name line ss gs ts (Some s.Name) is h = (content_at ts, tail ts, (line_of ts, next_is ts s.Name is), h)
  back_name line ss gs ts _ is h = absurd h

  back_type : (gs : List Function) (ss : List StatementIs) (line : ℕ) (y : Text) (ps : List Parameter) (must : Bool) (ts : Lexemes) (x : Option Symbol) (word : Option TypeWord) → peek ts ≡ x → type_word_of (content_at ts) ≡ word
      → AfterStep tree (type_by x word y ps must line ss gs) ts → ParameterNext tree gs ss line y ps must ts
  back_type gs ss line y ps must ts (Some s.Name) (Some word) is type_ h = (content_at ts, word, tail ts, (line_of ts, next_is ts s.Name is), type_, h)
  back_type gs ss line y ps must ts _ _ is type_ h = absurd h

  back_named : (gs : List Function) (ss : List StatementIs) (line : ℕ) (y : Text) (ps : List Parameter) (must : Bool) (word : TypeWord) (ts : Lexemes) (x : Option Symbol) → peek ts ≡ x
      → AfterStep tree (parameter_by x (content_at ts) y ps must word line ss gs) ts → Typed tree gs ss line y ps must word ts
  back_named gs ss line y ps must word ts (Some s.Name) is h =
      on_if (λ z. AfterStep tree z ts) (Typed tree gs ss line y ps must word ts) must stuck (goes (at_head (after_parameter y (with_parameter ps word false (content_at ts)) false) line ss gs)) (λ _ h. absurd h)
      (λ no_ h. (false, content_at ts, tail ts, (λ yes_. absurd (cc)), (line_of ts, next_is ts s.Name is), h)) h
  back_named gs ss line y ps must word ts (Some s.Str) is h =
      on_if (λ z. AfterStep tree z ts) (Typed tree gs ss line y ps must word ts) (is_name (content_at ts)) (goes (at_head (after_parameter y (with_parameter ps word true (content_at ts)) true) line ss gs)) stuck
      (λ fine h. (true, content_at ts, tail ts, (λ _. refl), (fine, (line_of ts, next_is ts s.Str is)), h)) (λ _ h. absurd h) h
  back_named gs ss line y ps must word ts _ is h = absurd h

  back_comma : (gs : List Function) (ss : List StatementIs) (line : ℕ) (y : Text) (ps : List Parameter) (must : Bool) (ts : Lexemes) → IsPunctuation m.Comma ts (tail ts) → ParameterNext tree gs ss line y ps must (tail ts)
      → ParametersEnd tree gs ss line y ps must ts
  back_comma gs ss line y ps must ts comma (x, word, us, nm, type_, (optional, z, vs, implies, pname, (rest, ws, more, h))) =
      let p : Parameter = record { name = z; word = word; optional = optional } in
      (p ∷ rest, ws, (implies, tail ts, vs, comma, (x, us, nm, type_, pname), more), subst (λ qs. HeadEnds tree gs ss line y qs ws) (append_assoc ps (p ∷ []) rest) h)

  back_parameter : (gs : List Function) (ss : List StatementIs) (line : ℕ) (y : Text) (ps : List Parameter) (must : Bool) (ts : Lexemes) → AfterStep tree (advance_head (after_parameter y ps must) line ss gs ts) ts
      → ParametersEnd tree gs ss line y ps must ts
  back_parameter gs ss line y ps must ts h =
      on_if (λ z. AfterStep tree z ts) (ParametersEnd tree gs ss line y ps must ts) (is_punctuation m.Comma ts) (goes (at_head (parameter_next y ps must) line ss gs))
      (if is_punctuation m.RightParen ts then goes (at_head (function_braces_next y ps) line ss gs) else stuck)
      (λ is h. back_comma gs ss line y ps must ts (is_here m.Comma ts is) h)
      (λ _ h. on_if (λ z. AfterStep tree z ts) (ParametersEnd tree gs ss line y ps must ts) (is_punctuation m.RightParen ts) (goes (at_head (function_braces_next y ps) line ss gs)) stuck
      (λ is h. ([], ts, refl, (tail ts, is_here m.RightParen ts is, subst (λ qs. FunctionBodied tree gs ss line y qs (tail ts)) (sym (append-nil ps)) h))) (λ _ h. absurd h) h) h

  back_braces : (gs : List Function) (ss : List StatementIs) (line : ℕ) (y : Text) (ps : List Parameter) (ts : Lexemes) (x : Option Symbol) → peek ts ≡ x → AfterStep tree (function_body_by x y ps line ss gs) ts
      → FunctionBodied tree gs ss line y ps ts
  back_braces gs ss line y ps ts (Some (s.Punctuation m.Newline)) is (us, vs, nls, left, next) = (us, vs, newline_then ts us is nls, left, next)
  back_braces gs ss line y ps ts (Some (s.Punctuation m.LeftBrace)) is h = (ts, tail ts, no_newlines ts, is_next ts (s.Punctuation m.LeftBrace) is, h)
  back_braces gs ss line y ps ts _ is h = absurd h

  -- The same where the head of a function is read.
  pub back_head : (here : HeadState) (line : ℕ) (ss : List StatementIs) (gs : List Function) (ts : Lexemes) → AfterStep tree (advance_head here line ss gs ts) ts → Head tree here line ss gs ts
  back_head after_function line ss gs ts h = back_name line ss gs ts (peek ts) refl h
  back_head (after_function_name y) line ss gs ts h =
      on_if (λ z. AfterStep tree z ts) (HeadNamed tree gs ss line y ts) (is_punctuation m.LeftParen ts) (goes (at_head (head_opened y) line ss gs)) stuck (λ is h. (tail ts, is_here m.LeftParen ts is, h)) (λ _ h. absurd h) h
  back_head (head_opened y) line ss gs ts h =
      on_if (λ z. AfterStep tree z ts) (HeadOpened tree gs ss line y ts) (is_punctuation m.RightParen ts) (goes (at_head (function_braces_next y []) line ss gs)) (type_by (peek ts) (type_word_of (content_at ts)) y [] false line ss gs)
      (λ is h. inl (tail ts, is_here m.RightParen ts is, h)) (λ _ h. inr (back_type gs ss line y [] false ts (peek ts) (type_word_of (content_at ts)) refl refl h)) h
  back_head (after_type y ps must word) line ss gs ts h = back_named gs ss line y ps must word ts (peek ts) refl h
  back_head (after_parameter y ps must) line ss gs ts h = back_parameter gs ss line y ps must ts h
  back_head (parameter_next y ps must) line ss gs ts h = back_type gs ss line y ps must ts (peek ts) (type_word_of (content_at ts)) refl refl h
  back_head (function_braces_next y ps) line ss gs ts h = back_braces gs ss line y ps ts (peek ts) refl h
