-- What ends a block, a further statement of it and a further function of a script, each as a fact about what may come in the
-- block, whatever braces it stands in.
use Rattle.std.proofs.Common.{◌≡◌, refl, sym, ap, subst, ◌∙◌, ℕ, true, inl, inr, List, [], ◌∷◌, ◌++◌, append_assoc, append-nil, Some}
use Rattle.avs_tree.specs.Lexeme.{Lexemes, line_of, peek, tail}
use Rattle.avs_tree.specs.Tree.{Expr, Kind, Arms, no_arms, arm, Block, no_more, then_, Function, Script, ends_with_brace}
use Rattle.avs_tree.specs.View.{StatementIs, ArmIs, arms_of, block_of}
use Rattle.avs_tree.specs.Grammar.{IsPunctuation, Newlines, Separates, DerivesKind, DerivesFunction, Items, no_items, function_then, statement_then, functions_of, statements_of}
use Rattle.avs_tree.specs.declared.symbol.Symbol.TheVariants as s
use Rattle.avs_tree.specs.declared.symbol.Punctuation.TheVariants as m
use Rattle.avs_tree.specs.Machine.{Levels, top, in_function, level}
use Rattle.avs_tree.proofs.Tokens.{is_next}
use Rattle.avs_tree.proofs.ScriptMeaning.{all_block, all_arms, all_items, function_with, OwnedIn, Closed, TopRest, TopNext, Rest, Next}

-- ---- lists

pub block_so_far : (ss : List StatementIs) → all_block ss no_more ≡ block_of ss
block_so_far [] = refl
block_so_far (x ∷ ss) = ap (then_ x.0 x.1) (block_so_far ss)

pub block_then : (ss : List StatementIs) (k : Kind) (line : ℕ) (rest : Block) → all_block (ss ++ (k, line) ∷ []) rest ≡ all_block ss (then_ k line rest)
block_then [] k line rest = refl
block_then (x ∷ ss) k line rest = ap (then_ x.0 x.1) (block_then ss k line rest)

pub arms_so_far : (arms : List ArmIs) → all_arms arms no_arms ≡ arms_of arms
arms_so_far [] = refl
arms_so_far (a ∷ arms) = ap (arm a.0 a.1) (arms_so_far arms)

pub arms_then : (arms : List ArmIs) (e : Expr) (b : Block) (rest : Arms) → all_arms (arms ++ (e, b) ∷ []) rest ≡ all_arms arms (arm e b rest)
arms_then [] e b rest = refl
arms_then (a ∷ arms) e b rest = ap (arm a.0 a.1) (arms_then arms e b rest)

items_so_far : (gs : List Function) (ss : List StatementIs) → all_items gs ss no_items ≡ record { functions = gs; statements = all_block ss no_more }
items_so_far gs ss = ap (λ z. record { functions = z; statements = all_block ss no_more }) (append-nil gs)

items_then : (gs : List Function) (ss : List StatementIs) (k : Kind) (line : ℕ) (i : Items) → all_items gs (ss ++ (k, line) ∷ []) i ≡ all_items gs ss (statement_then k line i)
items_then gs ss k line i = ap (λ z. record { functions = gs ++ functions_of i; statements = z }) (block_then ss k line (statements_of i))

functions_then : (gs : List Function) (f : Function) (ss : List StatementIs) (i : Items) → all_items (gs ++ f ∷ []) ss i ≡ all_items gs ss (function_then f i)
functions_then gs f ss i = ap (λ z. record { functions = z; statements = all_block ss (statements_of i) }) (append_assoc gs (f ∷ []) (functions_of i))

-- ---- newlines

pub no_newlines : (ts : Lexemes) → Newlines ts ts
no_newlines [] = refl
no_newlines (t ∷ ts) = inl refl

-- what holds after newlines that come at once, or after one more
pub newlines_cases : (P : Type 0) (ts us : Lexemes) → Newlines ts us → (ts ≡ us → P) → (peek ts ≡ Some (s.Punctuation m.Newline) → Newlines (tail ts) us → P) → P
newlines_cases P [] us same f g = f same
newlines_cases P (t ∷ ts) us (inl same) f g = f same
newlines_cases P (t ∷ ts) us (inr (nl, more)) f g = g (ap Some nl) more

pub newline_then : (ts us : Lexemes) → peek ts ≡ Some (s.Punctuation m.Newline) → Newlines (tail ts) us → Newlines ts us
newline_then [] us is nls = absurd (cc)
newline_then (t ∷ ts) us is nls = let nl : t.0 ≡ s.Punctuation m.Newline = cc in inr (nl, nls)

pub separates_of : (ts us : Lexemes) → Newlines ts us → Separates true ts us
separates_of ts us nls = newlines_cases (Separates true ts us) ts us nls (λ same. inr (inl refl, same)) (λ nl more. inl (tail ts, is_next ts (s.Punctuation m.Newline) nl, more))

-- ---- blocks

module _ (tree : Script) where
  pub next_of : (ls : Levels) (ss : List StatementIs) (ts us : Lexemes) → Separates true ts us → Rest tree ls ss us → Next tree ls ss ts
  next_of ls ss ts us (inl (vs, (l, (z, is)), nls)) rest = subst (λ w. Next tree ls ss w) (sym is) (us, inr (refl, nls), rest)
  next_of ls ss ts us (inr (why, same)) rest = subst (λ w. Next tree ls ss w) (sym same) (us, no_newlines us, rest)

  pub rest_ends : (ls : Levels) (ss : List StatementIs) (ts : Lexemes) → Closed tree ls (all_block ss no_more) ts → Rest tree ls ss ts
  rest_ends (top gs) ss ts (is, same) = (no_items, ts, refl, is, items_so_far gs ss ∙ same)
  rest_ends (in_function y ps line before gs) ss ts h = (no_more, ts, refl, h)
  rest_ends (level o line before ls) ss ts h = (no_more, ts, refl, h)

  pub rest_then : (k : Kind) (ls : Levels) (ss : List StatementIs) (ts us vs : Lexemes) → DerivesKind k ts us → Separates (ends_with_brace k) us vs → Rest tree ls (ss ++ (k, line_of ts) ∷ []) vs → Rest tree ls ss ts
  rest_then k (top gs) ss ts us vs kind sep (i, ws, more, end, same) =
      (statement_then k (line_of ts) i, ws, (refl, us, vs, kind, sep, more), end, sym (items_then gs ss k (line_of ts) i) ∙ same)
  rest_then k (in_function y ps line before gs) ss ts us vs kind sep (rest, ws, more, (xs, right, h)) =
      (then_ k (line_of ts) rest, ws, (refl, us, vs, kind, sep, more), (xs, right, subst (λ b. TopNext tree (gs ++ function_with y ps line b ∷ []) before xs) (block_then ss k (line_of ts) rest) h))
  rest_then k (level o line before ls) ss ts us vs kind sep (rest, ws, more, (xs, right, h)) =
      (then_ k (line_of ts) rest, ws, (refl, us, vs, kind, sep, more), (xs, right, subst (λ b. OwnedIn (Next tree ls) o line before b xs) (block_then ss k (line_of ts) rest) h))

  pub rest_function : (f : Function) (gs : List Function) (ss : List StatementIs) (ts us vs : Lexemes) → DerivesFunction f ts us → Separates true us vs → TopRest tree (gs ++ f ∷ []) ss vs → TopRest tree gs ss ts
  rest_function f gs ss ts us vs d sep (i, ws, more, end, same) = (function_then f i, ws, (us, vs, d, sep, more), end, sym (functions_then gs f ss i) ∙ same)

  -- what comes next in a block
  pub data RestCase (ls : Levels) (ss : List StatementIs) (ts : Lexemes) : Type 0 where
    the_end : Closed tree ls (all_block ss no_more) ts → RestCase ls ss ts
    a_statement : (k : Kind) (us vs : Lexemes) → DerivesKind k ts us → Separates (ends_with_brace k) us vs → Rest tree ls (ss ++ (k, line_of ts) ∷ []) vs → RestCase ls ss ts
    a_function : (f : Function) (gs : List Function) (us vs : Lexemes) → ls ≡ top gs → DerivesFunction f ts us → Separates true us vs → TopRest tree (gs ++ f ∷ []) ss vs → RestCase ls ss ts

  pub rest_case : (ls : Levels) (ss : List StatementIs) (ts : Lexemes) → Rest tree ls ss ts → RestCase ls ss ts
  rest_case (top gs) ss ts (no_items, us, same, end, is) = the_end (subst (λ z. IsPunctuation m.End z []) (sym same) end, sym (items_so_far gs ss) ∙ is)
  rest_case (top gs) ss ts (function_then f i, us, (vs, ws, d, sep, more), end, is) = a_function f gs vs ws refl d sep (i, us, more, end, functions_then gs f ss i ∙ is)
  rest_case (top gs) ss ts (statement_then k l i, us, (same, vs, ws, kind, sep, more), end, is) =
      a_statement k vs ws kind sep (i, us, more, end, items_then gs ss k (line_of ts) i ∙ ap (λ n. all_items gs ss (statement_then k n i)) same ∙ is)
  rest_case (in_function y ps line before gs) ss ts (no_more, us, same, h) = the_end (subst (λ z. Closed tree (in_function y ps line before gs) (all_block ss no_more) z) (sym same) h)
  rest_case (in_function y ps line before gs) ss ts (then_ k l rest, us, (same, vs, ws, kind, sep, more), (xs, right, h)) =
      a_statement k vs ws kind sep
      (rest, us, more, (xs, right, subst (λ b. TopNext tree (gs ++ function_with y ps line b ∷ []) before xs) (sym (block_then ss k (line_of ts) rest ∙ ap (λ n. all_block ss (then_ k n rest)) same)) h))
  rest_case (level o line before ls) ss ts (no_more, us, same, h) = the_end (subst (λ z. Closed tree (level o line before ls) (all_block ss no_more) z) (sym same) h)
  rest_case (level o line before ls) ss ts (then_ k l rest, us, (same, vs, ws, kind, sep, more), (xs, right, h)) =
      a_statement k vs ws kind sep
      (rest, us, more, (xs, right, subst (λ b. OwnedIn (Next tree ls) o line before b xs) (sym (block_then ss k (line_of ts) rest ∙ ap (λ n. all_block ss (then_ k n rest)) same)) h))
