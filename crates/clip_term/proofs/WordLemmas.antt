-- The words of an expression are read as that expression.
use Rattle.std.proofs.Common.{◌≡◌, List, [], ◌∷◌, get_or, refl, ap, ◌∙◌, pos}
use Rattle.clip_term.specs.Expression.{Expr, int, bool, current_frame, of_plane, abs_, min_, max_, minus, not_, chain, compare, group, Exprs, no_exprs, and_expr, Steps, no_steps, and_step, Word, abs_word, min_word, max_word, minus_word, not_word, chain_word, compare_word, group_word, more_word, step_word, words, all_words, step_words, read, tree_of}

mutual
  read_words : (e : Expr) (ws : List Word) (es : List Expr) (ls : List Exprs) (ss : List Steps) → read (words e ws) es ls ss ≡ read ws (e ∷ es) ls ss
  read_words (int z) ws es ls ss = refl
  read_words (bool b) ws es ls ss = refl
  read_words current_frame ws es ls ss = refl
  read_words (of_plane p stat) ws es ls ss = refl
  read_words (abs_ e) ws es ls ss = read_words e (abs_word ∷ ws) es ls ss
  read_words (min_ l) ws es ls ss = read_all l (min_word ∷ ws) es ls ss
  read_words (max_ l) ws es ls ss = read_all l (max_word ∷ ws) es ls ss
  read_words (minus e) ws es ls ss = read_words e (minus_word ∷ ws) es ls ss
  read_words (not_ e) ws es ls ss = read_words e (not_word ∷ ws) es ls ss
  read_words (chain e s) ws es ls ss = read_words e (step_words s (chain_word ∷ ws)) es ls ss ∙ read_steps s (chain_word ∷ ws) (e ∷ es) ls ss
  read_words (compare op a b) ws es ls ss = read_words a (words b (compare_word op ∷ ws)) es ls ss ∙ read_words b (compare_word op ∷ ws) (a ∷ es) ls ss
  read_words (group e) ws es ls ss = read_words e (group_word ∷ ws) es ls ss

  read_all : (l : Exprs) (ws : List Word) (es : List Expr) (ls : List Exprs) (ss : List Steps) → read (all_words l ws) es ls ss ≡ read ws es (l ∷ ls) ss
  read_all no_exprs ws es ls ss = refl
  read_all (and_expr e l) ws es ls ss = read_words e (all_words l (more_word ∷ ws)) es ls ss ∙ read_all l (more_word ∷ ws) (e ∷ es) ls ss

  read_steps : (s : Steps) (ws : List Word) (es : List Expr) (ls : List Exprs) (ss : List Steps) → read (step_words s ws) es ls ss ≡ read ws es ls (s ∷ ss)
  read_steps no_steps ws es ls ss = refl
  read_steps (and_step op e s) ws es ls ss = read_words e (step_words s (step_word op ∷ ws)) es ls ss ∙ read_steps s (step_word op ∷ ws) (e ∷ es) ls ss

pub tree_again : (e : Expr) → tree_of (words e []) ≡ e
tree_again e = ap (λ l. get_or l 0 (int (pos 0))) (read_words e [] [] [] [])
