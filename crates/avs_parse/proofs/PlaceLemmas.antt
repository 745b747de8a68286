-- From the verdict of the machine to what the parser answers, and back.
use Rattle.std.proofs.Common.{◌≡◌, refl, ap, subst, ◌∙◌, ℕ, zero, suc, ◌+◌, ◌-◌, ◌<◌, ◌≤◌, arith, List, [], ◌∷◌, ◌++◌, length, map, append_assoc, length-append, slice_index_or}
use Rattle.std.proofs.lemmas.List.{length-map}
use Rattle.avs_lex.specs.Spelling.{Text}
use Rattle.avs_lex.specs.Tokens.{Tokens, IsTokenList}
use Rattle.avs_lex.specs.declared.token.Token.{Token}
use Rattle.avs_lex.specs.declared.token.TokenKind.TheVariants.{End}
use Rattle.avs_tree.specs.Lexeme.{Lexeme, Lexemes, lexeme_of, lexemes}
use Rattle.avs_tree.specs.Tree.{Script}
use Rattle.avs_tree.specs.Grammar.{IsScript, HasTree}
use Rattle.avs_tree.specs.declared.symbol.Symbol.TheVariants as s
use Rattle.avs_tree.specs.declared.symbol.Punctuation.TheVariants as m
use Rattle.avs_tree.specs.Place.{Verdict, accepts, stops, too_deep, verdict, StopsAt, DeepAt, Answers}
use Rattle.avs_tree.proofs.CallerLemmas.{exact, one_stop, one_deep, never_both, end_is_told}

-- ---- what a verdict says

pub tree_of : (ts : Lexemes) (tree : Script) → verdict ts ≡ accepts tree → HasTree ts tree
tree_of ts tree is = let h : Answers ts (accepts tree) = subst (Answers ts) is (exact ts) in record { derived = h.0; shallow = h.1 }

pub stop_of : (ts : Lexemes) (left : ℕ) → verdict ts ≡ stops left → 0 < left → StopsAt ts left
stop_of ts zero is some = absurd (omega (arith, some))
stop_of ts (suc n) is some = subst (Answers ts) is (exact ts)

pub deep_of : (ts : Lexemes) (left : ℕ) → verdict ts ≡ too_deep left → DeepAt ts left
deep_of ts left is = subst (Answers ts) is (exact ts)

-- ---- what a place says

length_cut : (ts seen : Lexemes) (t : Lexeme) (rest : Lexemes) → ts ≡ seen ++ t ∷ rest → length ts ≡ length seen + suc (length rest)
length_cut ts seen t rest cut = rw cut (length-append seen (t ∷ rest))

pub stop_some : (ts : Lexemes) (left : ℕ) → StopsAt ts left → (0 < left) × (left ≤ length ts)
stop_some ts left h = let e = length_cut ts h.seen h.token h.rest h.cut in (omega (arith, h.place), omega (arith, e, h.place))

pub deep_some : (ts : Lexemes) (left : ℕ) → DeepAt ts left → (0 < left) × (left ≤ length ts)
deep_some ts left h = let e = length_cut ts h.seen h.token h.rest h.cut in (omega (arith, h.place), omega (arith, e, h.place))

pub no_tree_stop : (ts : Lexemes) (left : ℕ) → StopsAt ts left → (tree : Script) → HasTree ts tree → ⊥
no_tree_stop ts left h tree has = h.ends h.rest tree (subst (λ z. IsScript z tree) h.cut has.derived)

pub no_tree_deep : (ts : Lexemes) (left : ℕ) → DeepAt ts left → (tree : Script) → HasTree ts tree → ⊥
no_tree_deep ts left h tree has = let deep = h.deep h.rest tree (subst (λ z. IsScript z tree) h.cut has.derived) in let shallow = has.shallow in omega (arith, deep, shallow)

-- ---- the verdict at a place

begun : (ts seen : Lexemes) (t : Lexeme) (rest : Lexemes) (tree : Script) (more : Lexemes) → ts ≡ seen ++ t ∷ rest → IsScript (ts ++ more) tree → IsScript (seen ++ t ∷ (rest ++ more)) tree
begun ts seen t rest tree more cut h = subst (λ z. IsScript z tree) (ap (λ z. z ++ more) cut ∙ append_assoc seen (t ∷ rest) more) h

stop_by : (ts : Lexemes) (left : ℕ) → StopsAt ts left → (v : Verdict) → Answers ts v → v ≡ stops left
stop_by ts left h (accepts tree) (script, shallow) = absurd (no_tree_stop ts left h tree (record { derived = script; shallow = shallow }))
stop_by ts left h (stops zero) begins = absurd (h.ends (h.rest ++ begins.more) begins.tree (begun ts h.seen h.token h.rest begins.tree begins.more h.cut begins.script))
stop_by ts left h (stops (suc n)) other = ap stops (one_stop ts (suc n) left other h)
stop_by ts left h (too_deep n) deep = absurd (never_both ts left n h deep)

pub verdict_stop : (ts : Lexemes) (left : ℕ) → StopsAt ts left → verdict ts ≡ stops left
verdict_stop ts left h = stop_by ts left h (verdict ts) (exact ts)

deep_by : (ts : Lexemes) (left : ℕ) → (verdict ts ≡ stops 0 → ⊥) → DeepAt ts left → (v : Verdict) → verdict ts ≡ v → Answers ts v → v ≡ too_deep left
deep_by ts left told h (accepts tree) is (script, shallow) = absurd (no_tree_deep ts left h tree (record { derived = script; shallow = shallow }))
deep_by ts left told h (stops zero) is begins = absurd (told is)
deep_by ts left told h (stops (suc n)) is stop = absurd (never_both ts (suc n) left stop h)
deep_by ts left told h (too_deep n) is other = ap too_deep (one_deep ts n left other h)

pub verdict_deep : (ts : Lexemes) (left : ℕ) → (verdict ts ≡ stops 0 → ⊥) → DeepAt ts left → verdict ts ≡ too_deep left
verdict_deep ts left told h = deep_by ts left told h (verdict ts) refl (exact ts)

-- ---- the tokens of a text end with the end of the script

map_last : {A B : Type 0} (f : A → B) (xs : List A) (x : A) → map f (xs ++ x ∷ []) ≡ map f xs ++ f x ∷ []
map_last f [] x = refl
map_last f (y ∷ xs) x = ap (λ ys. f y ∷ ys) (map_last f xs x)

end_lexeme : (text : Text) (t : Token) → t.kind ≡ End → (lexeme_of text t).0 ≡ s.Punctuation m.End
unfolding lexeme_of
end_lexeme text t is = rw is refl

told_last : (text : Text) (before : List Token) (last : Token) → last.kind ≡ End → verdict (lexemes text (before ++ last ∷ [])) ≡ stops 0 → ⊥
told_last text before last ends is =
    end_is_told (lexemes text before) (lexeme_of text last) (end_lexeme text last ends) (subst (λ z. verdict z ≡ stops 0) (map_last (lexeme_of text) before last) is)

-- a last element
record HasLast (P : Token → Type 0) (xs : List Token) : Type 0 where
  before : List Token
  last : Token
  are : xs ≡ before ++ last ∷ []
  holds : P last

last_of : (P : Token → Type 0) (xs : List Token) (k : ℕ) → suc k ≡ length xs → ((d : Token) → P (slice_index_or xs k d)) → HasLast P xs
last_of P [] k size holds = absurd (omega (arith, size))
last_of P (x ∷ []) zero size holds = record { before = []; last = x; are = refl; holds = holds x }
last_of P (x ∷ []) (suc k) size holds = absurd (omega (arith, size))
last_of P (x ∷ y ∷ xs) zero size holds = absurd (omega (arith, size))
last_of P (x ∷ y ∷ xs) (suc k) size holds =
    let more = last_of P (y ∷ xs) k (omega (arith, size)) holds in record { before = x ∷ more.before; last = more.last; are = ap (λ zs. x ∷ zs) more.are; holds = more.holds }

pub list_told : (text : Text) (tokens : List Token) → IsTokenList text tokens → verdict (lexemes text tokens) ≡ stops 0 → ⊥
list_told text tokens list is =
    let size : suc (length tokens - 1) ≡ length tokens = omega (arith, list.some) in
    let found = last_of (λ t. t.kind ≡ End) tokens (length tokens - 1) size (λ d. (list.ended (length tokens - 1) d (omega (arith, list.some))).1 (omega (arith, list.some))) in
    told_last text found.before found.last found.holds (subst (λ z. verdict (lexemes text z) ≡ stops 0) found.are is)

pub tokens_told : (text : Text) (tokens : List Token) → Tokens text tokens → verdict (lexemes text tokens) ≡ stops 0 → ⊥
tokens_told text tokens are is = told_last text are.before (_) refl (subst (λ z. verdict (lexemes text z) ≡ stops 0) are.are is)

pub lexemes_length : (text : Text) (tokens : List Token) → length (lexemes text tokens) ≡ length tokens
lexemes_length text tokens = length-map tokens (lexeme_of text)

-- ---- the tokens of a list

stop_told : (ts : Lexemes) (left : ℕ) → (verdict ts ≡ stops 0 → ⊥) → verdict ts ≡ stops left → StopsAt ts left
stop_told ts zero told is = absurd (told is)
stop_told ts (suc n) told is = stop_of ts (suc n) is (omega arith)

module _ (text : Text) (tokens : List Token) where
  pub list_stop : (left : ℕ) → IsTokenList text tokens → verdict (lexemes text tokens) ≡ stops left → StopsAt (lexemes text tokens) left
  list_stop left list is = stop_told (lexemes text tokens) left (list_told text tokens list) is

  within_list : (left : ℕ) → left ≤ length (lexemes text tokens) → left ≤ length tokens
  within_list left within = let e = lexemes_length text tokens in omega (arith, e, within)

  pub stop_within : (left : ℕ) → StopsAt (lexemes text tokens) left → left ≤ length tokens
  stop_within left h = within_list left ((stop_some (lexemes text tokens) left h).1)

  pub deep_within : (left : ℕ) → DeepAt (lexemes text tokens) left → left ≤ length tokens
  deep_within left h = within_list left ((deep_some (lexemes text tokens) left h).1)

  -- how many are left, from the number of the first of them
  pub numbered : (Is : Lexemes → ℕ → Type 0) (left token : ℕ) → left ≤ length tokens → token ≡ length tokens - left → Is (lexemes text tokens) left → Is (lexemes text tokens) (length (lexemes text tokens) - token)
  numbered Is left token within is h =
      let e = lexemes_length text tokens in
      let same : left ≡ length (lexemes text tokens) - token = omega (arith, e, within, is) in
      subst (Is (lexemes text tokens)) same h
