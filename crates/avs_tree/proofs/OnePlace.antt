-- The place is the only one of which its facts hold.
use Rattle.std.proofs.Common.{◌≡◌, refl, sym, ap, subst, ◌∙◌, ℕ, suc, arith, ◌⊎◌, inl, inr, [], ◌∷◌, ◌++◌, Some, length, length-append, append_assoc}
use Rattle.avs_tree.specs.Lexeme.{Lexeme, Lexemes}
use Rattle.avs_tree.specs.Tree.{Script}
use Rattle.avs_tree.specs.Grammar.{IsScript}
use Rattle.avs_tree.specs.Place.{BeginsWithin, IsWord, IsWithin, StopsAt, DeepAt}

data Split (a : Lexemes) (x : Lexeme) (b c : Lexemes) (y : Lexeme) (d : Lexemes) : Type 0 where
  same_ : a ≡ c → x ≡ y → b ≡ d → Split a x b c y d
  later : (m : Lexemes) → c ≡ a ++ x ∷ m → Split a x b c y d
  earlier : (m : Lexemes) → a ≡ c ++ y ∷ m → Split a x b c y d

one_more : (z z' : Lexeme) (a b c d : Lexemes) (x y : Lexeme) → z ≡ z' → Split a x b c y d → Split (z ∷ a) x b (z' ∷ c) y d
one_more z z' a b c d x y is (same_ p q r) = same_ (cc) q r
one_more z z' a b c d x y is (later m p) = later m (cc)
one_more z z' a b c d x y is (earlier m p) = earlier m (cc)

split : (a b c d : Lexemes) (x y : Lexeme) → a ++ x ∷ b ≡ c ++ y ∷ d → Split a x b c y d
split [] b [] d x y h = same_ refl (cc) (cc)
split [] b (z ∷ c) d x y h = later c (cc)
split (z ∷ a) b [] d x y h = earlier a (cc)
split (z ∷ a) b (z' ∷ c) d x y h = let first : z ≡ z' = cc in let rest : a ++ x ∷ b ≡ c ++ y ∷ d = cc in one_more z z' a b c d x y first (split a b c d x y rest)

too_long : (before m rest : Lexemes) (word x : Lexeme) → before ++ word ∷ [] ≡ (before ++ word ∷ m) ++ x ∷ rest → ⊥
too_long before m rest word x h =
    omega (arith, ap length h, length-append before (word ∷ []), length-append (before ++ word ∷ m) (x ∷ rest), length-append before (word ∷ m))

last_by : (before a m : Lexemes) (word x : Lexeme) → before ++ word ∷ [] ≡ a ++ x ∷ m → Split before word [] a x m → (word ≡ x) ⊎ ((m' : Lexemes) × (before ≡ a ++ x ∷ m'))
last_by before a m word x h (same_ p q r) = inl q
last_by before a m word x h (later m' p) = absurd (too_long before m' m word x (h ∙ ap (λ z. z ++ x ∷ m) p))
last_by before a m word x h (earlier m' p) = inr (m', p)

module _ (ts : Lexemes) where
  stopped : (n : ℕ) (h : StopsAt ts n) (c m more : Lexemes) (tree : Script) → c ≡ h.seen ++ h.token ∷ m → IsScript (c ++ more) tree → ⊥
  stopped n h c m more tree is script = h.ends (m ++ more) tree (subst (λ z. IsScript z tree) (ap (λ z. z ++ more) is ∙ append_assoc h.seen (h.token ∷ m) more) script)

  too_deep : (n : ℕ) (h : DeepAt ts n) (c m : Lexemes) → c ≡ h.seen ++ h.token ∷ m → BeginsWithin c → ⊥
  too_deep n h c m is w =
      let far = h.deep (m ++ w.more) w.tree (subst (λ z. IsScript z w.tree) (ap (λ z. z ++ w.more) is ∙ append_assoc h.seen (h.token ∷ m) w.more) w.script) in
      let low = w.shallow in omega arith

  past_word : (n : ℕ) (h : DeepAt ts n) (before : Lexemes) (word : Lexeme) → IsWord (Some word.0) → BeginsWithin before → (word ≡ h.token) ⊎ ((m : Lexemes) × (before ≡ h.seen ++ h.token ∷ m)) → ⊥
  past_word n h before word is w (inl same) = h.opens (subst (λ z. IsWord (Some z.0)) same is)
  past_word n h before word is w (inr (m, same)) = too_deep n h before m same w

  not_within : (n : ℕ) (h : DeepAt ts n) (c m : Lexemes) → c ≡ h.seen ++ h.token ∷ m → IsWithin c → ⊥
  not_within n h c m is (inl w) = too_deep n h c m is w
  not_within n h c m is (inr (before, word, same, keyword, w)) =
      past_word n h before word keyword w (last_by before h.seen m word h.token (sym same ∙ is) (split before [] h.seen m word h.token (sym same ∙ is)))

  stops_by : (m n : ℕ) (h : StopsAt ts m) (k : StopsAt ts n) → Split h.seen h.token h.rest k.seen k.token k.rest → m ≡ n
  stops_by m n h k (same_ p q r) = h.place ∙ ap (λ z. suc (length z)) r ∙ sym k.place
  stops_by m n h k (later v p) = absurd (stopped m h k.seen v k.begins.more k.begins.tree p k.begins.script)
  stops_by m n h k (earlier v p) = absurd (stopped n k h.seen v h.begins.more h.begins.tree p h.begins.script)

  deep_by : (m n : ℕ) (h : DeepAt ts m) (k : DeepAt ts n) → Split h.seen h.token h.rest k.seen k.token k.rest → m ≡ n
  deep_by m n h k (same_ p q r) = h.place ∙ ap (λ z. suc (length z)) r ∙ sym k.place
  deep_by m n h k (later v p) = absurd (not_within m h k.seen v p k.within)
  deep_by m n h k (earlier v p) = absurd (not_within n k h.seen v p h.within)

  not_both : (m n : ℕ) (h : StopsAt ts m) (k : DeepAt ts n) → Split h.seen h.token h.rest k.seen k.token k.rest → ⊥
  not_both m n h k (same_ p q r) = stopped m h (k.seen ++ k.token ∷ []) [] k.begins.more k.begins.tree (cc) k.begins.script
  not_both m n h k (later v p) =
      stopped m h (k.seen ++ k.token ∷ []) (v ++ k.token ∷ []) k.begins.more k.begins.tree (ap (λ z. z ++ k.token ∷ []) p ∙ append_assoc h.seen (h.token ∷ v) (k.token ∷ [])) k.begins.script
  not_both m n h k (earlier v p) = not_within n k h.seen v p h.within

  pub one_stop : (m n : ℕ) → StopsAt ts m → StopsAt ts n → m ≡ n
  one_stop m n h k = stops_by m n h k (split h.seen h.rest k.seen k.rest h.token k.token (sym h.cut ∙ k.cut))

  pub one_deep : (m n : ℕ) → DeepAt ts m → DeepAt ts n → m ≡ n
  one_deep m n h k = deep_by m n h k (split h.seen h.rest k.seen k.rest h.token k.token (sym h.cut ∙ k.cut))

  pub never_both : (m n : ℕ) → StopsAt ts m → DeepAt ts n → ⊥
  never_both m n h k = not_both m n h k (split h.seen h.rest k.seen k.rest h.token k.token (sym h.cut ∙ k.cut))
