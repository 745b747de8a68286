-- The last parameter with a letter.
use Rattle.std.proofs.Common.{◌≡◌, ℕ, List, [], ◌∷◌, ◌++◌, map, Option, Some, None, refl, sym, ◌∙◌, ap}
use Rattle.std.specs.Borrow.{Bor}
use Rattle.std.proofs.lemmas.List.{map-append}
use Rattle.std.specs.Option.{option_or, option_copied}
use Rattle.y4m_stream.specs.Head.{value_in, value}

or_none : {T : Type 0} (o : Option T) → option_or o None ≡ o
or_none None = refl
or_none (Some x) = refl

or_assoc : {T : Type 0} (a b c : Option T) → option_or (option_or a b) c ≡ option_or a (option_or b c)
or_assoc None b c = refl
or_assoc (Some x) b c = refl

copied_or : (one other : Option (Bor (List ℕ))) → option_copied (option_or one other) ≡ option_or (option_copied one) (option_copied other)
copied_or None other = refl
copied_or (Some x) other = refl

-- a later parameter counts before the others
last_value : (letter : ℕ) (parameters : List (List ℕ)) (last : List ℕ) → value letter (parameters ++ last ∷ []) ≡ option_or (value_in letter last) (value letter parameters)
last_value letter [] last = sym (or_none (value_in letter last))
last_value letter (parameter ∷ parameters) last =
    ap (λ (o : Option (List ℕ)). option_or o (value_in letter parameter)) (last_value letter parameters last) ∙ or_assoc (value_in letter last) (value letter parameters) (value_in letter parameter)

pub one_more : (letter : ℕ) (so_far : List (Bor (List ℕ))) (found here : Option (Bor (List ℕ))) (last : Bor (List ℕ)) → option_copied found ≡ value letter (map (λ p. p.now) so_far) → option_copied here ≡ value_in letter last.now
    → option_copied (option_or here found) ≡ value letter (map (λ p. p.now) (so_far ++ last ∷ []))
one_more letter so_far found here last before is =
    copied_or here found ∙ ap (λ (o : Option (List ℕ)). option_or o (option_copied found)) is ∙ ap (λ (o : Option (List ℕ)). option_or (value_in letter last.now) o) before
    ∙ sym (last_value letter (map (λ p. p.now) so_far) last.now) ∙ ap (value letter) (sym (map-append (λ (p : Bor (List ℕ)). p.now) so_far (last ∷ [])))
