-- The rest of a list begins with its first element.
use Rattle.std.proofs.Common.{◌≡◌, sym, ap, ℕ, suc, ◌+◌, ◌<◌, List, ◌∷◌, map, drop, length, get_or, drop-cons, add-one}

pub rest_more : {A B : Type 0} (view : A → B) (xs : List A) (i : ℕ) (x : A) → i < length xs → x ≡ get_or xs i x → map view (drop i xs) ≡ view x ∷ map view (drop (i + 1) xs)
rest_more view xs i x h is = rw (add-one, drop-cons xs i x) (ap (λ z. view z ∷ map view (drop (suc i) xs)) (sym is))
