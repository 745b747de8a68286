-- Rows whose samples are changed one by one.
use Rattle.std.proofs.Common.{◌≡◌, ◌∙◌, ℕ, ◌<◌, List, length, get_or, map, sym, arith}
use Rattle.std.proofs.lemmas.List.{ext_get_or, get_or-map, length-map}

pub mapped : (f : ℕ → ℕ) (old new : List ℕ) → length new ≡ length old → ((k : ℕ) → k < length old → get_or new k 0 ≡ f (get_or old k 0)) → new ≡ map f old
mapped f old new long each =
    ext_get_or 0 new (map f old) (long ∙ sym (length-map old f)) (λ k within. each k (omega (arith, within, long)) ∙ sym (get_or-map f old k 0 0 (omega (arith, within, long))))
