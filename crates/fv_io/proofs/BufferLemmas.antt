-- Another read into a buffer.
use Rattle.std.proofs.Common.{◌≡◌, ℕ, ◌+◌, ◌-◌, ◌≤◌, List, ◌++◌, length, take, drop, sym, ◌∙◌, ap, arith}
use Rattle.std.proofs.lemmas.List.{length-take, length-drop, length-append, length-take-le, take_at, drop_at, take-append-le, drop-drop}
use Rattle.std.proofs.Math.Seq.{take-add}
use Rattle.fv_io.specs.Told.{Reads}

-- bytes in the place of those from a place on
abbrev pub put_from : ℕ → ℕ → List ℕ → List ℕ → List ℕ
put_from at size buf piece = take at buf ++ (piece ++ drop size (drop at buf))

module _ (told buf piece : List ℕ) (start mid have count : ℕ) (fits : have ≤ length buf) (size : length piece ≡ length buf - have) (given : take have buf ≡ take have (drop start told)) (here : mid ≡ start + have) (few : count ≤ length piece)
    (read : Reads told mid count piece) where
  pub more_given : take (have + count) (put_from have (length buf - have) buf piece) ≡ take (have + count) (drop start told)
  more_given =
      take-add have count (put_from have (length buf - have) buf piece)
      ∙ ap (λ (l : List ℕ). l ++ take count (drop have (put_from have (length buf - have) buf piece))) (take_at (take have buf) _ have (length-take-le have buf fits) ∙ given)
      ∙ ap (λ (l : List ℕ). take have (drop start told) ++ take count l) (drop_at (take have buf) _ have (length-take-le have buf fits))
      ∙ ap (λ (l : List ℕ). take have (drop start told) ++ l) (take-append-le count piece _ few ∙ read.given ∙ ap (λ n. take count (drop n told)) here ∙ ap (λ (l : List ℕ). take count l) (sym (drop-drop have start told)))
      ∙ sym (take-add have count (drop start told))

  pub more_inside : have ≤ length (drop start told) → have + count ≤ length (drop start told)
  more_inside inside = omega (arith, length-take count piece, ap length read.given, length-take count (drop mid told), length-drop mid told, length-drop start told)

  pub length-put_from : length (put_from have (length buf - have) buf piece) ≡ length buf
  length-put_from = simp (length-append, length-take, length-drop) (omega arith)
