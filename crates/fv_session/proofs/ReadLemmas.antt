-- Bytes that are read after those that are held.
use Rattle.std.proofs.Common.{◌≡◌, ℕ, ◌+◌, ◌-◌, ◌<◌, ◌≤◌, List, [], ◌++◌, length, take, drop, sym, ◌∙◌, ap, arith}
use Rattle.std.proofs.lemmas.List.{drop-drop, drop-take, take-append-drop, length-append, length-drop, length-take-le, take_at, drop_at, take-append-le, nil_from_length, append_assoc}
use Rattle.std.proofs.Math.Seq.{take-add, paste}
use Rattle.std.proofs.lemmas.List.Edits.{length-paste, take-paste}
use Rattle.fv_io.specs.Told.{Reads}

-- bytes at the front of a window are passed
pub consumed : (buf : List ℕ) (start end count : ℕ) → start + count ≤ end → take (end - (start + count)) (drop (start + count) buf) ≡ drop count (take (end - start) (drop start buf))
consumed buf start end count inside =
    ap (λ (l : List ℕ). take (end - (start + count)) l) (ap (λ n. drop n buf) (omega arith) ∙ sym (drop-drop count start buf))
    ∙ sym (ap (λ n. drop count (take n (drop start buf))) (let e : end - start ≡ count + (end - (start + count)) = omega arith in e) ∙ drop-take count (end - (start + count)) (drop start buf))

-- bytes in place of those from an offset on
abbrev pub put_from : ℕ → ℕ → List ℕ → List ℕ → List ℕ
put_from at size buf piece = take at buf ++ (piece ++ drop size (drop at buf))

-- bytes are moved to the front, and a piece is read after them
module _ (told buf moved piece : List ℕ) (start have room place now count : ℕ) (is_moved : moved ≡ paste buf 0 (drop start buf) have) (few : have ≤ length (drop start buf)) (reads : Reads told place count piece) (bound : count ≤ length piece)
    (here : now ≡ place + count) where
  abbrev put : List ℕ
  put = put_from have room moved piece

  moved_size : length moved ≡ length buf
  moved_size = ap length is_moved ∙ length-paste buf 0 (drop start buf) have (omega (arith, few, length-drop start buf)) few

  front : take have moved ≡ take have (drop start buf)
  front = ap (λ (l : List ℕ). take have l) is_moved ∙ ap (λ n. take n (paste buf 0 (drop start buf) have)) (let e : have ≡ 0 + have = omega arith in e) ∙ take-paste buf 0 (drop start buf) have (omega arith) few

  inside : have ≤ length moved
  inside = omega (arith, moved_size, few, length-drop start buf)

  window : take (have + count) put ≡ take have (drop start buf) ++ take count piece
  window =
      take-add have count put
      ∙ ap (λ (l : List ℕ). l ++ take count (drop have put)) (take_at (take have moved) _ have (length-take-le have moved inside) ∙ front)
      ∙ ap (λ (l : List ℕ). take have (drop start buf) ++ take count l) (drop_at (take have moved) _ have (length-take-le have moved inside))
      ∙ ap (λ (l : List ℕ). take have (drop start buf) ++ l) (take-append-le count piece _ bound)

  -- the window with what was read, and what is left after it
  pub read_after : take (have + count) put ++ drop now told ≡ take have (drop start buf) ++ drop place told
  read_after =
      ap (λ (l : List ℕ). l ++ drop now told) window ∙ append_assoc (take have (drop start buf)) (take count piece) (drop now told)
      ∙ ap (λ (l : List ℕ). take have (drop start buf) ++ l)
      (ap (λ (l : List ℕ). l ++ drop now told) reads.given ∙ ap (λ n. take count (drop place told) ++ drop n told) (here ∙ omega arith)
      ∙ ap (λ (l : List ℕ). take count (drop place told) ++ l) (sym (drop-drop count place told)) ∙ take-append-drop count (drop place told))

  pub window_size : length (take (have + count) put) ≡ have + count
  window_size = ap length window ∙ length-append (take have (drop start buf)) (take count piece) ∙ (let front = length-take-le have (drop start buf) few in let back = length-take-le count piece bound in omega arith)

  -- nothing comes only at the end
  pub nothing_left : count ≡ 0 → 0 < length piece → drop now told ≡ []
  nothing_left none some = nil_from_length (drop now told) (let ended = reads.ended none some in omega (arith, length-drop now told, ended, here))
