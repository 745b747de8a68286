-- Bytes that were read ahead, and what is left after them.
use Rattle.std.proofs.Common.{◌≡◌, ℕ, ◌+◌, ◌-◌, ◌<◌, ◌≤◌, List, [], ◌++◌, length, take, drop, min, sym, ◌∙◌, ap, arith}
use Rattle.std.proofs.lemmas.List.{drop-drop, drop-take, take-append-drop, drop-append-le, length-append, length-drop, length-take, length-take-le, take_at, drop_at, take-append-le, nil_from_length, append_assoc}
use Rattle.std.proofs.Math.Seq.{take-add, paste}
use Rattle.std.proofs.lemmas.List.Edits.{length-paste, take-paste}
use Rattle.fv_io.specs.Reading.{Fills}
use Rattle.y4m_stream.specs.ReadAhead.{Passes}

-- bytes at the front of a window are passed
pub consumed : (buf : List ℕ) (start end count : ℕ) → start + count ≤ end → take (end - (start + count)) (drop (start + count) buf) ≡ drop count (take (end - start) (drop start buf))
consumed buf start end count inside =
    ap (λ (l : List ℕ). take (end - (start + count)) l) (ap (λ n. drop n buf) (omega arith) ∙ sym (drop-drop count start buf))
    ∙ sym (ap (λ n. drop count (take n (drop start buf))) (let e : end - start ≡ count + (end - (start + count)) = omega arith in e) ∙ drop-take count (end - (start + count)) (drop start buf))

-- bytes in place of those from an offset on
abbrev pub put_from : ℕ → ℕ → List ℕ → List ℕ → List ℕ
put_from at size buf piece = take at buf ++ (piece ++ drop size (drop at buf))

-- bytes are moved to the front, and a piece is read after them
module _ (told buf moved piece : List ℕ) (start have room place now count : ℕ) (is_moved : moved ≡ paste buf 0 (drop start buf) have) (few : have ≤ length (drop start buf)) (fills : Fills (drop place told) count piece) (bound : count ≤ length piece)
    (here : now ≡ place + count) where
  abbrev put : List ℕ
  put = put_from have room moved piece

  moved_size : length moved ≡ length buf
  moved_size = ap length is_moved ∙ length-paste buf 0 (drop start buf) have (omega (arith, few, length-drop start buf)) few

  front : take have moved ≡ take have (drop start buf)
  front = ap (λ (l : List ℕ). take have l) is_moved ∙ ap (λ n. take n (paste buf 0 (drop start buf) have)) (let e : have ≡ 0 + have = omega arith in e) ∙ take-paste buf 0 (drop start buf) have (omega arith) few

  inside : have ≤ length moved
  inside = omega (arith, moved_size, few, length-drop start buf)

  window : take (have + count) put ≡ take have (drop start buf) ++ take count piece
  window =
      take-add have count put
      ∙ ap (λ (l : List ℕ). l ++ take count (drop have put)) (take_at (take have moved) _ have (length-take-le have moved inside) ∙ front)
      ∙ ap (λ (l : List ℕ). take have (drop start buf) ++ take count l) (drop_at (take have moved) _ have (length-take-le have moved inside))
      ∙ ap (λ (l : List ℕ). take have (drop start buf) ++ l) (take-append-le count piece _ bound)

  -- the window with what was read, and what is left after it
  pub refilled : take (have + count) put ++ drop now told ≡ take have (drop start buf) ++ drop place told
  refilled =
      ap (λ (l : List ℕ). l ++ drop now told) window ∙ append_assoc (take have (drop start buf)) (take count piece) (drop now told)
      ∙ ap (λ (l : List ℕ). take have (drop start buf) ++ l)
      (ap (λ (l : List ℕ). l ++ drop now told) fills.given ∙ ap (λ n. take count (drop place told) ++ drop n told) (here ∙ omega arith)
      ∙ ap (λ (l : List ℕ). take count (drop place told) ++ l) (sym (drop-drop count place told)) ∙ take-append-drop count (drop place told))

  pub put_size : length piece ≡ room → have + room ≤ length moved → length put ≡ length buf
  put_size sized fits = simp (length-append, length-take, length-drop) (omega (arith, sized, fits, moved_size, inside))

  pub window_size : length (take (have + count) put) ≡ have + count
  window_size = ap length window ∙ length-append (take have (drop start buf)) (take count piece) ∙ (let front = length-take-le have (drop start buf) few in let back = length-take-le count piece bound in omega arith)

  -- a window that isn't full has all that was left
  pub nothing_left : count < length piece → drop now told ≡ []
  nothing_left short = nil_from_length (drop now told) (let ended = fills.ended short in omega (arith, length-drop now told, length-drop place told, ended, here))

-- all that are asked for are ahead
pub passed_ahead : (ahead rest : List ℕ) (size : ℕ) → size ≤ length ahead → Passes (ahead ++ rest) (drop size ahead ++ rest) size size
passed_ahead ahead rest size inside = record {
  amount = omega (arith, length-append ahead rest);
  rest = sym (drop-append-le size ahead rest inside);
}

-- all that are ahead are passed, and then those of the source
module _ (ahead told : List ℕ) (there place now size count : ℕ) (all : there ≡ length ahead) (fewer : there ≤ size) (amount : count ≡ min (size - there) (length (drop place told))) (moved : now ≡ place + count) where
  none_ahead : drop there ahead ≡ []
  none_ahead = nil_from_length (drop there ahead) (omega (arith, length-drop there ahead))

  after_ahead : drop there (ahead ++ drop place told) ≡ drop place told
  after_ahead = drop-append-le there ahead (drop place told) (omega arith) ∙ ap (λ (l : List ℕ). l ++ drop place told) none_ahead

  pub passed_on : Passes (ahead ++ drop place told) (drop there ahead ++ drop now told) size (there + count)
  passed_on = record {
    amount = omega (arith, length-append ahead (drop place told));
    rest =
        ap (λ (l : List ℕ). l ++ drop now told) none_ahead ∙ ap (λ n. drop n told) moved ∙ sym (drop-drop count place told) ∙ sym (ap (λ (l : List ℕ). drop count l) after_ahead)
        ∙ drop-drop count there (ahead ++ drop place told);
  }
