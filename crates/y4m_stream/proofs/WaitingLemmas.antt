-- Bytes of a buffer that are still to be put, and what was put before them.
use Rattle.std.proofs.Common.{◌≡◌, ℕ, ◌+◌, ◌≤◌, List, [], ◌++◌, length, take, drop, refl, sym, ◌∙◌, ap, arith}
use Rattle.std.proofs.lemmas.List.{append_assoc, append-nil, take_at, length-append, length-take, length-drop, length-take-le}
use Rattle.fv_io.specs.declared.sink.Sink.{Ghosts}
use Rattle.fv_io.specs.Sink.{Puts, PutsPrefix}
use Rattle.fv_io.specs.Told.{with_piece}
use Rattle.fv_io.proofs.CallerLemmas.{with_no_piece, with_piece_twice, gets_after}
use Rattle.y4m_stream.specs.Planes.{PutsAllBut}

-- a row in place of as many bytes, from an offset on
abbrev pub put_from : ℕ → ℕ → List ℕ → List ℕ → List ℕ
put_from end size buf row = take end buf ++ (row ++ drop size (drop end buf))

module _ (buf row : List ℕ) (end size : ℕ) (size_is : size ≡ length row) (fits : end + length row ≤ length buf) where
  pub take-put_from : take (end + length row) (put_from end size buf row) ≡ take end buf ++ row
  take-put_from =
      ap (λ (l : List ℕ). take (end + length row) l) (sym (append_assoc (take end buf) row (drop size (drop end buf))))
      ∙ take_at (take end buf ++ row) (drop size (drop end buf)) (end + length row) (omega (arith, length-append (take end buf) row, length-take-le end buf (omega arith)))

  pub length-put_from : length (put_from end size buf row) ≡ length buf
  length-put_from = simp (length-append, length-take, length-drop) (omega arith)

module _ {K : Type 0} (sink : Ghosts K) where
  -- nothing was put, and all waits
  pub all_waits : (old : K) (text : List ℕ) → PutsAllBut sink old old text text
  all_waits old text = record { sent = []; put = sym (with_no_piece (sink.bytes old)); text_is = refl }

  -- all was put, and nothing waits
  pub none_waits : (old new : K) (text : List ℕ) → Puts sink old new text → PutsAllBut sink old new text []
  none_waits old new text put = record { sent = text; put = put; text_is = sym (append-nil text) }

  -- another piece waits
  pub more_waits : (old new : K) (text waiting row : List ℕ) → PutsAllBut sink old new text waiting → PutsAllBut sink old new (text ++ row) (waiting ++ row)
  more_waits old new text waiting row before =
      record { sent = before.sent; put = before.put; text_is = ap (λ (l : List ℕ). l ++ row) before.text_is ∙ append_assoc before.sent waiting row }

  -- some of what waited was put
  pub fewer_wait : (old mid new : K) (text waiting left : List ℕ) → PutsAllBut sink old mid text waiting → PutsAllBut sink mid new waiting left → PutsAllBut sink old new text left
  fewer_wait old mid new text waiting left before after = record {
    sent = before.sent ++ after.sent;
    put = after.put ∙ ap (λ o. with_piece o after.sent) before.put ∙ with_piece_twice (sink.bytes old) before.sent after.sent;
    text_is = before.text_is ∙ ap (λ (l : List ℕ). before.sent ++ l) after.text_is ∙ sym (append_assoc before.sent after.sent left);
  }

  -- what waited was put
  pub put_rest : (old mid new : K) (text waiting : List ℕ) → PutsAllBut sink old mid text waiting → Puts sink mid new waiting → Puts sink old new text
  put_rest old mid new text waiting before put =
      put ∙ ap (λ o. with_piece o waiting) before.put ∙ with_piece_twice (sink.bytes old) before.sent waiting ∙ ap (λ (l : List ℕ). with_piece (sink.bytes old) l) (sym before.text_is)

  -- a prefix of what waited was put
  pub cut_rest : (old mid new : K) (text waiting : List ℕ) → PutsAllBut sink old mid text waiting → PutsPrefix sink mid new waiting → PutsPrefix sink old new text
  cut_rest old mid new text waiting before cut =
      let whole = gets_after (sink.bytes old) (sink.bytes mid) (sink.bytes new) before.sent waiting before.put cut in
      rw before.text_is whole
