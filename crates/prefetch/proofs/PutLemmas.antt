-- Pictures, put one after the other.
use Rattle.std.proofs.Common.{◌≡◌, ◌∙◌, ℕ, zero, suc, ◌+◌, List, [], ◌∷◌, ◌++◌, map, take, drop, slice_get, Option, Some, None, Result, Ok, Err, true, sym, refl, ap, subst, arith}
use Rattle.std.specs.Result.{is_err}
use Rattle.std.proofs.lemmas.List.{append_assoc, append-nil, map-append, take-append-drop}
use Rattle.std.proofs.lemmas.List.Concat.{flat_map-append}
use Rattle.std.proofs.lemmas.List.Elements.{All-nil, All-append}
use Rattle.std.proofs.lemmas.List.FromFn.{map-range_with_len_more}
use Rattle.fv_io.specs.declared.source.Failed.{Failed}
use Rattle.fv_io.specs.declared.sink.Sink.{Ghosts}
use Rattle.fv_io.specs.Sink.{Puts, PutsPrefix, SinkFailed}
use Rattle.fv_io.specs.Told.{with_piece}
use Rattle.fv_io.proofs.CallerLemmas.{with_piece_twice, with_no_piece, gets_more, gets_after}
use Rattle.fv_plane.specs.Picture.{bytes_of, Picture, IsPicture}
use Rattle.y4m_stream.specs.Stream.{frame_text, frames_text}
use Rattle.clip_graph.specs.Plan.{Application, key_picture}
use Rattle.serve_machine.specs.Events.{frame_key}
use Rattle.prefetch.specs.Windows.{PutsFrames, PutsPictures, given, pictures_text, pictures_from}

-- TEXTS

pub text_twice : (one other : List Picture) → pictures_text (one ++ other) ≡ pictures_text one ++ pictures_text other
text_twice one other = ap (λ (l : List (List ℕ)). frames_text l) (map-append bytes_of one other) ∙ flat_map-append frame_text (map bytes_of one) (map bytes_of other)

given_twice : (xs ys : List (Option Picture)) → given (xs ++ ys) ≡ given xs ++ given ys
given_twice [] ys = refl
given_twice (None ∷ xs) ys = given_twice xs ys
given_twice (Some x ∷ xs) ys = ap (λ l. x ∷ l) (given_twice xs ys)

-- one item more of a list
one_more : {A : Type 0} (xs : List A) (i : ℕ) (x : A) → slice_get xs i ≡ Some x → take (i + 1) xs ≡ take i xs ++ x ∷ []
one_more xs i x h = let e : i + 1 ≡ suc i = omega arith in subst (λ n. take n xs ≡ take i xs ++ x ∷ []) (sym e) (go xs i h)
  where
    go : (xs : List _) (i : ℕ) → slice_get xs i ≡ Some x → take (suc i) xs ≡ take i xs ++ x ∷ []
    go [] i h = absurd (cc)
    go (y ∷ ys) zero h = let same : y ≡ x = cc in ap (λ z. z ∷ []) same
    go (y ∷ ys) (suc i) h = ap (λ l. y ∷ l) (go ys i h)

text_more : (frames : List (Option Picture)) (i : ℕ) (frame : Option Picture) → slice_get frames i ≡ Some frame → pictures_text (given (take (i + 1) frames)) ≡ pictures_text (given (take i frames)) ++ pictures_text (given (frame ∷ []))
text_more frames i frame at = ap (λ l. pictures_text (given l)) (one_more frames i frame at) ∙ ap pictures_text (given_twice (take i frames) (frame ∷ [])) ∙ text_twice (given (take i frames)) (given (frame ∷ []))

-- the text of all begins with that of the first
text_whole : (frames : List (Option Picture)) (n : ℕ) → pictures_text (given frames) ≡ pictures_text (given (take n frames)) ++ pictures_text (given (drop n frames))
text_whole frames n = ap (λ l. pictures_text (given l)) (sym (take-append-drop n frames)) ∙ ap pictures_text (given_twice (take n frames) (drop n frames)) ∙ text_twice (given (take n frames)) (given (drop n frames))

-- PUTS

pub puts_none : {K : Type 0} (sink : Ghosts K) (old : K) → PutsPictures sink old old []
puts_none sink old = record { put = sym (with_no_piece (sink.bytes old)); whole = All-nil IsPicture; steady = refl }

pub puts_twice : {K : Type 0} (sink : Ghosts K) (old here new : K) (one other : List Picture) → PutsPictures sink old here one → PutsPictures sink here new other → PutsPictures sink old new (one ++ other)
puts_twice sink old here new one other before after = record {
  put = after.put ∙ ap (λ o. with_piece o (pictures_text other)) before.put ∙ with_piece_twice (sink.bytes old) (pictures_text one) (pictures_text other)
      ∙ ap (with_piece (sink.bytes old)) (sym (text_twice one other));
  whole = All-append IsPicture one other before.whole after.whole;
  steady = after.steady ∙ before.steady;
}

module _ {K : Type 0} (sink : Ghosts K) (old here new : K) (frames : List (Option Picture)) (i : ℕ) (frame : Option Picture) (at : slice_get frames i ≡ Some frame) (before : PutsPictures sink old here (given (take i frames))) where
  pub put_more : PutsPictures sink here new (given (frame ∷ [])) → PutsPictures sink old new (given (take (i + 1) frames))
  put_more put =
      subst (PutsPictures sink old new) (sym (ap given (one_more frames i frame at) ∙ given_twice (take i frames) (frame ∷ [])))
      (puts_twice sink old here new (given (take i frames)) (given (frame ∷ [])) before put)

  pub put_cut : PutsPrefix sink here new (pictures_text (given (frame ∷ []))) → PutsPrefix sink old new (pictures_text (given frames))
  put_cut cut =
      let first = pictures_text (given (take i frames)) in
      let text = pictures_text (given (frame ∷ [])) in
      let rest = pictures_text (given (drop (i + 1) frames)) in
      let whole : pictures_text (given frames) ≡ (first ++ text) ++ rest = text_whole frames (i + 1) ∙ ap (λ l. l ++ rest) (text_more frames i frame at) in
      rw whole (gets_more (sink.bytes old) (sink.bytes new) (first ++ text) rest (gets_after (sink.bytes old) (sink.bytes here) (sink.bytes new) first text before.put cut))

-- the sink failed at some frames
pub puts_not : {K : Type 0} (sink : Ghosts K) (old new : K) (frames : List (Option Picture)) (r : Result (Unit {0}) Failed) → true ≡ is_err r → PutsFrames sink old new frames r → SinkFailed sink old new × PutsPrefix sink old new (pictures_text (given frames))
puts_not sink old new frames (Ok u) bad p = absurd (cc)
puts_not sink old new frames (Err e) failed p = (p.failed, p.cut)

-- PICTURES BY NUMBER

pub pictures_more : (b : List (List Picture)) (plan : List Application) (root n count : ℕ) → pictures_from b plan root 0 (n + count) ≡ pictures_from b plan root 0 n ++ pictures_from b plan root n count
pictures_more b plan root n zero = let e : n + zero ≡ n = omega arith in ap (pictures_from b plan root 0) e ∙ sym (append-nil (pictures_from b plan root 0 n))
pictures_more b plan root n (suc count) =
    let f : ℕ → Picture = λ m. key_picture b plan (frame_key root m) in
    let e : n + suc count ≡ (n + count) + 1 = omega arith in
    let g : suc count ≡ count + 1 = omega arith in
    let zero_first : 0 + (n + count) ≡ n + count = omega arith in
    ap (pictures_from b plan root 0) e ∙ map-range_with_len_more f 0 (n + count) (n + count) zero_first
    ∙ ap (λ l. l ++ f (n + count) ∷ []) (pictures_more b plan root n count)
    ∙ append_assoc (pictures_from b plan root 0 n) (pictures_from b plan root n count) (f (n + count) ∷ [])
    ∙ ap (λ l. pictures_from b plan root 0 n ++ l) (sym (ap (pictures_from b plan root n) g ∙ map-range_with_len_more f n count (n + count) refl))
