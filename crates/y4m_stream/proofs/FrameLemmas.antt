-- Another frame, and what is wrong where there is none.
use Rattle.std.proofs.Common.{◌≡◌, ℕ, ◌+◌, ◌<◌, ◌≤◌, List, [], ◌∷◌, ◌++◌, length, take, drop, Some, None, is_none, Bool, true, false, ◌||◌, inl, inr, refl, sym, ◌∙◌, ap, arith, eq-eqb, ne_eqb}
use Rattle.std.specs.List.{position, position_or_len, after_first}
use Rattle.std.proofs.lemmas.List.{drop-append-le, length-append, drop-drop, map-append, get_or_append_left, get_or_at}
use Rattle.std.proofs.lemmas.Bool.{cases_lt, lt-ltb, le-ltb}
use Rattle.y4m_stream.specs.declared.fault.Y4mFault.TheVariants.{NoFrames, TooManyFrames, BadFrame, Truncated}
use Rattle.y4m_stream.specs.ReadAhead.{Passes}
use Rattle.y4m_stream.specs.Frames.{IsNext, AreApart, frames_at}
use Rattle.y4m_stream.specs.Stream.{is_newline, is_bad, is_cut, fault_after, IsFrame, FramesThen}
use Rattle.y4m_stream.proofs.PlaceLemmas.{position_or_len-append}
use Rattle.y4m_stream.proofs.WindowLemmas.{same_bad}

-- what is wrong after k frames
module _ (size k : ℕ) where
  pub nothing_first : (left : List ℕ) → left ≡ [] → k ≡ 0 → fault_after size k left ≡ Some NoFrames
  nothing_first [] is none = rw none refl
  nothing_first (byte ∷ left) is none = absurd (let no : ⊥ = cc in no)

  pub too_many : (left : List ℕ) → 0 < length left → k ≡ 1000000 → fault_after size k left ≡ Some TooManyFrames
  too_many [] some most = absurd (omega arith)
  too_many (byte ∷ left) some most = rw (eq-eqb k 1000000 most) refl

  pub bad_next : (left : List ℕ) → 0 < length left → (k ≡ 1000000 → ⊥) → is_bad left ≡ true → fault_after size k left ≡ Some (BadFrame k)
  bad_next [] some few bad = absurd (omega arith)
  bad_next (byte ∷ left) some few bad = rw (ne_eqb k 1000000 few, bad) refl

  pub cut_next : (left : List ℕ) → 0 < length left → (k ≡ 1000000 → ⊥) → is_bad left ≡ false → is_cut size left ≡ true → fault_after size k left ≡ Some (Truncated k)
  cut_next [] some few good cut = absurd (omega arith)
  cut_next (byte ∷ left) some few good cut = rw (ne_eqb k 1000000 few, good, cut) refl

or_true : (b : Bool) → (b || true) ≡ true
or_true true = refl
or_true false = refl

found_some : (left : List ℕ) → position_or_len is_newline left < length left → is_none (position is_newline left) ≡ false
found_some left inside = rw (lt-ltb (position_or_len is_newline left) (length left) inside) refl

pub no_end : (size : ℕ) (left : List ℕ) → position is_newline left ≡ None → is_cut size left ≡ true
no_end size left none = rw none refl

-- count bytes were passed after the head
module _ (left window rest after : List ℕ) (len size count : ℕ) (is : left ≡ window ++ rest) (enough : length window < 4096 → rest ≡ []) (good : is_bad window ≡ false)
    (len_is : len ≡ position_or_len is_newline window + 1) (inside : len ≤ length window) (skips : Passes (drop len window ++ rest) after size count) where
  place : position_or_len is_newline left ≡ position_or_len is_newline window
  place = ap (position_or_len is_newline) is ∙ position_or_len-append is_newline window rest (omega arith)

  ends : is_none (position is_newline left) ≡ false
  ends = found_some left (omega (arith, place, ap length is, length-append window rest))

  past_head : after_first is_newline left ≡ drop len window ++ rest
  past_head = ap (λ n. drop n left) (ap (λ n. n + 1) place ∙ sym len_is) ∙ ap (λ (l : List ℕ). drop len l) is ∙ drop-append-le len window rest inside

  pub good_head : is_bad left ≡ false
  good_head = same_bad left window rest is enough ∙ good

  pub short_of : count < size → is_cut size left ≡ true
  short_of few = rw (lt-ltb (length (after_first is_newline left)) size (omega (arith, few, skips.amount, ap length past_head))) (or_true (is_none (position is_newline left)))

  pub next : count ≡ size → IsNext len size left after
  next whole = record {
    len_is = len_is ∙ ap (λ n. n + 1) (sym place);
    frame = record {
      good = good_head;
      whole = rw (ends, le-ltb (length (after_first is_newline left)) size (omega (arith, whole, skips.amount, ap length past_head))) refl;
      frame_is = ap (λ n. take size (drop n left)) (len_is ∙ ap (λ n. n + 1) (sym place));
      rest_is = skips.rest ∙ ap (λ n. drop n (drop len window ++ rest)) whole ∙ ap (λ (l : List ℕ). drop size l) (sym past_head);
    };
  }

-- another frame after the others
pub frames_more : (size : ℕ) (text : List ℕ) (frames : List (List ℕ)) (rest content after : List ℕ) → FramesThen size text frames rest → IsFrame size rest content after → FramesThen size text (frames ++ content ∷ []) after
frames_more size text [] rest content after none frame = (after, rw none at frame, refl)
frames_more size text (first ∷ frames) rest content after then frame = (then.0, then.1, frames_more size then.0 frames rest content after then.2 frame)

-- what is left after a frame at a place
module _ (told : List ℕ) (size place len : ℕ) (after : List ℕ) (next : IsNext len size (drop place told) after) where
  content_there : take size (drop len (drop place told)) ≡ take size (drop (place + len) told)
  content_there = ap (λ (l : List ℕ). take size l) (drop-drop len place told)

  pub left_there : after ≡ drop (place + len + size) told
  left_there =
      let frame = next.frame in
      frame.rest_is ∙ ap (λ n. drop size (drop n (drop place told))) (sym next.len_is) ∙ ap (λ (l : List ℕ). drop size l) (drop-drop len place told) ∙ drop-drop size (place + len) told

  pub more_frames : (text : List ℕ) (offsets : List ℕ) → FramesThen size text (frames_at told size offsets) (drop place told) → FramesThen size text (frames_at told size (offsets ++ (place + len) ∷ [])) (drop (place + len + size) told)
  more_frames text offsets before =
      let frame : IsFrame size (drop place told) (take size (drop (place + len) told)) (drop (place + len + size) told) = rw (content_there, left_there) at next.frame in
      rw (map-append (λ offset. take size (drop offset told)) offsets ((place + len) ∷ [])) (frames_more size text (frames_at told size offsets) (drop place told) _ _ before frame)

-- another offset
pub more_apart : (size place len : ℕ) (offsets : List ℕ) → AreApart size place offsets → AreApart size (place + len + size) (offsets ++ (place + len) ∷ [])
more_apart size place len offsets before = record {
  apart = λ n within. elim (cases_lt (n + 1) (length offsets)) [
    | inl inner ↦ rw (get_or_append_left offsets ((place + len) ∷ []) 0 n (omega (arith, inner)), get_or_append_left offsets ((place + len) ∷ []) 0 (n + 1) inner) (before.apart n inner)
    | inr last ↦ (let here : length offsets ≡ n + 1 = omega (arith, within, last, length-append offsets ((place + len) ∷ [])) in
        let ended = before.ends n (omega arith) in
        rw (get_or_append_left offsets ((place + len) ∷ []) 0 n (omega arith), get_or_at offsets (place + len) [] 0 (n + 1) here) (omega arith))
  ];
  ends = λ n within. elim (cases_lt n (length offsets)) [
    | inl inner ↦ (let ended = before.ends n inner in rw (get_or_append_left offsets ((place + len) ∷ []) 0 n inner) (omega arith))
    | inr last ↦ (let here : length offsets ≡ n = omega (arith, within, last, length-append offsets ((place + len) ∷ [])) in rw (get_or_at offsets (place + len) [] 0 n here) (omega arith))
  ];
}
