-- Bytes are read in one way.
use Rattle.std.proofs.Common.{map, ◌≡◌, ◌⊎◌, ℕ, zero, suc, ◌+◌, ◌<◌, ◌≤◌, List, [], ◌∷◌, length, take, drop, Option, Some, None, is_none, Bool, true, false, ◌||◌, nat_lt, inl, inr, refl, sym, ◌∙◌, ap, arith, eqb, eqb-true, ne_eqb}
use Rattle.std.specs.List.{position, position_or_len, after_first}
use Rattle.std.proofs.lemmas.List.{length-drop}
use Rattle.std.proofs.lemmas.Bool.{cases_Bool, cases_lt, eqb-false}
use Rattle.fv_plane.specs.declared.format.Info.{Info}
use Rattle.y4m_stream.specs.declared.fault.Y4mFault.{Y4mFault}
use Rattle.y4m_stream.specs.declared.fault.Y4mFault.TheVariants.{NoFrames, TooManyFrames, BadFrame, Truncated}
use Rattle.fv_plane.specs.Picture.{Picture, picture_of, Clip}
use Rattle.y4m_stream.specs.Laws.{ReadsOneWay}
use Rattle.y4m_stream.specs.Stream.{is_newline, is_bad, is_cut, fault_after, IsFrame, FramesThen, head_fault, head_info, size_of, body, ConsistsOf, Stream, BreaksBy, HasFault}
use Rattle.y4m_stream.proofs.PlaceLemmas.{some_at}
use Rattle.y4m_stream.proofs.FrameLemmas.{nothing_first, too_many, bad_next, cut_next}

-- where frames end: nothing is left, or something is wrong
abbrev Stops : ℕ → ℕ → List ℕ → Type 0
Stops size k rest = ((rest ≡ []) × (0 < k)) ⊎ ((fault : Y4mFault) × (fault_after size k rest ≡ Some fault))

-- frames after k others, and where they end
record Reads (size k : ℕ) (text : List ℕ) : Type 0 where
  frames : List (List ℕ)
  rest : List ℕ
  then : FramesThen size text frames rest
  most : k + length frames ≤ 1000000
  stops : Stops size (k + length frames) rest

-- it ends here
ends_here : (size k : ℕ) (text : List ℕ) → k ≤ 1000000 → Stops size k text → Reads size k text
ends_here size k text most stops =
    let none : k ≡ k + 0 = omega arith in
    record { frames = []; rest = text; then = refl; most = omega arith; stops = rw none at stops }

-- a frame comes first
goes_on : (size k : ℕ) (text content after : List ℕ) → IsFrame size text content after → Reads size (suc k) after → Reads size k text
goes_on size k text content after frame reads =
    let more : suc k + length reads.frames ≡ k + length (content ∷ reads.frames) = omega arith in
    record { frames = content ∷ reads.frames; rest = reads.rest; then = (after, frame, reads.then); most = (let few = reads.most in omega arith); stops = rw more at reads.stops }

not_cut : (none small : Bool) → (none || small) ≡ false → none ≡ false
not_cut true small is = absurd (let no : ⊥ = cc in no)
not_cut false small is = refl

has_newline : (text : List ℕ) (o : Option ℕ) → position is_newline text ≡ o → is_none o ≡ false → position_or_len is_newline text < length text
has_newline text None is some = absurd (let no : ⊥ = cc in no)
has_newline text (Some end) is some = let at = some_at is_newline text end is in omega (arith, at.0, at.1)

-- after a frame less is left
less_left : (size n : ℕ) (text : List ℕ) → is_cut size text ≡ false → length text ≤ suc n → length (drop size (after_first is_newline text)) ≤ n
less_left size n text whole few =
    let inside = has_newline text (position is_newline text) refl (not_cut (is_none (position is_newline text)) (nat_lt (length (after_first is_newline text)) size) whole) in
    omega (arith, inside, few, length-drop size (after_first is_newline text), length-drop (position_or_len is_newline text + 1) text)

reads : (size n k : ℕ) (text : List ℕ) → length text ≤ n → k ≤ 1000000 → Reads size k text
reads size n k [] few most = ends_here size k [] most (elim (cases_lt 0 k) [
  | inl some ↦ inl (refl, some)
  | inr none ↦ inr (NoFrames, nothing_first size k [] refl (omega arith))
])
reads size zero k (byte ∷ left) few most = absurd (omega arith)
reads size (suc n) k (byte ∷ left) few most =
    let text : List ℕ = byte ∷ left in
    elim (cases_Bool (eqb k 1000000)) [
      | inl full ↦ ends_here size k text most (inr (TooManyFrames, too_many size k text (omega arith) (eqb-true k 1000000 full)))
      | inr room ↦ elim (cases_Bool (is_bad text)) [
        | inl bad ↦ ends_here size k text most (inr (BadFrame k, bad_next size k text (omega arith) (eqb-false k 1000000 room) bad))
        | inr good ↦ elim (cases_Bool (is_cut size text)) [
          | inl cut ↦ ends_here size k text most (inr (Truncated k, cut_next size k text (omega arith) (eqb-false k 1000000 room) good cut))
          | inr whole ↦ (let other = eqb-false k 1000000 room in
              let after : List ℕ = drop size (after_first is_newline text) in
              goes_on size k text (take size (after_first is_newline text)) after (record { good = good; whole = whole; frame_is = refl; rest_is = refl })
              (reads size n (suc k) after (less_left size n text whole few) (elim (cases_lt k 1000000) [ inl less ↦ omega arith | inr past ↦ absurd (other (omega arith)) ])))
        ]
      ]
    ]

-- no frame is where frames end
no_frame : (size k : ℕ) (text content after : List ℕ) → IsFrame size text content after → k < 1000000 → Stops size k text → ⊥
no_frame size k [] content after frame few stops = (let whole = frame.whole in let no : ⊥ = cc in no)
no_frame size k (byte ∷ left) content after frame few (inl none) = (let is = none.0 in let no : ⊥ = cc in no)
no_frame size k (byte ∷ left) content after frame few (inr wrong) =
    let is = wrong.1 in
    let none : fault_after size k (byte ∷ left) ≡ None = rw (ne_eqb k 1000000 (λ (all : k ≡ 1000000). omega arith), frame.good, frame.whole) refl in
    (let no : ⊥ = cc (is, none) in no)

-- two readings of a text agree
same_reading : (size k : ℕ) (text : List ℕ) (one other : List (List ℕ)) (rest left : List ℕ) → FramesThen size text one rest → FramesThen size text other left → k + length one ≤ 1000000 → k + length other ≤ 1000000
    → Stops size (k + length one) rest → Stops size (k + length other) left → (one ≡ other) × (rest ≡ left)
same_reading size k text [] [] rest left first second few small stops ends = (refl, first ∙ sym second)
same_reading size k text [] (content ∷ other) rest left first second few small stops ends =
    absurd (let here : k + 0 ≡ k = omega arith in let stops_here : Stops size k text = rw (here, first) at stops in no_frame size k text content second.0 second.1 (omega arith) stops_here)
same_reading size k text (content ∷ one) [] rest left first second few small stops ends =
    absurd (let here : k + 0 ≡ k = omega arith in let stops_here : Stops size k text = rw (here, second) at ends in no_frame size k text content first.0 first.1 (omega arith) stops_here)
same_reading size k text (content ∷ one) (sample ∷ other) rest left first second few small stops ends =
    let a = first.1 in
    let b = second.1 in
    let after : first.0 ≡ second.0 = a.rest_is ∙ sym b.rest_is in
    let more : k + length (content ∷ one) ≡ suc k + length one = omega arith in
    let again : k + length (sample ∷ other) ≡ suc k + length other = omega arith in
    let later = same_reading size (suc k) second.0 one other rest left (rw after at first.2) second.2 (omega arith) (omega arith) (rw more at stops) (rw again at ends) in
    (ap (λ (l : List ℕ). l ∷ one) (a.frame_is ∙ sym b.frame_is) ∙ ap (λ (l : List (List ℕ)). sample ∷ l) later.0, later.1)

from_zero : (n : ℕ) → n ≡ 0 + n
from_zero n = omega arith

by_stop : (bytes : List ℕ) → head_fault bytes ≡ None → (found : Reads (size_of bytes) 0 (body bytes)) → Stops (size_of bytes) (0 + length found.frames) found.rest
    → ((clip : Clip) × Stream bytes clip) ⊎ ((fault : Y4mFault) × HasFault bytes fault)
by_stop bytes sound found (inl whole) =
    let info : Info = head_info bytes (length found.frames) in
    let consists : ConsistsOf bytes info found.frames
    = record { head = sound; info_is = refl; frames_are = rw whole.0 at found.then; some = (let some = whole.1 in omega arith); most = (let most = found.most in omega arith) } in
    inl (record { info = info; pictures = map (picture_of info.shape) found.frames }, record { frames = found.frames; consists = consists; pictures_are = refl })
by_stop bytes sound found (inr wrong) =
    inr (wrong.0, inr (sound, record { frames = found.frames; rest = found.rest; before = found.then; most = (let most = found.most in omega arith); fault_is = ap (λ n. fault_after (size_of bytes) n found.rest) (from_zero (length found.frames)) ∙ wrong.1 }))

stream_or_fault : (bytes : List ℕ) (o : Option Y4mFault) → head_fault bytes ≡ o → ((clip : Clip) × Stream bytes clip) ⊎ ((fault : Y4mFault) × HasFault bytes fault)
stream_or_fault bytes (Some fault) is = inr (fault, inl is)
stream_or_fault bytes None is =
    let found = reads (size_of bytes) (length (body bytes)) 0 (body bytes) (omega arith) (omega arith) in
    by_stop bytes is found found.stops

-- the frames of a stream end where nothing is left
stops_of : (bytes : List ℕ) (info : Info) (frames : List (List ℕ)) → ConsistsOf bytes info frames → Stops (size_of bytes) (0 + length frames) []
stops_of bytes info frames stream = inl (refl, let some = stream.some in omega arith)

breaks_at : (size : ℕ) (text : List ℕ) (fault : Y4mFault) (broken : BreaksBy size text fault) → Stops size (0 + length broken.frames) broken.rest
breaks_at size text fault broken = inr (fault, ap (λ n. fault_after size n broken.rest) (sym (from_zero (length broken.frames))) ∙ broken.fault_is)

some_agree : (one other : Y4mFault) → Some one ≡ Some other → one ≡ other
some_agree one other is = cc

one_of : (bytes : List ℕ) (one other : Y4mFault) → HasFault bytes one → HasFault bytes other → one ≡ other
one_of bytes one other (inl first) (inl second) = some_agree one other (sym first ∙ second)
one_of bytes one other (inl first) (inr second) = absurd (let is = second.0 in let no : ⊥ = cc (first, is) in no)
one_of bytes one other (inr first) (inl second) = absurd (let is = first.0 in let no : ⊥ = cc (second, is) in no)
one_of bytes one other (inr first) (inr second) =
    let a = first.1 in
    let b = second.1 in
    let same = same_reading (size_of bytes) 0 (body bytes) a.frames b.frames a.rest b.rest a.before b.before (let most = a.most in omega arith) (let most = b.most in omega arith) (breaks_at _ _ one a) (breaks_at _ _ other b) in
    some_agree one other (sym a.fault_is ∙ ap (λ (l : List (List ℕ)). fault_after (size_of bytes) (length l) a.rest) same.0 ∙ ap (λ (l : List ℕ). fault_after (size_of bytes) (length b.frames) l) same.1 ∙ b.fault_is)

not_both_of : (bytes : List ℕ) (info : Info) (frames : List (List ℕ)) (fault : Y4mFault) → ConsistsOf bytes info frames → HasFault bytes fault → ⊥
not_both_of bytes info frames fault stream (inl wrong) = (let sound = stream.head in let no : ⊥ = cc (sound, wrong) in no)
not_both_of bytes info frames fault stream (inr wrong) =
    let a = wrong.1 in
    let same = same_reading (size_of bytes) 0 (body bytes) frames a.frames [] a.rest stream.frames_are a.before (let most = stream.most in omega arith) (let most = a.most in omega arith) (stops_of bytes info frames stream) (breaks_at _ _ fault a) in
    let some = stream.some in
    let none : fault_after (size_of bytes) (length a.frames) [] ≡ None = rw (ne_eqb (length a.frames) 0 (λ (all : length a.frames ≡ 0). omega (arith, ap length same.0, some))) refl in
    let wrong_here : fault_after (size_of bytes) (length a.frames) [] ≡ Some fault = ap (λ (l : List ℕ). fault_after (size_of bytes) (length a.frames) l) same.1 ∙ a.fault_is in
    (let no : ⊥ = cc (none, wrong_here) in no)

one_consists : (bytes : List ℕ) (one other : Info) (frames others : List (List ℕ)) → ConsistsOf bytes one frames → ConsistsOf bytes other others → (one ≡ other) × (frames ≡ others)
one_consists bytes one other frames others first second =
    let same = same_reading (size_of bytes) 0 (body bytes) frames others [] [] first.frames_are second.frames_are (let most = first.most in omega arith) (let most = second.most in omega arith) (stops_of bytes one frames first)
    (stops_of bytes other others second) in
    (first.info_is ∙ ap (λ (l : List (List ℕ)). head_info bytes (length l)) same.0 ∙ sym second.info_is, same.0)

same_clip : (one other : Clip) → one.info ≡ other.info → one.pictures ≡ other.pictures → one ≡ other
same_clip one other infos pictures =
    let make : Info → List Picture → Clip = λ info pictures. record { info = info; pictures = pictures } in
    ap (λ (info : Info). make info one.pictures) infos ∙ ap (λ (l : List Picture). make other.info l) pictures

one_clip_of : (bytes : List ℕ) (one other : Clip) → Stream bytes one → Stream bytes other → one ≡ other
one_clip_of bytes one other first second =
    let same = one_consists bytes one.info other.info first.frames second.frames first.consists second.consists in
    let frames = ap (λ (l : List (List ℕ)). map (picture_of one.info.shape) l) same.1 in
    let shapes = ap (λ (info : Info). map (picture_of info.shape) second.frames) same.0 in
    same_clip one other same.0 (first.pictures_are ∙ frames ∙ shapes ∙ sym second.pictures_are)

pub reads_one_way : ReadsOneWay
reads_one_way = record {
  some = λ bytes. stream_or_fault bytes (head_fault bytes) refl;
  not_both = λ bytes clip fault stream wrong. not_both_of bytes clip.info stream.frames fault stream.consists wrong;
  one_clip = one_clip_of;
  one_fault = one_of;
}
