-- The walk over the frames of a file finds what the definition of streams says.
use Rattle.std.proofs.Common.{◌≡◌, ℕ, zero, suc, ◌+◌, ◌<◌, ◌≤◌, List, [], ◌∷◌, length, drop, Option, Some, None, Ok, Err, is_none, Bool, true, false, ◌||◌, nat_lt, inl, inr, refl, sym, ◌∙◌, ap, arith, ne_eqb}
use Rattle.std.specs.List.{position, position_or_len, after_first}
use Rattle.std.proofs.lemmas.List.{length-drop}
use Rattle.fv_plane.specs.Picture.{Clip}
use Rattle.y4m_stream.specs.declared.fault.Y4mFault.{Y4mFault}
use Rattle.y4m_stream.specs.Stream.{is_newline, is_cut, fault_after, FramesThen, size_of, body, Stream, HasFault}
use Rattle.y4m_stream.proofs.PlaceLemmas.{some_at}
use Rattle.avs_meaning.specs.Laws.{ClipsAreStreams}
use Rattle.avs_meaning.specs.State.{frames_by, frames_from, info_by, stream_by, clip_in}
use Rattle.avs_meaning.specs.declared.fault.InputFault.TheVariants as i

not_cut : (none small : Bool) → (none || small) ≡ false → none ≡ false
not_cut true small is = absurd (let no : ⊥ = cc in no)
not_cut false small is = refl

has_newline : (text : List ℕ) (o : Option ℕ) → position is_newline text ≡ o → is_none o ≡ false → position_or_len is_newline text < length text
has_newline text None is some = absurd (let no : ⊥ = cc in no)
has_newline text (Some end) is some = let at = some_at is_newline text end is in omega (arith, at.0, at.1)

-- after a frame less is left
less_left : (size n : ℕ) (text : List ℕ) → is_cut size text ≡ false → length text < suc n → length (drop size (after_first is_newline text)) < n
less_left size n text whole few =
    let inside = has_newline text (position is_newline text) refl (not_cut (is_none (position is_newline text)) (nat_lt (length (after_first is_newline text)) size) whole) in
    omega (arith, inside, few, length-drop size (after_first is_newline text), length-drop (position_or_len is_newline text + 1) text)

-- one step, by what comes next
step : (fuel size k : ℕ) (text : List ℕ) (o : Option Y4mFault) → fault_after size k text ≡ o
    → frames_from (suc fuel) size k text ≡ frames_by o k text (frames_from fuel size (k + 1) (drop size (after_first is_newline text)))
unfolding frames_from
step fuel size k text o is = ap (λ next. frames_by next k text (frames_from fuel size (k + 1) (drop size (after_first is_newline text)))) is

-- what is left after these frames, and enough fuel for it
record Skips (fuel size k : ℕ) (text : List ℕ) (count : ℕ) (rest : List ℕ) : Type 0 where
  fuel_left : ℕ
  few : length rest < suc fuel_left
  same : frames_from fuel size k text ≡ frames_from (suc fuel_left) size (k + count) rest

skips : (fuel size k : ℕ) (text : List ℕ) (frames : List (List ℕ)) (rest : List ℕ) → FramesThen size text frames rest → length text < suc fuel → k + length frames ≤ 1000000
    → Skips (suc fuel) size k text (length frames) rest
skips fuel size k text [] rest is few most =
    let none : k ≡ k + 0 = omega arith in
    record { fuel_left = fuel; few = rw is few; same = ap (λ n. frames_from (suc fuel) size n text) none ∙ ap (λ left. frames_from (suc fuel) size (k + 0) left) (sym is) }
skips fuel size k [] (content ∷ frames) rest then few most = (let whole = then.1.whole in absurd (let no : ⊥ = cc in no))
skips zero size k (byte ∷ left) (content ∷ frames) rest then few most = absurd (omega (arith, few))
skips (suc fuel) size k (byte ∷ left) (content ∷ frames) rest then few most =
    let frame = then.1 in
    let none : fault_after size k (byte ∷ left) ≡ None = rw (ne_eqb k 1000000 (λ (all : k ≡ 1000000). omega arith), frame.good, frame.whole) refl in
    let after : List ℕ = drop size (after_first is_newline (byte ∷ left)) in
    let less : length after < suc fuel = less_left size (suc fuel) (byte ∷ left) frame.whole few in
    let later = skips fuel size (k + 1) after frames rest (rw frame.rest_is at then.2) less (omega arith) in
    let count : (k + 1) + length frames ≡ k + length (content ∷ frames) = omega arith in
    record {
      fuel_left = later.fuel_left;
      few = later.few;
      same = step (suc fuel) size k (byte ∷ left) None none ∙ later.same ∙ ap (λ n. frames_from (suc later.fuel_left) size n rest) count;
    }

from_zero : (n : ℕ) → 0 + n ≡ n
from_zero n = omega arith

-- a stream ends after its frames
whole : (bytes : List ℕ) (c : Clip) → Stream bytes c → clip_in (Some bytes) ≡ Ok c.info
whole bytes c stream =
    let consists = stream.consists in
    let n = length stream.frames in
    let long : length (body bytes) < suc (length bytes) = omega (arith, length-drop (position_or_len is_newline bytes + 1) bytes) in
    let most = consists.most in
    let some = consists.some in
    let run = skips (length bytes) (size_of bytes) 0 (body bytes) stream.frames [] consists.frames_are long (omega arith) in
    let none : fault_after (size_of bytes) (0 + n) [] ≡ None = rw (ne_eqb (0 + n) 0 (λ (all : 0 + n ≡ 0). omega (arith, some))) refl in
    let more : length bytes + 1 ≡ suc (length bytes) = omega arith in
    let count : frames_from (length bytes + 1) (size_of bytes) 0 (body bytes) ≡ Ok n
    = ap (λ fuel. frames_from fuel (size_of bytes) 0 (body bytes)) more ∙ run.same ∙ step run.fuel_left (size_of bytes) (0 + n) [] None none ∙ ap Ok (from_zero n) in
    ap (λ o. stream_by o bytes) consists.head ∙ ap (λ o. info_by o bytes) count ∙ ap Ok (sym consists.info_is)

broken : (bytes : List ℕ) (wrong : Y4mFault) → HasFault bytes wrong → clip_in (Some bytes) ≡ Err (i.Y4m wrong)
broken bytes wrong (inl head) = ap (λ o. stream_by o bytes) head
broken bytes wrong (inr later) =
    let it = later.1 in
    let n = length it.frames in
    let most = it.most in
    let long : length (body bytes) < suc (length bytes) = omega (arith, length-drop (position_or_len is_newline bytes + 1) bytes) in
    let run = skips (length bytes) (size_of bytes) 0 (body bytes) it.frames it.rest it.before long (omega arith) in
    let is : fault_after (size_of bytes) (0 + n) it.rest ≡ Some wrong = ap (λ m. fault_after (size_of bytes) m it.rest) (from_zero n) ∙ it.fault_is in
    let more : length bytes + 1 ≡ suc (length bytes) = omega arith in
    let count : frames_from (length bytes + 1) (size_of bytes) 0 (body bytes) ≡ Err wrong
    = ap (λ fuel. frames_from fuel (size_of bytes) 0 (body bytes)) more ∙ run.same ∙ step run.fuel_left (size_of bytes) (0 + n) it.rest (Some wrong) is in
    ap (λ o. stream_by o bytes) later.0 ∙ ap (λ o. info_by o bytes) count

pub clips_are_streams : ClipsAreStreams
clips_are_streams = record { clip = whole; fault = broken }
