-- Streams that were indexed, for callers.
pub use Rattle.y4m_stream.proofs.PutLemmas.{put_cut, one_more}
pub use Rattle.y4m_stream.proofs.ReadingLemmas.{reads_one_way}
use Rattle.std.proofs.Common.{◌≡◌, ℕ, zero, suc, ◌+◌, ◌<◌, ◌≤◌, List, [], ◌∷◌, length, drop, slice_index, Bool, true, false, ◌||◌, nat_lt, Some, None, is_none, cond, refl, ◌∙◌, ap, arith}
use Rattle.std.specs.List.{position, position_or_len, after_first}
use Rattle.std.proofs.lemmas.List.{length-drop, length-map, drop-drop}
use Rattle.std.proofs.lemmas.Bool.{ltb-false}
use borrow.Author.Tests.{ltb-true}
use Rattle.fv_plane.specs.Picture.{picture_of, Clip}
use Rattle.fv_plane.specs.Format.{frame_bytes}
use Rattle.y4m_stream.specs.Stream.{Indexed, Indexes, line_len, offsets_from, is_newline, size_of, IsFrame, FramesThen}

neither : (none short : Bool) → (none || short) ≡ false → (none ≡ false) × (short ≡ false)
neither true short is = absurd (let no : ⊥ = cc in no)
neither false short is = (refl, is)

found : (there : Bool) (k : ℕ) → is_none (cond there (Some k) None) ≡ false → there ≡ true
found true k is = refl
found false k is = absurd (let no : ⊥ = cc in no)

-- a frame whose head begins at the start is inside the bytes
first_inside : (told : List ℕ) (size start : ℕ) (frame rest : List ℕ) → IsFrame size (drop start told) frame rest → start + line_len told start + size ≤ length told
first_inside told size start frame rest is =
    let text : List ℕ = drop start told in
    let whole = neither (is_none (position is_newline text)) (nat_lt (length (after_first is_newline text)) size) is.whole in
    let line = ltb-true (position_or_len is_newline text) (length text) (found (nat_lt (position_or_len is_newline text) (length text)) (position_or_len is_newline text) whole.0) in
    let enough = ltb-false (length (after_first is_newline text)) size whole.1 in
    omega (arith, line, enough, length-drop (line_len told start) text, length-drop start told)

rest_is : (told : List ℕ) (size start : ℕ) (frame rest : List ℕ) → IsFrame size (drop start told) frame rest → rest ≡ drop (start + line_len told start + size) told
rest_is told size start frame rest is = is.rest_is ∙ ap (λ (l : List ℕ). drop size l) (drop-drop (line_len told start) start told) ∙ drop-drop size (start + line_len told start) told

-- each frame is inside the bytes
all_inside : (told : List ℕ) (size start : ℕ) (frames : List (List ℕ)) (rest : List ℕ) → FramesThen size (drop start told) frames rest → (n : ℕ) → n < length frames
    → slice_index (offsets_from told size start (length frames)) n + size ≤ length told
all_inside told size start [] rest then n within = absurd (omega arith)
all_inside told size start (frame ∷ frames) rest then zero within = first_inside told size start frame then.0 then.1
all_inside told size start (frame ∷ frames) rest then (suc n) within =
    all_inside told size (start + line_len told start + size) frames rest (rw (rest_is told size start frame then.0 then.1) at then.2) n (omega arith)

-- each frame that was indexed is inside the bytes
pub frame_inside : (told : List ℕ) (index : Indexed) (clip : Clip) → Indexes told index clip → (n : ℕ) → n < index.info.frames
    → slice_index index.offsets n + frame_bytes index.info.shape ≤ length told
frame_inside told index clip indexes n within =
    let stream = indexes.stream in
    let consists = stream.consists in
    let frames : index.info.frames ≡ length stream.frames = ap (λ i. i.frames) indexes.info_is ∙ ap (λ i. i.frames) consists.info_is in
    let count : length clip.pictures ≡ length stream.frames = ap length stream.pictures_are ∙ length-map stream.frames (picture_of clip.info.shape) in
    let told_size : frame_bytes clip.info.shape ≡ size_of told = ap (λ i. frame_bytes i.shape) consists.info_is in
    let size : frame_bytes index.info.shape ≡ frame_bytes clip.info.shape = ap (λ i. frame_bytes i.shape) indexes.info_is in
    let offsets : index.offsets ≡ offsets_from told (frame_bytes clip.info.shape) (line_len told 0) (length stream.frames) = indexes.offsets_are ∙ ap (offsets_from told (frame_bytes clip.info.shape) (line_len told 0)) count in
    let then : FramesThen (frame_bytes clip.info.shape) (drop (line_len told 0) told) stream.frames [] = rw told_size consists.frames_are in
    let inside = all_inside told (frame_bytes clip.info.shape) (line_len told 0) stream.frames [] then n (omega arith) in
    rw (offsets, size) inside
