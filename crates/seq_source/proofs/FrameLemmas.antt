-- The frame of a number in bytes that were read, and where it ends.
use Rattle.std.proofs.Common.{◌≡◌, ℕ, ◌+◌, ◌<◌, ◌≤◌, nat_le, Bool, true, false, if◌then◌else◌, List, [], length, drop, slice_index, slice_get, Option, Some, None, IsSome, sym, refl, ◌∙◌, ap, subst, arith}
use Rattle.std.specs.List.{AllPass}
use Rattle.std.specs.Option.{ForSome, option_map}
use Rattle.std.proofs.lemmas.Bool.{leb-true, le-leb}
use Rattle.std.proofs.lemmas.List.{length-map, ext_get_or, get_or_default}
use Rattle.std.proofs.lemmas.List.Sums.{AllPass-from_list_all, list_all-from_AllPass}
use Rattle.std.proofs.lemmas.Option.{slice_get-map, slice_get-get_or, get_or_from_slice_get}
use Rattle.fv_plane.specs.Picture.{picture_of, Clip, Picture}
use Rattle.fv_plane.specs.declared.format.Info.{Info}
use Rattle.fv_plane.specs.Format.{frame_bytes}
use Rattle.y4m_stream.specs.Stream.{Indexed, Indexes}
use Rattle.y4m_stream.proofs.CallerLemmas.{frame_inside}
use Rattle.seq_source.specs.FrameSource.{frames_at, has_each, frames_told}

-- the frame at an offset of told bytes
pub frame_at : (index : Indexed) (told : List ℕ) (n : ℕ) → n < length index.offsets → slice_get (frames_at index told) n ≡ Some (picture_of index.info.shape (drop (slice_index index.offsets n) told))
frame_at index told n within =
    let cut : ℕ → Picture = λ offset. picture_of index.info.shape (drop offset told) in
    slice_get-map cut index.offsets n ∙ ap (option_map cut) (slice_get-get_or index.offsets n 0 within)

-- a source tells the frames at the offsets, where its bytes have each
pub told_at : (index : Indexed) (told : Option (List ℕ)) (n : ℕ) (frame : Picture) → ((bytes : List ℕ) → told ≡ Some bytes → slice_get (frames_at index bytes) n ≡ Some frame)
    → ForSome (frames_told index told) (λ frames. slice_get frames n ≡ Some frame)
told_at index None n frame read frames is = absurd (let none : ⊥ = cc in none)
told_at index (Some bytes) n frame read frames is = pick (has_each index bytes) is
  where
    pick : (has : Bool) → (if has then Some (frames_at index bytes) else None) ≡ Some frames → slice_get frames n ≡ Some frame
    pick true is = let same : frames_at index bytes ≡ frames = cc in subst (λ l. slice_get l n ≡ Some frame) same (read bytes refl)
    pick false is = absurd (let none : ⊥ = cc in none)

-- bytes that have each frame have this one
pub each_inside : (index : Indexed) (bytes : List ℕ) (n : ℕ) → n < length index.offsets → has_each index bytes ≡ true → slice_index index.offsets n + frame_bytes index.info.shape ≤ length bytes
each_inside index bytes n within has =
    let test : ℕ → Bool = λ offset. nat_le (offset + frame_bytes index.info.shape) (length bytes) in
    let all = AllPass-from_list_all test index.offsets has in
    leb-true (slice_index index.offsets n + frame_bytes index.info.shape) (length bytes) (all n 0 within)

-- told bytes have each frame where a source tells its frames
pub has_told : (index : Indexed) (told : Option (List ℕ)) → IsSome (frames_told index told) → (bytes : List ℕ) × (told ≡ Some bytes) × (has_each index bytes ≡ true)
has_told index None is = absurd (let none : ⊥ = cc in none)
has_told index (Some bytes) is = (bytes, refl, pick (has_each index bytes) refl)
  where
    pick : (has : Bool) → has_each index bytes ≡ has → has ≡ true
    pick true same = refl
    pick false same = absurd (let bad : false ≡ true = rw same at is in cc)

-- the frames of a stream are those at the offsets of its index, and the bytes have each
pub frames_are : (told : List ℕ) (index : Indexed) (clip : Clip) → Indexes told index clip → length index.offsets ≡ index.info.frames → frames_told index (Some told) ≡ Some clip.pictures
frames_are told index clip indexes count =
    let test : ℕ → Bool = λ offset. nat_le (offset + frame_bytes index.info.shape) (length told) in
    let all : AllPass test index.offsets = λ k d less.
    rw (get_or_default index.offsets k d 0 less) (le-leb (slice_index index.offsets k + frame_bytes index.info.shape) (length told) (frame_inside told index clip indexes k (omega arith))) in
    let each : has_each index told ≡ true = list_all-from_AllPass test index.offsets all in
    let stream = indexes.stream in
    let frames : clip.info.frames ≡ length stream.frames = ap (λ i. i.frames) stream.consists.info_is in
    let info : index.info.frames ≡ clip.info.frames = ap (λ i. i.frames) indexes.info_is in
    let pictures : length clip.pictures ≡ length stream.frames = ap length stream.pictures_are ∙ length-map stream.frames (picture_of clip.info.shape) in
    let cut : ℕ → Picture = λ offset. picture_of index.info.shape (drop offset told) in
    let long : length (frames_at index told) ≡ length index.offsets = length-map index.offsets cut in
    let none : Picture = record { shape = clip.info.shape; planes = [] } in
    let same : frames_at index told ≡ clip.pictures = ext_get_or none (frames_at index told) clip.pictures (omega arith) (λ i less.
    get_or_from_slice_get (frames_at index told) i (cut (slice_index index.offsets i)) none (frame_at index told i (omega arith))
    ∙ ap (λ (s : Info). picture_of s.shape (drop (slice_index index.offsets i) told)) indexes.info_is ∙ sym (indexes.pictures_are i (omega arith))) in
    rw each (ap Some same)
