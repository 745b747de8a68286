-- The text of a clip, from that of its first frames.
use Rattle.std.proofs.Common.{◌≡◌, ◌∙◌, List, ℕ, ◌++◌, length, take, drop, map, sym, ap}
use Rattle.std.proofs.lemmas.List.{take-append-drop, append_assoc, map-append}
use Rattle.std.proofs.lemmas.List.Concat.{flat_map-append}
use Rattle.fv_plane.specs.declared.format.Info.{Info}
use Rattle.fv_plane.specs.Picture.{bytes_of, Clip, Picture}
use Rattle.y4m_stream.specs.Head.{head}
use Rattle.y4m_stream.specs.Stream.{frame_text, frames_text, stream}
use Rattle.prefetch.specs.Rendered.{Begins}

abbrev texts : List Picture → List ℕ
texts pictures = frames_text (map bytes_of pictures)

texts_twice : (one other : List Picture) → texts (one ++ other) ≡ texts one ++ texts other
texts_twice one other = ap (λ (l : List (List ℕ)). frames_text l) (map-append bytes_of one other) ∙ flat_map-append frame_text (map bytes_of one) (map bytes_of other)

-- the text of a clip is that of its first frames, and then the rest
pub text_of_part : (part clip : Clip) → Begins part clip → (rest : List ℕ) × (stream clip ≡ stream part ++ rest)
text_of_part part clip begins =
    let n = length part.pictures in
    let first = take n clip.pictures in
    let rest = drop n clip.pictures in
    let all : texts clip.pictures ≡ texts part.pictures ++ texts rest
    = ap texts (sym (take-append-drop n clip.pictures)) ∙ texts_twice first rest ∙ ap (λ (l : List Picture). texts l ++ texts rest) (sym begins.pictures) in (
      texts rest,
      ap (λ (l : List ℕ). head clip.info ++ l) all ∙ sym (append_assoc (head clip.info) (texts part.pictures) (texts rest))
          ∙ ap (λ (i : Info). (head i ++ texts part.pictures) ++ texts rest) (sym begins.info),
    )
