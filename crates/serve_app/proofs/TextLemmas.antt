-- What was put, of the clips of one kind or another.
use Rattle.std.proofs.Common.{◌≡◌, inl, inr}
use Rattle.fv_io.specs.declared.sink.Sink.{Ghosts}
use Rattle.fv_io.specs.Sink.{PutsPrefix}
use Rattle.fv_io.proofs.CallerLemmas.{gets_none, gets_all, gets_more}
use Rattle.fv_plane.specs.Picture.{Clip}
use Rattle.y4m_stream.specs.Stream.{stream}
use Rattle.prefetch.proofs.TextLemmas.{text_of_part}
use Rattle.prefetch.specs.Rendered.{PutsPart, PutsWholeFrames}

module _ {K : Type 0} (sink : Ghosts K) (old new : K) (Its More : Clip → Type 0) (One Any : Type 0) (narrows : (clip : Clip) → More clip → Its clip) (widens : One → Any) where
  pub whole_frames_of : PutsWholeFrames sink old new Its One → PutsWholeFrames sink old new More Any
  whole_frames_of (inl none) = inl none
  whole_frames_of (inr some) = inr (record { part = some.part; pictures = some.pictures; put = some.put; begins = λ clip is. some.begins clip (narrows clip is); has_one = widens some.has_one })

module _ {K : Type 0} (sink : Ghosts K) (old new : K) (clip : Clip) where
  -- nothing is a prefix
  pub none_is_prefix : sink.bytes new ≡ sink.bytes old → PutsPrefix sink old new (stream clip)
  none_is_prefix none = rw none (gets_none (sink.bytes old) (stream clip))

  part_is_prefix : (Its : Clip → Type 0) (One : Type 0) → Its clip → PutsPart sink old new Its One → PutsPrefix sink old new (stream clip)
  part_is_prefix Its One is some =
      let more = text_of_part some.part clip (some.begins clip is) in
      rw more.1 (gets_more (sink.bytes old) (sink.bytes new) (stream some.part) more.0 (gets_all (sink.bytes old) (sink.bytes new) (stream some.part) some.put))

  -- a head and whole frames are a prefix
  pub frames_are_prefix : (Its : Clip → Type 0) (One : Type 0) → Its clip → PutsWholeFrames sink old new Its One → PutsPrefix sink old new (stream clip)
  frames_are_prefix Its One is (inl none) = none_is_prefix none
  frames_are_prefix Its One is (inr some) = part_is_prefix Its One is some
