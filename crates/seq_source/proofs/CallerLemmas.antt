-- The frames of a source whose bytes are told, for callers.
use Rattle.std.proofs.Common.{◌≡◌, ◌∙◌, ap, length, Some}
use Rattle.fv_io.specs.declared.source.Source.{Ghosts}
use Rattle.fv_plane.specs.Picture.{Clip}
use Rattle.seq_source.specs.FrameSource.{FrameSource, HasFrames, KeepsFrames, frames_of, frames_told}
use Rattle.seq_source.proofs.FrameLemmas.{frames_are}

-- a call leaves the frames
pub same_frames : {S : Type 0} (source : Ghosts S) (old new : FrameSource S) (clip : Clip) → KeepsFrames source old new → HasFrames source old.source old.index clip → HasFrames source new.source new.index clip
same_frames source old new clip keeps has = record {
  told = has.told;
  tells = (let kept = keeps.keeps in kept.told) ∙ has.tells;
  indexes = rw keeps.index has.indexes;
}

-- a source of a stream, with its index, tells the stream's frames
pub clip_told : {S : Type 0} (source : Ghosts S) (it : FrameSource S) (clip : Clip) → HasFrames source it.source it.index clip → length it.index.offsets ≡ it.index.info.frames → frames_of source it ≡ Some clip.pictures
clip_told source it clip has count = ap (frames_told it.index) has.tells ∙ frames_are has.told it.index clip has.indexes count
