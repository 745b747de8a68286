-- What callers see of a source of frames.
use Rattle.std.specs.Prelude.{◌≡◌, ◌⊎◌, ℕ, ◌+◌, ◌≤◌, nat_le, Bool, if◌then◌else◌, List, length, drop, map, Option, Some, None, slice_get, slice_index}
use Rattle.std.specs.List.{list_all}
use Rattle.fv_io.specs.declared.source.Source.{Ghosts}
use Rattle.fv_io.specs.Faults.{risen}
use Rattle.fv_plane.specs.Picture.{picture_of, Picture, Clip}
use Rattle.fv_plane.specs.Format.{frame_bytes}
use Rattle.y4m_stream.specs.Stream.{Indexed, Indexes}

pub record FrameSource (S : Type 0) : Type 0 where
  pub source : S
  pub index : Indexed
  -- where the source's next read begins, where that is known
  pub place : Option ℕ

-- the next read begins at this place, which is inside the bytes where they are told
pub record IsAt {S : Type 0} (source : Ghosts S) (it : S) (place : ℕ) : Type 0 where
  pub here : source.place it ≡ place
  pub inside : (told : List ℕ) → source.bytes it ≡ Some told → place ≤ length told

-- the offset just past a frame
abbrev pub end_of : Indexed → ℕ → ℕ
end_of index n = slice_index index.offsets n + frame_bytes index.info.shape

-- the bytes of the source are told, and the index is that of this clip
pub record HasFrames {S : Type 0} (source : Ghosts S) (it : S) (index : Indexed) (clip : Clip) : Type 0 where
  pub told : List ℕ
  pub tells : source.bytes it ≡ Some told
  pub indexes : Indexes told index clip

-- the frames of told bytes, at the offsets of an index
abbrev pub frames_at : Indexed → List ℕ → List Picture
frames_at index bytes = map (λ offset. picture_of index.info.shape (drop offset bytes)) index.offsets

-- the bytes have all of each frame
abbrev pub has_each : Indexed → List ℕ → Bool
has_each index bytes = list_all (λ offset. nat_le (offset + frame_bytes index.info.shape) (length bytes)) index.offsets

-- the frames of bytes that are told and have all of them
abbrev pub frames_told : Indexed → Option (List ℕ) → Option (List Picture)
frames_told index None = None
frames_told index (Some bytes) = if has_each index bytes then Some (frames_at index bytes) else None

-- the frames that a source tells
abbrev pub frames_of : {S : Type 0} → Ghosts S → FrameSource S → Option (List Picture)
frames_of source it = frames_told it.index (source.bytes it.source)

-- a call reads frame n up to its end, where the source's next read begins
pub record ReadsFrame {S : Type 0} (source : Ghosts S) (old new : S) (index : Indexed) (n : ℕ) (frame : Picture) (end : ℕ) : Type 0 where
  pub picture : (told : List ℕ) → source.bytes old ≡ Some told → slice_get (frames_at index told) n ≡ Some frame
  pub shape : frame.shape ≡ index.info.shape
  pub whole : (told : List ℕ) → source.bytes old ≡ Some told → end_of index n ≤ length told
  pub end_is : end ≡ end_of index n
  pub is_at : IsAt source new end

-- a call keeps the bytes that the source tells, rewinds it at most once, and its count of faults does not fall
pub record RewindsOnce {S : Type 0} (source : Ghosts S) (old new : S) : Type 0 where
  pub told : source.bytes new ≡ source.bytes old
  pub once : (source.rewinds new ≡ source.rewinds old) ⊎ (source.rewinds new ≡ risen (source.rewinds old))
  pub later : source.faults old ≤ source.faults new

-- a call keeps the index, and of the source what `RewindsOnce` says
pub record KeepsFrames {S : Type 0} (source : Ghosts S) (old new : FrameSource S) : Type 0 where
  pub index : new.index ≡ old.index
  pub keeps : RewindsOnce source old.source new.source
