-- A clip that a host opened, and what it is over files that tell their bytes.
use Rattle.std.specs.Prelude.{◌≡◌, ◌<◌, ℕ, List, length, drop, slice_index, slice_get, Bool, true, false, IsTrue, Option, Some, None, Ok}
use Rattle.std.specs.FinMap.{get}
use Rattle.fv_io.specs.World.{World, InWorld}
use Rattle.fv_io.specs.declared.source.Source.{Ghosts}
use Rattle.fv_plane.specs.Picture.{picture_of, Clip, picture_at}
use Rattle.fv_plane.specs.Format.{frame_bytes}
use Rattle.y4m_stream.specs.Stream.{Stream, Indexed, IsIndex, offsets_from, line_len}
use Rattle.seq_source.specs.FrameSource.{FrameSource}
use Rattle.avs_values.specs.Values.{Text}
use Rattle.avs_meaning.specs.State.{clip_in}
use Rattle.avs_meaning.specs.declared.state.SourceClip.{SourceClip}

-- a world that is told, or none
abbrev pub told_of : Bool → World → Option World
told_of true world = Some world
told_of false world = None

-- the index is that of a stream of this clip
pub record IsIndexOf (bytes : List ℕ) (index : Indexed) (clip : Clip) : Type 0 where
  pub info_is : index.info ≡ clip.info
  pub offsets_are : index.offsets ≡ offsets_from bytes (frame_bytes clip.info.shape) (line_len bytes 0) (length clip.pictures)
  pub pictures_are : (n : ℕ) → n < length clip.pictures
      → picture_at clip n ≡ picture_of clip.info.shape (drop (slice_index index.offsets n) bytes)

-- a source of the file of this name, with the index of its bytes; it never failed
pub record IsSourceOf {S : Type 0} (source : Ghosts S) (told : Option World) (name : Text) (it : S) (index : Indexed) : Type 0 where
  pub bytes : InWorld told (λ world. source.bytes it ≡ get world name)
  pub indexed : InWorld told (λ world. (bytes : List ℕ) (clip : Clip) → get world name ≡ Some bytes → Stream bytes clip
      → IsIndexOf bytes index clip)
  pub unfailed : source.faults it ≡ 0

-- the bytes of the file of this name are a stream of this clip
pub record IsFileOf (world : World) (name : Text) (clip : Clip) : Type 0 where
  pub bytes : List ℕ
  pub bytes_are : get world name ≡ Some bytes
  pub stream : Stream bytes clip

-- a source of the file of this name and info; it never failed
pub record IsOpened {S : Type 0} (source : Ghosts S) (told : Bool) (world : World) (listed : SourceClip) (it : FrameSource S) : Type 0 where
  pub sound : IsIndex it.index
  pub info : it.index.info ≡ listed.info
  pub clip : IsTrue told → clip_in (get world listed.name) ≡ Ok listed.info
  pub bytes : IsTrue told → source.bytes it.source ≡ get world listed.name
  pub index : IsTrue told → (bytes : List ℕ) (clip : Clip) → get world listed.name ≡ Some bytes → Stream bytes clip
      → IsIndexOf bytes it.index clip
  pub unfailed : source.faults it.source ≡ 0

-- as many sources as are listed, each of the file that is listed for it
pub record AreOpened {S : Type 0} (source : Ghosts S) (told : Bool) (world : World) (listed : List SourceClip)
    (sources : List (FrameSource S)) : Type 0 where
  pub count : length listed ≡ length sources
  pub each : (k : ℕ) (one : SourceClip) (it : FrameSource S) → slice_get listed k ≡ Some one → slice_get sources k ≡ Some it
      → IsOpened source told world one it
