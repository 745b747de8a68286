-- What callers know of the clips that a host opened.
use Rattle.std.proofs.Common.{◌≡◌, ◌∙◌, ℕ, zero, suc, arith, IsTrue, Bool, List, [], ◌∷◌, length, map, slice_get, Option, Some, None, Ok, Err, inl, inr, refl, sym, ap}
use Rattle.std.specs.FinMap.{get}
use Rattle.fv_io.specs.World.{World}
use Rattle.fv_io.specs.declared.source.Source.{Ghosts}
use Rattle.fv_plane.specs.declared.format.Info.{Info}
use Rattle.fv_plane.specs.Picture.{Clip}
use Rattle.y4m_stream.specs.Stream.{Stream}
use Rattle.y4m_stream.proofs.ReadingLemmas.{reads_one_way}
use Rattle.seq_source.specs.FrameSource.{FrameSource, HasFrames}
use Rattle.avs_meaning.specs.State.{clip_in}
use Rattle.avs_meaning.specs.declared.state.SourceClip.{SourceClip}
use Rattle.avs_meaning.proofs.StreamLemmas.{clips_are_streams}
use Rattle.avs_files.specs.Opened.{IsFileOf, IsOpened, AreOpened}

-- a file that is a clip is a stream
pub file_of : (found : Option (List ℕ)) (info : Info) → clip_in found ≡ Ok info → (bytes : List ℕ) × ((found ≡ Some bytes) × ((clip : Clip) × Stream bytes clip))
file_of None info is = cc is
file_of (Some bytes) info is = elim (reads_one_way.some bytes) [
  | inl one ↦ (bytes, (refl, one))
  | inr wrong ↦ let fault = clips_are_streams.fault bytes wrong.0 wrong.1 in let no : Err _ ≡ Ok info = sym fault ∙ is in cc no
]

module _ {S : Type 0} (source : Ghosts S) (told : Bool) (world : World) where
  -- the frames of an opened clip are those of its file
  pub frames_of : (one : SourceClip) (it : FrameSource S) → IsOpened source told world one it → IsTrue told → (clip : Clip) → IsFileOf world one.name clip
      → HasFrames source it.source it.index clip
  frames_of one it is tells clip file =
      let index = is.index tells file.bytes clip file.bytes_are file.stream in
      record {
        told = file.bytes;
        tells = is.bytes tells ∙ file.bytes_are;
        indexes = record { stream = file.stream; info_is = index.info_is; offsets_are = index.offsets_are; pictures_are = index.pictures_are };
      }

  -- and there is such a clip
  pub has_clip : (one : SourceClip) (it : FrameSource S) → IsOpened source told world one it → IsTrue told → (clip : Clip) × IsFileOf world one.name clip
  has_clip one it is tells =
      let file = file_of (get world one.name) one.info (is.clip tells) in
      (file.1.1.0, record { bytes = file.0; bytes_are = file.1.0; stream = file.1.1.1 })

  infos_by : (listed : List SourceClip) (sources : List (FrameSource S)) → length listed ≡ length sources
      → ((k : ℕ) (one : SourceClip) (it : FrameSource S) → slice_get listed k ≡ Some one → slice_get sources k ≡ Some it → IsOpened source told world one it)
      → map (λ (it : FrameSource S). it.index.info) sources ≡ map (λ (one : SourceClip). one.info) listed
  infos_by [] [] same each = refl
  infos_by [] (y ∷ ys) same each = absurd (omega (arith, same))
  infos_by (x ∷ xs) [] same each = absurd (omega (arith, same))
  infos_by (x ∷ xs) (y ∷ ys) same each =
      let first = each zero x y refl refl in
      ap (λ (i : Info). i ∷ map (λ (it : FrameSource S). it.index.info) ys) first.info
      ∙ ap (λ (l : List Info). x.info ∷ l) (infos_by xs ys (omega (arith, same)) (λ k one it here there. each (suc k) one it here there))

  -- the sources have the infos that are listed
  pub infos_listed : (listed : List SourceClip) (sources : List (FrameSource S)) → AreOpened source told world listed sources
      → map (λ (it : FrameSource S). it.index.info) sources ≡ map (λ (one : SourceClip). one.info) listed
  infos_listed listed sources are = infos_by listed sources are.count are.each
