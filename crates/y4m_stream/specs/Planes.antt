-- The planes of a frame as bytes, and bytes that are still to be put.
use Rattle.std.specs.Prelude.{◌≡◌, ℕ, List, [], ◌++◌, slice_index_or}
use Rattle.fv_io.specs.declared.sink.Sink.{Ghosts}
use Rattle.fv_io.specs.Sink.{Puts}
use Rattle.fv_plane.specs.Picture.{Picture, bytes_of_rows}

abbrev pub bytes_of_plane : Picture → ℕ → List ℕ
bytes_of_plane picture p = bytes_of_rows picture.shape (slice_index_or picture.planes p [])

-- all of this text was put but its last bytes, which are still to be put
pub record PutsAllBut {K : Type 0} (sink : Ghosts K) (old new : K) (text waiting : List ℕ) : Type 0 where
  pub sent : List ℕ
  pub put : Puts sink old new sent
  pub text_is : text ≡ sent ++ waiting
