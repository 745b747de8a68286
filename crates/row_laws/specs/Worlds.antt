-- A script beside a few streams, and the text that its render writes.
use Rattle.std.specs.Prelude.{ℕ, List, [], ◌∷◌, ◌++◌, map, codes, None}
use Rattle.std.specs.List.{range_with_len}
use Rattle.fv_io.specs.FilesState.{Entry, world_of}
use Rattle.fv_plane.specs.Picture.{Picture}
use Rattle.y4m_stream.specs.Stream.{stream}
use Rattle.avs_values.specs.Values.{Text}
use Rattle.avs_parse.specs.Load.{script_of}
use Rattle.clip_graph.specs.Plan.{application_at, key_picture}
use Rattle.avs_meaning.specs.Meaning.{Meaning, clip, wrong}
use Rattle.avs_meaning.specs.State.{Outside, outside_of}

-- a file of this name and these bytes
abbrev pub file : Text → List ℕ → Entry
file name bytes = record { name = name; first = bytes; later = None; piece = 0; trips = [] }

-- what the world of these files tells
abbrev pub outside_with : List Entry → Outside
outside_with files = outside_of script_of (world_of files)

-- the text of a clip, whose sources have these frames
abbrev pub text_of : List (List Picture) → Meaning → List ℕ
text_of book (clip plan root crew) = stream (record {
  info = (application_at plan root).info;
  pictures = map (λ n. key_picture book plan (record { node = root; n = n })) (range_with_len 0 (application_at plan root).info.frames);
})
text_of book (wrong fault) = []

-- a frame of these bytes
abbrev pub frame : List ℕ → List ℕ
frame bytes = codes "FRAME\n" ++ bytes

-- frames of one byte
abbrev pub dots : List ℕ → List ℕ
dots [] = []
dots (sample ∷ rest) = frame (sample ∷ []) ++ dots rest
