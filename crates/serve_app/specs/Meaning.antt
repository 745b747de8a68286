-- What a script means in a world of files: a clip, or its first fault.
use Rattle.std.specs.Prelude.{◌≡◌, ℕ, List, length, slice_get, slice_index_or, [], Option, Some, ◌+◌}
use Rattle.fv_io.specs.World.{World, InWorld}
use Rattle.fv_plane.specs.Picture.{Clip, Picture}
use Rattle.clip_graph.specs.Plan.{Application}
use Rattle.prefetch.specs.Windows.{clip_at}
use Rattle.avs_parse.specs.Load.{script_of}
use Rattle.avs_meaning.specs.Faults.{Fault, script, input}
use Rattle.avs_meaning.specs.State.{Numbers, outside_of}
use Rattle.avs_meaning.specs.declared.state.SourceClip.{SourceClip}
use Rattle.avs_state.specs.Sources.{sources_of}
use Rattle.avs_files.specs.Opened.{IsFileOf}
use Rattle.avs_meaning.specs.Meaning as m

-- the plan of a script and the place of its clip, or its first fault, by the files of a world
abbrev pub meaning_in : World → List ℕ → m.Meaning
meaning_in world name = m.meaning (outside_of script_of world) name

-- the file of this name is a stream of these pictures
pub record HasPictures (world : World) (name : List ℕ) (pictures : List Picture) : Type 0 where
  pub clip : Clip
  pub file : IsFileOf world name clip
  pub pictures_are : pictures ≡ clip.pictures

-- the book has the pictures of each source's file, and no more
pub record IsBookOf (world : World) (sources : List SourceClip) (book : List (List Picture)) : Type 0 where
  pub count : length book ≡ length sources
  pub each : (k : ℕ) (one : SourceClip) → slice_get sources k ≡ Some one → HasPictures world one.name (slice_index_or book k [])

-- the script means this clip: it has a plan, and the clip is that of the plan's root over the pictures of its sources
pub record MeansClip (world : World) (name : List ℕ) (clip : Clip) : Type 0 where
  pub plan : List Application
  pub root : ℕ
  pub crew : Option Numbers
  pub means : meaning_in world name ≡ m.clip plan root crew
  pub book : List (List Picture)
  pub is_book : IsBookOf world (sources_of plan) book
  pub clip_is : clip ≡ clip_at book plan root

pub data Meaning : Type 0 where
  a_clip : Clip → Meaning
  a_fault : Fault → Meaning

abbrev pub Means : World → List ℕ → Meaning → Type 0
Means world name (a_clip clip) = MeansClip world name clip
Means world name (a_fault fault) = meaning_in world name ≡ m.wrong fault

-- a script means one thing at most
abbrev pub MeansOneThing : Type 0
MeansOneThing = (world : World) (name : List ℕ) (one other : Meaning)
    → Means world name one → Means world name other → one ≡ other

-- the script means something
pub record HasMeaning (world : World) (name : List ℕ) : Type 0 where
  pub meaning : Meaning
  pub means : Means world name meaning

-- each script means something, in each world
abbrev pub MeansSomething : Type 0
MeansSomething = (world : World) (name : List ℕ) → HasMeaning world name

abbrev pub status_of_fault : Fault → ℕ
status_of_fault (script kind name line) = 2
status_of_fault (input name fault) = 3

-- the status of a render, where nothing fails
abbrev pub status_of : Meaning → ℕ
status_of (a_clip clip) = 0
status_of (a_fault fault) = status_of_fault fault

-- the same in each world
abbrev pub script_status : World → Meaning → ℕ
script_status world meaning = status_of meaning

-- ---- What a run that ended well has read of the files.

-- how many files a script reads: itself, each script that it imports as often as it does, and a file for each source
abbrev pub files_in : World → List ℕ → ℕ
files_in world name = m.files_of (outside_of script_of world) name

-- By the counts of faults and of fetches before and now: no fault was counted, so nothing that failed was tried again. Where
-- the files tell what they hold, as many were fetched as the script reads.
pub record ReadsOnce (told : Option World) (name : List ℕ) (faults faults_now fetches fetches_now : ℕ)
    : Type 0 where
  pub steady : faults_now ≡ faults
  pub fetched : InWorld told (λ world. fetches_now ≡ fetches + files_in world name)
