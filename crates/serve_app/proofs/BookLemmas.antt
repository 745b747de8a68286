-- A script means something: the files that its sources read have pictures.
use Rattle.std.proofs.Common.{◌≡◌, ℕ, zero, suc, arith, List, [], ◌∷◌, ◌++◌, get_or, slice_get, Some, Ok, refl}
use Rattle.std.specs.FinMap.{get}
use Rattle.fv_io.specs.World.{World}
use Rattle.fv_plane.specs.Picture.{Picture}
use Rattle.clip_term.specs.Terms.{Act, source}
use Rattle.clip_graph.specs.Plan.{Application}
use Rattle.prefetch.specs.Windows.{clip_at}
use Rattle.avs_parse.specs.Load.{script_of}
use Rattle.avs_files.proofs.SourceFiles.{IsFile, AreFiles, HasFiles, has_files}
use Rattle.avs_meaning.specs.Meaning as m
use Rattle.avs_meaning.specs.State.{Outside, outside_of, clip_in}
use Rattle.avs_meaning.specs.declared.state.SourceClip.{SourceClip}
use Rattle.avs_state.specs.Sources.{source_of, sources_of}
use Rattle.avs_files.proofs.CallerLemmas.{file_of}
use Rattle.serve_app.specs.Meaning.{meaning_in, HasPictures, IsBookOf, a_clip, a_fault, HasMeaning, MeansSomething}

-- ---- the sources of a plan

-- Each is a clip of its info, by what the outside tells.
abbrev AreClips : Outside → List SourceClip → Type 0
AreClips outside [] = Unit {0}
AreClips outside (one ∷ rest) = (outside.clips one.name ≡ Ok one.info) × AreClips outside rest

by_act : (outside : Outside) (act : Act) (rest : List Application) → IsFile outside act → AreClips outside (sources_of rest) → AreClips outside (source_of act ++ sources_of rest)
by_act outside (source name number info) rest is later = (is, later)
by_act outside _ rest is later = later

are_clips : (outside : Outside) (plan : List Application) → AreFiles outside plan → AreClips outside (sources_of plan)
are_clips outside [] are = tt
are_clips outside (application ∷ rest) are = by_act outside application.act rest are.0 (are_clips outside rest are.1)

-- ---- their pictures

module _ (world : World) where
  -- the outside that a script has in the world
  abbrev outside : Outside
  outside = outside_of script_of world

  pictures_of : (one : SourceClip) → clip_in (get world one.name) ≡ Ok one.info → (pictures : List Picture) × HasPictures world one.name pictures
  pictures_of one is =
      let file = file_of (get world one.name) one.info is in
      let clip = file.1.1.0 in
      (clip.pictures, record { clip = clip; file = record { bytes = file.0; bytes_are = file.1.0; stream = file.1.1.1 }; pictures_are = refl })

  each_more : (x : SourceClip) (xs : List SourceClip) (pictures : List Picture) (book : List (List Picture)) → HasPictures world x.name pictures
      → ((k : ℕ) (one : SourceClip) → slice_get xs k ≡ Some one → HasPictures world one.name (get_or book k []))
      → (k : ℕ) (one : SourceClip) → slice_get (x ∷ xs) k ≡ Some one → HasPictures world one.name (get_or (pictures ∷ book) k [])
  each_more x xs pictures book first rest zero one is = let same : x ≡ one = cc in rw same at first
  each_more x xs pictures book first rest (suc k) one is = rest k one is

  book_of : (sources : List SourceClip) → AreClips outside sources → (book : List (List Picture)) × IsBookOf world sources book
  book_of [] are = ([], record { count = refl; each = λ k one is. cc is })
  book_of (x ∷ xs) are =
      let first = pictures_of x are.0 in
      let rest = book_of xs are.1 in
      let book = rest.1 in
      (first.0 ∷ rest.0, record { count = omega (arith, book.count); each = each_more x xs first.0 rest.0 first.1 book.each })

  has_meaning : (name : List ℕ) (meaning : m.Meaning) → meaning_in world name ≡ meaning → HasFiles outside meaning → HasMeaning world name
  has_meaning name (m.wrong fault) is has = record { meaning = a_fault fault; means = is }
  has_meaning name (m.clip plan root crew) is has =
      let book = book_of (sources_of plan) (are_clips outside plan has) in
      record {
        meaning = a_clip (clip_at book.0 plan root);
        means = record { plan = plan; root = root; crew = crew; means = is; book = book.0; is_book = book.1; clip_is = refl };
      }

pub means_something : MeansSomething
means_something world name = has_meaning world name (meaning_in world name) refl (has_files (outside_of script_of world) name)
