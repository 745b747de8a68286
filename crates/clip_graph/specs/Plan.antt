-- The plan of a script, and the clips that its places stand for.
use Rattle.std.specs.List.{count_by, All}
use Rattle.std.specs.Prelude.{◌≡◌, ℕ, ◌+◌, ◌<◌, ◌≤◌, max, Bool, List, [], ◌∷◌, length, map, take, Ok, slice_index_or, is_some, IfSome, zero, suc, ◌++◌}
use Rattle.fv_plane.specs.Info.{IsLawful}
use Rattle.fv_plane.specs.Picture.{Picture}
use Rattle.fv_plane.specs.declared.format.Info.{Info}
use Rattle.fv_plane.specs.declared.key.Key.{Key}
use Rattle.clip_term.specs.Filters.{IsMode}
use Rattle.clip_term.specs.Refusals.{no_info}
use Rattle.clip_term.specs.Terms.{Act, plain, SourcePart, source_part, check, IsSound, ClipTerm, applied, ClipTerms, no_terms, and_term, asked, info_of, make, term_picture, IsSoundTerm}
use Rattle.clip_term.specs.declared.op.Origin.{Origin}
use Rattle.clip_graph.specs.declared.graph.TheConstants.Graph.{MAX_NODES, MAX_DEPTH}

-- ==== The plan of a script: the filters that it applied, each over earlier ones.

-- what is done, the places of its inputs, the clip that it gives, and how many filters stand one on another up to here
pub record Application : Type 0 where
  pub act : Act
  pub inputs : List ℕ
  pub info : Info
  pub mode : ℕ
  pub depth : ℕ

-- what stands past the end of a plan
abbrev pub no_application : Application
no_application = record { act = plain no_info (record { y = 0; u = 0; v = 0 }); inputs = []; info = no_info; mode = 1; depth = 0 }

abbrev pub application_at : List Application → ℕ → Application
application_at plan i = slice_index_or plan i no_application

-- the infos of some places
abbrev pub infos_among : List Application → List ℕ → List Info
infos_among plan places = map (λ j. (application_at plan j).info) places

-- the infos of the inputs of a place
abbrev pub infos_at : List Application → ℕ → List Info
infos_at plan i = infos_among plan (application_at plan i).inputs

-- the greatest depth of some places
abbrev pub deepest : List Application → List ℕ → ℕ
deepest plan [] = 0
deepest plan (i ∷ places) = max (application_at plan i).depth (deepest plan places)

abbrev pub is_source : Act → Bool
is_source act = is_some (source_part act)

-- the number of sources in a plan
abbrev pub sources_in : List Application → ℕ
sources_in plan = count_by (λ (application : Application). is_source application.act) plan

-- a source has its number among the sources, and mode 3
abbrev pub IsCounted : Act → ℕ → ℕ → Type 0
IsCounted act before mode = IfSome (source_part act) (λ (part : SourcePart). (part.number ≡ before) × (mode ≡ 3))

-- an application that may stand at place i
pub record IsApplication (plan : List Application) (i : ℕ) (application : Application) : Type 0 where
  pub lower : (j : ℕ) → j < length application.inputs → slice_index_or application.inputs j 0 < i
  pub sound : IsSound application.act (length application.inputs)
  pub told : check application.act (infos_among plan application.inputs) ≡ Ok application.info
  pub mode : IsMode application.mode
  pub counted : IsCounted application.act (sources_in (take i plan)) application.mode
  pub depth : application.depth ≡ deepest plan application.inputs + 1
  pub shallow : application.depth ≤ MAX_DEPTH

-- so many applications at most, each over earlier ones
pub record IsPlan (plan : List Application) : Type 0 where
  pub few : length plan ≤ MAX_NODES
  pub each : (i : ℕ) → i < length plan → IsApplication plan i (application_at plan i)

-- ==== The clip that each place of a plan stands for, and the frames of other clips that a frame of it is made of.

abbrev pub terms_by : (ℕ → ClipTerm) → List ℕ → ClipTerms
terms_by at [] = no_terms
terms_by at (i ∷ places) = and_term (at i) (terms_by at places)

-- the term of a place, through at most so many filters
unfoldable pub term_within : List Application → ℕ → ℕ → ClipTerm
term_within plan zero i = applied (application_at plan i).act no_terms
term_within plan (suc most) i = applied (application_at plan i).act (terms_by (term_within plan most) (application_at plan i).inputs)

-- the term of a place: as each input is an earlier place, there are no more filters than places up to it
abbrev pub term_at : List Application → ℕ → ClipTerm
term_at plan i = term_within plan (suc i) i

abbrev pub key_of : List Application → ℕ → Origin → Key
key_of plan i origin = record { node = slice_index_or (application_at plan i).inputs origin.input 0; n = origin.number }

-- the frames that a frame is made of, in order
abbrev pub input_keys : List Application → Key → List Key
input_keys plan key = map (key_of plan key.node) (asked (application_at plan key.node).act (infos_at plan key.node) key.n)

abbrev pub key_picture : List (List Picture) → List Application → Key → Picture
key_picture book plan key = term_picture book (term_at plan key.node) key.n

-- what the filter of a place makes of these pictures
abbrev pub key_made : List (List Picture) → List Application → Key → List Picture → Picture
key_made book plan key pictures =
    make book (application_at plan key.node).act (infos_at plan key.node) (application_at plan key.node).info key.n pictures

-- the frames have the shapes of their keys' places
abbrev pub AreOfKeys : List Application → List Key → List Picture → Type 0
AreOfKeys plan keys frames =
    map (λ (p : Picture). p.shape) frames ≡ map (λ (k : Key). (application_at plan k.node).info.shape) keys

-- a place stands for a sound term, whose info the plan holds
pub record IsTermAt (plan : List Application) (i : ℕ) : Type 0 where
  pub sound : IsSoundTerm (term_at plan i)
  pub info : info_of (term_at plan i) ≡ Ok (application_at plan i).info
  pub lawful : IsLawful (application_at plan i).info

abbrev pub PlacesAreTerms : Type 0
PlacesAreTerms = (plan : List Application) (i : ℕ) → IsPlan plan → i < length plan → IsTermAt plan i

-- one more application changes no term
abbrev pub TermsStay : Type 0
TermsStay = (plan : List Application) (new : Application) (i : ℕ) → IsPlan plan → i < length plan
    → term_at (plan ++ new ∷ []) i ≡ term_at plan i

-- a frame of a place before i
pub record IsKeyBelow (plan : List Application) (i : ℕ) (key : Key) : Type 0 where
  pub node : key.node < i
  pub number : key.n < (application_at plan key.node).info.frames

-- a frame is made of frames of earlier places
abbrev pub InputsAreKeys : Type 0
InputsAreKeys = (plan : List Application) (key : Key) → IsPlan plan → key.node < length plan
    → All (IsKeyBelow plan key.node) (input_keys plan key)

-- what a place makes of its inputs' frames is the frame of its term
abbrev pub Unfolds : Type 0
Unfolds = (book : List (List Picture)) (plan : List Application) (key : Key) → IsPlan plan → key.node < length plan
    → key_made book plan key (map (key_picture book plan) (input_keys plan key)) ≡ key_picture book plan key
