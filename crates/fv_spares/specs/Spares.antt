-- Spare memory, as the sizes of its pieces in the order in which they were kept.
use Rattle.std.specs.Prelude.{◌≡◌, ℕ, ◌+◌, ◌-◌, ◌<◌, ◌≤◌, List, ◌∷◌, ◌++◌, length, map, drop, All, Option, Some, None, IfSome, Vec}
use Rattle.std.specs.declared.alloc.Global.{Global}
use Rattle.fv_plane.specs.declared.format.Shape.{Shape}
use Rattle.fv_plane.specs.Format.{IsLegal, planes, plane_bytes}
use Rattle.fv_plane.specs.Picture.{Picture}

-- the pieces of frames that were read or of luma, and those of chroma
pub record SpareSizes : Type 0 where
  pub luma : List ℕ
  pub chroma : List ℕ

-- the sizes of these pieces
abbrev pub sizes_of : List (Vec ℕ Global) → List ℕ
sizes_of pieces = map (λ piece. length piece.items) pieces

-- of these sizes the last ones, at most so many
abbrev pub newest : ℕ → List ℕ → List ℕ
newest most sizes = drop (length sizes - most) sizes

-- so many pieces at most, each of at least so many bytes, were put at the end, and the first ones were let go where there were
-- more than `most`
pub record HasKept (most count bytes : ℕ) (old new : List ℕ) : Type 0 where
  pub sizes : List ℕ
  pub few : length sizes ≤ count
  pub large : All (λ size. bytes ≤ size) sizes
  pub are : new ≡ newest most (old ++ sizes)

-- a piece serves for so many bytes
abbrev pub Serves : ℕ → ℕ → Type 0
Serves size piece = (size ≤ piece) × (piece ≤ size + 8192)

-- none of these pieces does
abbrev pub NoneServes : ℕ → List ℕ → Type 0
NoneServes size pieces = All (λ piece. Serves size piece → ⊥) pieces

-- the last of the pieces that serve was handed out, and the others are there in their order
pub record HandsOut (size piece : ℕ) (old new : List ℕ) : Type 0 where
  pub before : List ℕ
  pub after : List ℕ
  pub was : old ≡ before ++ (piece ∷ after)
  pub left : new ≡ before ++ after
  pub serves : Serves size piece
  pub last : NoneServes size after

-- what a call hands out, which takes from these pieces
abbrev pub Takes : ℕ → Option (Vec ℕ Global) → List ℕ → List ℕ → Type 0
Takes size (Some piece) old new = HandsOut size (length piece.items) old new
Takes size None old new = NoneServes size old × (new ≡ old)

abbrev pub TakesLuma : ℕ → Option (Vec ℕ Global) → SpareSizes → SpareSizes → Type 0
TakesLuma size taken old new = Takes size taken old.luma new.luma × (new.chroma ≡ old.chroma)

abbrev pub TakesChroma : ℕ → Option (Vec ℕ Global) → SpareSizes → SpareSizes → Type 0
TakesChroma size taken old new = Takes size taken old.chroma new.chroma × (new.luma ≡ old.luma)

-- this plane of each of these frames has at least so many bytes
abbrev pub HaveBytes : ℕ → ℕ → List (Option Picture) → Type 0
HaveBytes p bytes frames = All (λ frame. IfSome frame (λ picture. bytes ≤ plane_bytes picture.shape p)) frames

-- a frame may have this plane
abbrev pub HasPlane : Shape → ℕ → Type 0
HasPlane shape plane = IsLegal shape × (plane < planes shape.kind)
