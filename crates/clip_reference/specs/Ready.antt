-- What a sample of a filter rests on.
use Rattle.std.specs.Prelude.{◌≡◌, ℕ, ◌+◌, ◌*◌, ◌<◌, ◌≤◌, List, [], length, map, None}
use Rattle.fv_plane.specs.declared.format.Info.{Info}
use Rattle.fv_plane.specs.declared.format.Shape.{Shape}
use Rattle.fv_plane.specs.Format.{IsLegal, largest_sample}
use Rattle.fv_plane.specs.Picture.{look_in, Picture}
use Rattle.fv_plane.specs.Refusals.{first_fault}
use Rattle.clip_term.specs.declared.op.SoftOp.{SoftOp}
use Rattle.clip_term.specs.declared.op.SoftOp.TheVariants as op
use Rattle.clip_term.specs.Refusals.{nat_of, info_at}
use Rattle.clip_term.specs.Space.{space_refusals}
use Rattle.clip_term.specs.Terms.{Act, source, plain, time, space, joined, soft, fields, choice, sample}

-- as many frames as the op asks, and a matrix of at most 25 entries
abbrev pub HasNeighbours : SoftOp → ℕ → Type 0
HasNeighbours (op.TemporalSoften radius luma chroma) k = k ≡ 2 * nat_of radius + 1
HasNeighbours (op.GeneralConvolution bias matrix) k = (k ≡ 1) × (length matrix.entries ≤ 25)

-- an op over the frames of its clips
abbrev pub IsFilter : Act → Type 0
IsFilter (source name number info) = ⊥
IsFilter (plain info colour) = ⊥
IsFilter _ = Unit {0}

-- one whose frames are made sample by sample: a choice shows a frame as it is
abbrev pub IsMade : Act → Type 0
IsMade (choice op) = ⊥
IsMade act = IsFilter act

-- a filter that refuses nothing, with its clips and as many frames as it asks
abbrev pub IsReady : Act → List Info → ℕ → Type 0
IsReady (source name number info) infos k = ⊥
IsReady (plain info colour) infos k = ⊥
IsReady (time op) infos k = k ≡ 1
IsReady (space op) infos k =
    (0 < length infos) × (k ≡ 1) × (first_fault (space_refusals op (info_at infos 0).shape) ≡ None)
    × IsLegal (info_at infos 0).shape
IsReady (joined op) infos k = k ≡ length infos
IsReady (soft op) infos k = (0 < length infos) × HasNeighbours op k × IsLegal (info_at infos 0).shape
IsReady (fields op) infos k = 0 < length infos
IsReady (choice op) infos k = ⊥

-- no sample that an op makes of these pictures for frame n is over the largest one of a shape
abbrev pub IsInRange : Act → List Info → ℕ → List Picture → Shape → Type 0
IsInRange op infos n pictures shape =
    (p x y : ℕ) → sample [] op infos n (map look_in pictures) p x y ≤ largest_sample shape
