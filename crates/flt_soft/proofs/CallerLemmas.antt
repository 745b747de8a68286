-- What other crates may cite: a caller who holds an accepted check and the frames that are asked can make the picture.
use Rattle.std.proofs.Common.{◌≡◌, ℕ, ◌<◌, List, Option, None, Result, Ok, length, arith}
use Rattle.std.proofs.lemmas.List.{length-map}
use Rattle.std.proofs.lemmas.List.FromFn.{length-range_with_len}
use Rattle.std.proofs.lemmas.Bool.Decides.{nat_tests}
use Rattle.std.proofs.lemmas.Grind.{common_steps}
use Rattle.fv_plane.specs.declared.format.Info.{Info}
use Rattle.fv_plane.specs.declared.format.Shape.{Shape}
use Rattle.fv_plane.specs.Picture.{Picture}
use Rattle.fv_plane.specs.Refusals.{first_fault}
use Rattle.clip_term.specs.declared.fault.FilterFault.{FilterFault}
use Rattle.clip_term.specs.declared.op.SoftOp.{SoftOp}
use Rattle.clip_term.specs.Refusals.{info_at, unless}
use Rattle.clip_term.specs.Soft.{soft_refusals, soft_asked, check_soft}
use Rattle.clip_term.specs.Terms.{no_picture}
use Rattle.clip_term.proofs.PassedLemmas.{passed, limits_shape}
use Rattle.flt_soft.specs.Pictures.{HaveShape, asked_count, shape_of}

no_fault : (fault : Option FilterFault) (rest : Result Info FilterFault) (info : Info) → unless fault rest ≡ Ok info → fault ≡ None
no_fault fault rest info e = grind (arith, common_steps)

-- what a check accepts is not refused
pub not_refused : (filter : SoftOp) (infos : List Info) (info : Info) → check_soft filter infos ≡ Ok info → first_fault (soft_refusals filter) ≡ None
not_refused filter infos info e = search (arith, no_fault)

-- and its shape is that of what is made
pub shape_made : (filter : SoftOp) (infos : List Info) (info : Info) → check_soft filter infos ≡ Ok info → (info_at infos 0).shape ≡ info.shape
shape_made filter infos info e = search (arith, passed, limits_shape)

-- a filter asks as many frames
pub length-soft_asked : (filter : SoftOp) (infos : List Info) (n : ℕ) → length (soft_asked filter infos n) ≡ asked_count filter
length-soft_asked filter infos n = grind (arith, nat_tests, length-map, length-range_with_len)

-- pictures of one shape have that of the first
pub alike_by : (shape : Shape) (pictures : List Picture) → 0 < length pictures → HaveShape shape pictures → HaveShape (shape_of pictures) pictures
alike_by shape pictures some are = rw (are 0 no_picture some) are
