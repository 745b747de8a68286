-- What other crates may cite: a caller who holds an accepted check can make the picture.
use Rattle.std.proofs.Common.{◌≡◌, List, Option, None, Result, Ok, arith}
use Rattle.std.proofs.lemmas.Grind.{common_steps}
use Rattle.fv_plane.specs.declared.format.Info.{Info}
use Rattle.fv_plane.specs.Refusals.{first_fault}
use Rattle.clip_term.specs.declared.fault.FilterFault.{FilterFault}
use Rattle.clip_term.specs.declared.op.SpaceOp.{SpaceOp}
use Rattle.clip_term.specs.Refusals.{info_at, rate_of, unless, limits}
use Rattle.clip_term.specs.Space.{space_refusals, space_shape, check_space}
use Rattle.clip_term.proofs.PassedLemmas.{passed, limits_shape}

no_fault : (fault : Option FilterFault) (rest : Result Info FilterFault) (info : Info) → unless fault rest ≡ Ok info → fault ≡ None
no_fault fault rest info e = grind (arith, common_steps)

-- what a check accepts is not refused
pub not_refused : (op : SpaceOp) (infos : List Info) (info : Info) → check_space op infos ≡ Ok info → first_fault (space_refusals op (info_at infos 0).shape) ≡ None
not_refused op infos info e = search (arith, no_fault)

-- and its shape is that of what is made
pub shape_made : (op : SpaceOp) (infos : List Info) (info : Info) → check_space op infos ≡ Ok info → space_shape op (info_at infos 0).shape ≡ info.shape
shape_made op infos info e =
    let c = info_at infos 0 in
    let told = passed (space_refusals op c.shape) (limits c c.frames (rate_of c) (space_shape op c.shape)) info e in
    limits_shape c c.frames (rate_of c) (space_shape op c.shape) info told.1
