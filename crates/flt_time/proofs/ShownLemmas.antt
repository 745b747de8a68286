-- What a check that was passed says of the numbers shown.
use Rattle.std.proofs.Common.{◌≡◌, ℕ, ◌<◌, ℤ, List, length, arith, refl, ap, sym, subst, Result, Ok, Err, IsOkAnd}
use Rattle.fv_plane.specs.declared.format.Info.{Info}
use Rattle.fv_plane.specs.declared.format.Shape.{Shape}
use Rattle.fv_plane.specs.Info.{Rate, lowest}
use Rattle.clip_term.specs.declared.fault.FilterFault.{FilterFault}
use Rattle.clip_term.specs.declared.op.Origin.{Origin}
use Rattle.clip_term.specs.declared.op.TimeOp.{TimeOp}
use Rattle.clip_term.specs.declared.op.TimeOp.TheVariants as time_op
use Rattle.clip_term.specs.Refusals.{info_at, limits, limit_refusals}
use Rattle.clip_term.specs.Terms.{time, AreLawful, IsAsked, IsSound}
use Rattle.clip_term.specs.Time.{check_time, duplicated, frame_at, from_input, in_range, kept, time_length, time_rate, time_refusals}
use Rattle.clip_term.proofs.PassedLemmas.{Passed, passed}
use Rattle.clip_term.proofs.AskedLemmas.{asks_in_range}
use Rattle.flt_time.proofs.LengthLemmas.{duplicated_long, kept_long}

-- a number below the frames that the check told
abbrev pub IsShown : TimeOp → List Info → ℕ → Type 0
IsShown op infos n = IsOkAnd (check_time op infos) (λ (info : Info). n < info.frames)

-- the row refuses nothing, and the number is below the row's length
record Told (op : TimeOp) (infos : List Info) (n : ℕ) : Type 0 where
  tests : Passed (time_refusals op (info_at infos 0) infos)
  few : n < time_length op (info_at infos 0) infos

limits_length : (c : Info) (frames : ℕ) (rate : Rate) (shape : Shape) (info : Info) → limits c frames rate shape ≡ Ok info → frames ≡ info.frames
limits_length c frames rate shape info e =
    let low = lowest rate in
    let made : Info = record c { frames = frames; num = low.num; den = low.den; shape = shape } in
    let same : made ≡ info = (let f = (passed (limit_refusals frames low shape) (Ok made) info e).1 in cc) in
    ap (λ (i : Info). i.frames) same

told_by : (op : TimeOp) (infos : List Info) (n : ℕ) (r : Result Info FilterFault) → check_time op infos ≡ r → IsOkAnd r (λ (info : Info). n < info.frames) → Told op infos n
told_by op infos n (Ok info) e few =
    let c = info_at infos 0 in
    let rest = passed (time_refusals op c infos) (limits c (time_length op c infos) (time_rate op c infos) c.shape) info e in
    let long = limits_length c (time_length op c infos) (time_rate op c infos) c.shape info rest.1 in
    record { tests = rest.0; few = omega arith }
told_by op infos n (Err fault) e few = absurd few

told : (op : TimeOp) (infos : List Info) (n : ℕ) → IsShown op infos n → Told op infos n
told op infos n shown = told_by op infos n (check_time op infos) refl shown

pub kept_shown : (frames : List ℤ) (infos : List Info) (n : ℕ) → IsShown (time_op.DeleteFrame frames) infos n → n < length (kept frames (info_at infos 0).frames)
kept_shown frames infos n shown =
    let few = (told (time_op.DeleteFrame frames) infos n shown).few in
    omega (arith, kept_long frames (info_at infos 0).frames)

pub duplicated_shown : (frames : List ℤ) (infos : List Info) (n : ℕ) → IsShown (time_op.DuplicateFrame frames) infos n → n < length (duplicated frames (info_at infos 0).frames)
duplicated_shown frames infos n shown =
    let is = told (time_op.DuplicateFrame frames) infos n shown in
    let few = is.few in
    omega (arith, duplicated_long frames (info_at infos 0).frames is.tests.0)

-- what is shown, once in range, is a frame of an input
pub shown_is_asked : (op : TimeOp) (c : Info) (infos : List Info) (n input number : ℕ) → IsSound (time op) (length infos) → AreLawful infos
    → c ≡ info_at infos 0 → from_input input number ≡ frame_at op c infos n → IsAsked infos (in_range infos (from_input input number))
shown_is_asked op c infos n input number sound lawful first same =
    let there : IsAsked infos (in_range infos (frame_at op c infos n)) = rw first (asks_in_range (time op) infos n sound lawful 0 (from_input 0 0) (omega arith)) in
    subst (λ (o : Origin). IsAsked infos (in_range infos o)) (sym same) there
