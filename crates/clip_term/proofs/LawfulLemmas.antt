-- What a check accepts is lawful, where the op is sound and its clips are lawful.
use Rattle.std.proofs.Common.{◌≡◌, ℕ, length, arith, Ok, true, subst}
use Rattle.std.proofs.lemmas.Grind.{common_steps}
use Rattle.fv_plane.specs.declared.format.Info.{Info}
use Rattle.fv_plane.specs.declared.format.Shape.{Shape}
use Rattle.fv_plane.specs.Format.{has_depth}
use Rattle.fv_plane.specs.Info.{IsLawful, IsPar, Rate}
use Rattle.fv_plane.specs.Refusals.{Refusals, first_fault}
use Rattle.clip_term.specs.declared.fault.FilterFault.{FilterFault}
use Rattle.clip_term.specs.Blank.{plain_refusals}
use Rattle.clip_term.specs.Choice.{run_base, run_refusals}
use Rattle.clip_term.specs.Terms.{source, plain, time, space, joined, soft, fields, choice, ChecksLawful}
use Rattle.clip_term.specs.Time.{field_length, field_order, field_rate, field_refusals, field_shape, time_inputs, time_length, time_lists, time_rate, time_refusals}
use Rattle.clip_term.specs.Join.{join_length, join_refusals, join_shape}
use Rattle.clip_term.specs.Refusals.{info_at, limits, rate_of, unless}
use Rattle.clip_term.specs.Soft.{soft_refusals}
use Rattle.clip_term.specs.Space.{space_refusals, space_shape}
use Rattle.clip_term.proofs.ChoiceFacts.{run_facts}
use Rattle.clip_term.proofs.FieldFacts.{field_facts}
use Rattle.clip_term.proofs.JoinFacts.{join_facts}
use Rattle.clip_term.proofs.LimitLemmas.{IsSized, IsSome, limits_lawful, own, sized_of}
use Rattle.clip_term.proofs.PassedLemmas.{Passed, both, passed}
use Rattle.clip_term.proofs.SpaceFacts.{space_facts}
use Rattle.clip_term.proofs.TimeFacts.{time_facts}

-- any row that ends by its limits
made_lawful : (refusals : Refusals FilterFault) (c : Info) (frames : ℕ) (rate : Rate) (shape : Shape) (info : Info) → IsPar c.par → (Passed refusals → IsSized shape × IsSome rate)
    → unless (first_fault refusals) (limits c frames rate shape) ≡ Ok info → IsLawful info
made_lawful refusals c frames rate shape info par left e =
    let told = passed refusals (limits c frames rate shape) info e in
    let is = left told.0 in
    limits_lawful c frames rate shape info told.1 par is.1.num is.1.den is.0

plain_sized : (info : Info) → has_depth info.shape.kind info.shape.bits ≡ true → Passed (plain_refusals info) → IsSized info.shape × IsSome (rate_of info)
plain_sized info depth told = grind (arith, common_steps)

pub checks_lawful : ChecksLawful
checks_lawful (source name number told) infos info sound lawful e = let same : told ≡ info = cc in subst (λ (i : Info). IsLawful i) same sound.1
checks_lawful (plain told colour) infos info sound lawful e =
    made_lawful (plain_refusals told) told told.frames (rate_of told) told.shape info sound.1 (plain_sized told sound.2) e
checks_lawful (time op) infos info sound lawful e =
    let c = info_at infos 0 in
    let two = both (time_inputs op (length infos)) (time_lists op) sound in
    let first = lawful 0 ((time_facts op).some (length infos) two.0) in
    made_lawful (time_refusals op c infos) c (time_length op c infos) (time_rate op c infos) c.shape info first.par
    (λ told. (sized_of c.shape first.shape, (time_facts op).rated infos told two.0 two.1 first)) e
checks_lawful (space op) infos info sound lawful e =
    let c = info_at infos 0 in
    let first = lawful 0 (omega arith) in
    made_lawful (space_refusals op c.shape) c c.frames (rate_of c) (space_shape op c.shape) info first.par
    (λ told. ((space_facts op).sized c.shape told (sized_of c.shape first.shape), own c first)) e
checks_lawful (joined op) infos info sound lawful e =
    let c = info_at infos 0 in
    let first = lawful 0 ((join_facts op).some (length infos) sound) in
    made_lawful (join_refusals op c infos) c (join_length op c infos) (rate_of c) (join_shape op c infos) info first.par
    (λ told. ((join_facts op).sized infos told sound lawful, own c first)) e
checks_lawful (soft op) infos info sound lawful e =
    let c = info_at infos 0 in
    let one = sound.0 in
    let first = lawful 0 (omega arith) in
    made_lawful (soft_refusals op) c c.frames (rate_of c) c.shape info first.par (λ told. (sized_of c.shape first.shape, own c first)) e
checks_lawful (fields op) infos info sound lawful e =
    let c = info_at infos 0 in
    let first = lawful 0 (omega arith) in
    made_lawful (field_refusals op c.shape) (record c { field = field_order op c.field }) (field_length op c.frames) (field_rate op c) (field_shape op c.shape) info first.par
    (λ told. ((field_facts op).sized c.shape told (sized_of c.shape first.shape), (field_facts op).rated c first)) e
checks_lawful (choice op) infos info sound lawful e =
    let c = run_base op infos in
    let first = (run_facts op).lawful infos sound lawful in
    made_lawful (run_refusals op infos) c c.frames (rate_of c) c.shape info first.par (λ told. (sized_of c.shape first.shape, own c first)) e
