-- The infos of one or two inputs are those of all.
use Rattle.std.proofs.Common.{◌≡◌, ◌∙◌, [], ◌∷◌, List, sym, ap, subst, arith}
use Rattle.std.proofs.lemmas.List.{length-map}
use Rattle.fv_plane.specs.declared.format.Info.{Info}
use Rattle.clip_term.specs.Time.{source_number}
use Rattle.clip_term.specs.Terms.{time}
use Rattle.clip_graph.specs.Plan.{application_at, infos_among}
use Rattle.clip_frames.specs.Asked.{IsShown}
use Rattle.clip_frames.proofs.InputLemmas.{one_info, two_infos}
use Rattle.clip_frames.proofs.inputs.shown_of_few.Goals as goal

pub source_number-requires : goal.source_number-requires
source_number-requires c =
    let a = c.args in
    let all = infos_among a.graph.now a.inputs.now in
    let long = length-map a.inputs.now (λ j. (application_at a.graph.now j).info) in
    let same : c.info_at-first.result ∷ [] ≡ all = one_info all c.info_at-first.result (omega arith) c.info_at-first.ensures in
    let is = subst (λ (infos : List Info). IsShown (time a.op.now) infos a.n) (sym same) c.requires.shown in
    record { sound = is.sound; lawful = is.lawful; shown = is.shown }

pub returns-then-inputs-eq1-clause-origin : goal.returns-then-inputs-eq1-clause-origin
returns-then-inputs-eq1-clause-origin c =
    let a = c.args in
    let all = infos_among a.graph.now a.inputs.now in
    let long = length-map a.inputs.now (λ j. (application_at a.graph.now j).info) in
    let same : c.info_at-first.result ∷ [] ≡ all = one_info all c.info_at-first.result (omega arith) c.info_at-first.ensures in
    c.source_number.ensures.number ∙ ap (λ infos. source_number a.op.now infos a.n) same

pub source_number-requires-2 : goal.source_number-requires-2
source_number-requires-2 c =
    let a = c.args in
    let all = infos_among a.graph.now a.inputs.now in
    let long = length-map a.inputs.now (λ j. (application_at a.graph.now j).info) in
    let same : c.info_at-first.result ∷ c.info_at.result ∷ [] ≡ all = two_infos all c.info_at-first.result c.info_at.result (omega arith) c.info_at-first.ensures c.info_at.ensures in
    let is = subst (λ (infos : List Info). IsShown (time a.op.now) infos a.n) (sym same) c.requires.shown in
    record { sound = is.sound; lawful = is.lawful; shown = is.shown }

pub returns-clause-origin : goal.returns-clause-origin
returns-clause-origin c =
    let a = c.args in
    let all = infos_among a.graph.now a.inputs.now in
    let long = length-map a.inputs.now (λ j. (application_at a.graph.now j).info) in
    let same : c.info_at-first.result ∷ c.info_at.result ∷ [] ≡ all = two_infos all c.info_at-first.result c.info_at.result (omega arith) c.info_at-first.ensures c.info_at.ensures in
    c.source_number-2.ensures.number ∙ ap (λ infos. source_number a.op.now infos a.n) same
