use Rattle.std.proofs.Common.{◌≡◌, ◌==◌, ◌∙◌, ap, sym}
use Rattle.std.specs.List.{list_all}
use Rattle.fv_plane.specs.Refusals.{first_fault}
use Rattle.clip_term.specs.Refusals.{info_at}
use Rattle.clip_term.specs.Join.{chroma_refusals}
use Rattle.fv_plane.specs.declared.format.Info.{Info}
use Rattle.clip_check.proofs.StackLemmas.{stacked}
use Rattle.clip_check.proofs.join.join_fault.Goals as goal

pub returns-in-StackHorizontal : goal.returns-in-StackHorizontal
returns-in-StackHorizontal c = λ infos t.
    let op_is = c.in-StackHorizontal.is in
    rw op_is (c.disagreement.ensures ∙ stacked (λ (d o : Info). d.shape.height == o.shape.height) _ infos _ _ t.first t.formats t.heights)

pub returns-in-StackVertical : goal.returns-in-StackVertical
returns-in-StackVertical c = λ infos t.
    let op_is = c.in-StackVertical.is in
    rw op_is (c.disagreement-in-StackVertical.ensures ∙ stacked (λ (d o : Info). d.shape.width == o.shape.width) _ infos _ _ t.first t.formats t.widths)

pub returns-in-YToUV : goal.returns-in-YToUV
returns-in-YToUV c = λ infos t.
    let op_is = c.in-YToUV.is in
    let s = c.args.summary.now in
    let bits : s.same_bits ≡ list_all (λ (d : Info). d.shape.bits == s.first.shape.bits) infos
    = t.bits ∙ ap (λ (i : Info). list_all (λ (d : Info). d.shape.bits == i.shape.bits) infos) (sym t.first) in
    rw op_is (c.chroma_fault.ensures
    ∙ ap (λ b. first_fault (chroma_refusals b s.first.shape s.second.shape s.third.shape)) bits
    ∙ ap (λ (i : Info). first_fault (chroma_refusals (list_all (λ (d : Info). d.shape.bits == s.first.shape.bits) infos) s.first.shape i.shape s.third.shape)) t.second
    ∙ ap (λ (i : Info). first_fault (chroma_refusals (list_all (λ (d : Info). d.shape.bits == s.first.shape.bits) infos) s.first.shape (info_at infos 1).shape i.shape)) t.third)
