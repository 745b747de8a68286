use Rattle.std.proofs.Common.{◌+◌, ◌*◌, ℕ, List, sym, ap, ◌∙◌}
use Rattle.fv_plane.specs.declared.format.Shape.{Shape}
use Rattle.fv_plane.specs.Format.{largest_sample, plane_width, plane_height}
use Rattle.flt_choice.specs.Counts.{middle_of}
use Rattle.flt_choice.specs.Table.{plane_samples}
use Rattle.flt_choice.proofs.CountLemmas.{counts_are}
use Rattle.flt_choice.proofs.SampleLemmas.{length-plane_samples}
use Rattle.flt_choice.proofs.stats.median_by.Goals as goal

pub returns : goal.returns
returns c =
    let samples = plane_samples c.args.frame.now c.args.plane in
    let new : List ℕ = c.count_plane.new.counts in
    let shape = c.shape-shape.ensures.shape in
    let wide = c.plane_width.ensures ∙ ap (λ (s : Shape). plane_width s c.args.plane) shape in
    let high = c.plane_height.ensures ∙ ap (λ (s : Shape). plane_height s c.args.plane) shape in
    let long = length-plane_samples c.args.frame.now c.args.plane c.shape-shape.ensures.sizes c.requires.plane ∙ sym (ap (λ w. w * c.plane_height.result) wide ∙ ap (λ h. plane_width c.args.frame.now.shape c.args.plane * h) high) in
    let values = ap (λ n. n + 1) (c.largest_sample.ensures ∙ ap largest_sample shape) in
    c.middle.ensures samples (counts_are c.args.size c.args.counts.now samples new c.requires.none c.count_plane.ensures) long ∙ ap (λ n. middle_of n samples) values
