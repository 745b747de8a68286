-- Part by part.
use Rattle.std.proofs.Common.{◌==◌, refl, ◌∙◌}
use Rattle.fv_plane.specs.declared.format.Info.{Info}
use Rattle.clip_term.specs.Refusals.{same_format, same_size}
use Rattle.clip_check.proofs.SummaryLemmas.{placed, tested, woven_now, longest_now, sum_now, one_longer}
use Rattle.clip_check.proofs.summary.Summary.with.Goals as goal

pub returns-clause-told : goal.returns-clause-told
returns-clause-told c = λ infos t.
    let s = c.args.self in
    let info = c.args.info in
    let c' = c.at_place-first.result in
    let first = placed infos info s.first c' s.count 0 c.at_place-first.ensures t.count t.first in
    record {
      count = one_longer infos info s.count t.count;
      first = first;
      second = placed infos info s.second _ s.count 1 c.at_place.ensures t.count t.second;
      third = placed infos info s.third _ s.count 2 c.at_place-2.ensures t.count t.third;
      formats = tested (λ (d o : Info). same_format d.shape o.shape) infos info c' s.same_formats _ first t.formats c.same_format.ensures;
      bits = tested (λ (d o : Info). d.shape.bits == o.shape.bits) infos info c' s.same_bits _ first t.bits refl;
      sizes = tested (λ (d o : Info). same_size d.shape o.shape) infos info c' s.same_sizes _ first t.sizes c.same_size.ensures;
      widths = tested (λ (d o : Info). d.shape.width == o.shape.width) infos info c' s.same_widths _ first t.widths refl;
      heights = tested (λ (d o : Info). d.shape.height == o.shape.height) infos info c' s.same_heights _ first t.heights refl;
      woven = c.max.ensures ∙ (let e = c.woven_end.ensures in rw e (woven_now infos info s.total s.count s.woven t.count t.woven));
      most = c.max-2.ensures ∙ longest_now infos info s.most_frames t.most;
      all_frames = sum_now (λ (d : Info). d.frames) infos info s.all_frames t.all_frames;
      all_widths = sum_now (λ (d : Info). d.shape.width) infos info s.all_widths t.all_widths;
      all_heights = sum_now (λ (d : Info). d.shape.height) infos info s.all_heights t.all_heights;
    }
