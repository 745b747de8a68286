use Rattle.std.proofs.Common.{sym, ap, arith}
use Rattle.fv_plane.specs.declared.format.Shape.{Shape}
use Rattle.fv_plane.specs.Format.{planes, largest_sample}
use Rattle.clip_term.specs.Expression.{stat_in}
use Rattle.flt_choice.specs.Table.{plane_samples, stats_of}
use Rattle.flt_choice.proofs.ValueLemmas.{known_ok, stat_there}
use Rattle.flt_choice.proofs.value.statistic_if.Goals as goal

pub returns : goal.returns
returns c =
    let frame = c.args.frame.now in
    let below = c.if-plane-planes.false in
    let count = c.planes.ensures in
    let same = ap (λ (s : Shape). planes s.kind) c.shape.ensures.shape in
    known_ok c.statistic.result (stat_in (largest_sample frame.shape) c.args.stat (plane_samples frame c.args.plane)) (stats_of frame c.args.plane c.args.stat) c.args.named c.statistic.ensures
    (sym (stat_there frame c.args.plane c.args.stat c.shape.ensures.sizes (omega arith)))
