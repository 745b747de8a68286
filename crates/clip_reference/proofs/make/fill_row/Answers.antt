use Rattle.std.proofs.Common.{[], length, map, arith}
use Rattle.fv_plane.specs.Picture.{look_in}
use Rattle.clip_term.specs.Terms.{act_of, sample}
use Rattle.fv_plane.proofs.FillLemmas.{row_listed}
use Rattle.clip_reference.proofs.make.fill_row.Goals as goal

pub returns : goal.returns
returns c =
    row_listed c.loop-x.row (sample [] (act_of c.args.op.now) c.args.infos.now c.args.n (map look_in c.args.frames.now)) c.args.plane (length c.args.row.now) c.args.y
    c.loop-x.invariant.long (λ x h. c.loop-x.invariant.made x (omega arith))
