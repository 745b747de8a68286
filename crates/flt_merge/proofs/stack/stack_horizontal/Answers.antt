use Rattle.std.proofs.Common.{◌≡◌, map, subst, IfOk}
use Rattle.fv_plane.specs.declared.format.Shape.{Shape}
use Rattle.fv_plane.specs.Picture.{look_in, picture_from}
use Rattle.clip_term.specs.declared.op.JoinOp.TheVariants.{StackHorizontal}
use Rattle.clip_term.specs.Join.{join_at}
use Rattle.flt_merge.specs.Joined.{infos_in}
use Rattle.flt_merge.proofs.stack.stack_horizontal.Goals as goal

pub returns : goal.returns
returns c =
    let inputs = c.args.inputs.now in
    subst (λ (s : Shape). IfOk c.make_by_rows.result (λ made. made ≡ picture_from s (join_at StackHorizontal (infos_in inputs) (map look_in inputs)))) c.shape_beside-shape.ensures.shape c.make_by_rows.ensures.made
