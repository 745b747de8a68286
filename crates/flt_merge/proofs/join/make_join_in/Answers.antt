use Rattle.std.proofs.Common.{◌≡◌, List, [], ◌∷◌, ◌∙◌, IfOk, ap, sym, subst, arith}
use Rattle.fv_plane.specs.Picture.{Picture}
use Rattle.clip_term.specs.declared.op.JoinOp.{JoinOp}
use Rattle.clip_term.specs.declared.op.JoinOp.TheVariants as op
use Rattle.clip_term.proofs.PassedLemmas.{same_number}
use Rattle.flt_merge.specs.Joined.{join_picture, CanJoin}
use Rattle.flt_merge.proofs.JoinLemmas.{two_are, three_are, luma_agree, chroma_agree, means_agree, merge_luma_is, chroma_fits, have_width, have_height}
use Rattle.flt_merge.proofs.join.make_join_in.Goals as goal
use Rattle.flt_merge.proofs.join.make_join_in.Goals.{After-index-inputs-2}

pub stack_horizontal-requires-clause-alike : goal.stack_horizontal-requires-clause-alike
stack_horizontal-requires-clause-alike c = have_height c.args.inputs.now (subst (λ (o : JoinOp). CanJoin o c.args.inputs.now) c.in-StackHorizontal.is c.requires)

pub stack_vertical-requires-clause-alike : goal.stack_vertical-requires-clause-alike
stack_vertical-requires-clause-alike c = have_width c.args.inputs.now (subst (λ (o : JoinOp). CanJoin o c.args.inputs.now) c.in-StackVertical.is c.requires)

pub merge-requires : goal.merge-requires
merge-requires c = search (arith, two_are, same_number, means_agree)

pub luma_and_chroma-requires : goal.luma_and_chroma-requires
luma_and_chroma-requires c = search (arith, two_are, same_number, luma_agree)

pub luma_and_chroma-requires-in-MergeChroma : goal.luma_and_chroma-requires-in-MergeChroma
luma_and_chroma-requires-in-MergeChroma c = search (arith, two_are, same_number, chroma_agree)

-- the pictures that YToUV joins
three : (c : After-index-inputs-2) → c.args.inputs.now ≡ c.index-inputs-0-in-YToUV.result ∷ c.index-inputs-1-in-YToUV.result ∷ c.index-inputs-2.result ∷ []
three c = search (arith, three_are, same_number)

can_three : (c : After-index-inputs-2) → CanJoin op.YToUV (c.index-inputs-0-in-YToUV.result ∷ c.index-inputs-1-in-YToUV.result ∷ c.index-inputs-2.result ∷ [])
can_three c = subst (λ (l : List Picture). CanJoin op.YToUV l) (three c) (subst (λ (o : JoinOp). CanJoin o c.args.inputs.now) c.in-YToUV.is c.requires)

pub y_to_uv-requires-clause-legal : goal.y_to_uv-requires-clause-legal
y_to_uv-requires-clause-legal c = (can_three c).legal

pub y_to_uv-requires-clause-size : goal.y_to_uv-requires-clause-size
y_to_uv-requires-clause-size c = (chroma_fits c.index-inputs-0-in-YToUV.result c.index-inputs-1-in-YToUV.result c.index-inputs-2.result (can_three c)).0

pub y_to_uv-requires-clause-kind : goal.y_to_uv-requires-clause-kind
y_to_uv-requires-clause-kind c = (chroma_fits c.index-inputs-0-in-YToUV.result c.index-inputs-1-in-YToUV.result c.index-inputs-2.result (can_three c)).1

pub y_to_uv-requires-clause-bits : goal.y_to_uv-requires-clause-bits
y_to_uv-requires-clause-bits c = (chroma_fits c.index-inputs-0-in-YToUV.result c.index-inputs-1-in-YToUV.result c.index-inputs-2.result (can_three c)).2

pub returns-in-MergeLuma : goal.returns-in-MergeLuma
returns-in-MergeLuma c = search (arith, two_are, same_number, luma_agree, merge_luma_is)

pub returns-in-YToUV : goal.returns-in-YToUV
returns-in-YToUV c =
    let inputs : List Picture = c.args.inputs.now in
    subst (λ (q : Picture). IfOk c.y_to_uv.result (λ made. made ≡ q))
    (ap (λ (l : List Picture). join_picture op.YToUV l) (sym (three (goal.at.returns-in-YToUV c).After-index-inputs-2)) ∙ ap (λ (o : JoinOp). join_picture o inputs) (sym c.in-YToUV.is)) c.y_to_uv.ensures
