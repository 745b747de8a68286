use Rattle.std.proofs.Common.{◌≡◌, ◌<◌, length, get_or, inl, inr, sym, ap, ◌∙◌, subst, arith}
use Rattle.std.proofs.lemmas.Bool.{cases_lt}
use Rattle.fv_plane.specs.Picture.{Picture, IsPicture}
use Rattle.flt_choice.proofs.ValueLemmas.{same_there}
use Rattle.flt_choice.proofs.choice.are_pictures.Goals as goal

pub loop-input-preserved : goal.loop-input-preserved
loop-input-preserved c = λ i d low.
    let inputs = c.args.inputs.now in
    let at = c.loop-input.input-index in
    let item = c.input-item.result in
    elim (cases_lt i at) [
      | inl before ↦ c.loop-input.invariant i d before
      | inr past ↦
          (let here : i ≡ at = omega arith in
          let there : at < length inputs = c.loop-input-test.true in
          let is : item ≡ get_or inputs i d = c.input-item.is ∙ same_there inputs at item d there ∙ ap (λ k. get_or inputs k d) (sym here) in
          subst (λ (p : Picture). IsPicture p) is c.shape.ensures.sizes)
    ]
