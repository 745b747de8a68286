use Rattle.std.proofs.Common.{ℕ, subst, inl, inr, arith}
use Rattle.std.proofs.lemmas.Bool.{cases_eq}
use Rattle.std.proofs.lemmas.List.{get_or_read}
use Rattle.fv_plane.specs.Picture.{IsPicture}
use Rattle.flt_soft.proofs.make.see_pictures.Goals as goal

pub loop-input-preserved : goal.loop-input-preserved
loop-input-preserved c =
    let i : ℕ = c.loop-input.input-index in
    λ k d h. elim (cases_eq k i) [
      | inl is ↦ rw is (subst IsPicture (get_or_read c.args.inputs.now i c.input-item.result c.loop-input-test.true c.input-item.is d) c.shape.ensures.sizes)
      | inr other ↦ c.loop-input.invariant k d (omega (arith, other))
    ]
