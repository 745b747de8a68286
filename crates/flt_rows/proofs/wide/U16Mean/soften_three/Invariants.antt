use Rattle.std.proofs.Common.{◌≡◌, ℕ, ◌<◌, get_or, [], ◌∷◌}
use Rattle.fv_plane.specs.Picture.{wide_samples}
use Rattle.clip_term.specs.Soft.{softened}
use Rattle.flt_rows.proofs.wide.U16Mean.soften_three.Given as goal

abbrev pub invariant-loop-x : goal.invariant-loop-x
invariant-loop-x l =
    (k : ℕ) → k < l.x → get_or l.out k 0 ≡ softened 1 l.threshold (get_or (wide_samples l.row) k 0)
    (get_or (wide_samples l.a) k 0 ∷ get_or (wide_samples l.row) k 0 ∷ get_or (wide_samples l.b) k 0 ∷ [])
