use Rattle.std.proofs.Common.{◌≡◌, ℕ, ◌<◌, get_or, [], ◌∷◌}
use Rattle.clip_term.specs.Soft.{softened}
use Rattle.flt_rows.proofs.kernels.U8Mean.soften_five.Given as goal

abbrev pub invariant-loop-x : goal.invariant-loop-x
invariant-loop-x l = (k : ℕ) → k < l.x → get_or l.out k 0 ≡ softened 2 l.threshold (get_or l.row k 0) (get_or l.a k 0 ∷ get_or l.b k 0 ∷ get_or l.row k 0 ∷ get_or l.c k 0 ∷ get_or l.d k 0 ∷ [])
