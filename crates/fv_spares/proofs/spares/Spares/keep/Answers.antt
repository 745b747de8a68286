use Rattle.fv_spares.proofs.SpareLemmas.{large_of, kept_both}
use Rattle.fv_spares.proofs.spares.Spares.keep.Goals as goal

pub returns-clause-chroma : goal.returns-clause-chroma
returns-clause-chroma c = rw (← c.self.view_is) (kept_both _ _ _ _ _ _ _
    (c.keep_in-2.ensures.kept _ (large_of _ 1 _ c.into_memory-luma.ensures.u))
    (c.keep_in-3.ensures.kept _ (large_of _ 2 _ c.into_memory-luma.ensures.v)))
