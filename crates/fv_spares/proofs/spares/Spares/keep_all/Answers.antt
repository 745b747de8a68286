use Rattle.std.proofs.Common.{◌+◌, ◌*◌, ◌∷◌, [], arith, length, length-append}
use Rattle.fv_spares.proofs.SpareLemmas.{of_some, all_but_last, kept_none, kept_more, kept_fewer, kept_both}
use Rattle.fv_spares.proofs.spares.Spares.keep_all.Goals as goal

pub loop-frame-init : goal.loop-frame-init
loop-frame-init c = record { luma = λ bytes all. kept_none 16 0 bytes _ c.len.ensures.luma; chroma = λ bytes all. kept_none 32 0 bytes _ c.len.ensures.chroma }

pub loop-frame-preserved-in-Some-frame : goal.loop-frame-preserved-in-Some-frame
loop-frame-preserved-in-Some-frame c =
    let n = length c.loop-frame.yielded in
    let one = length-append c.loop-frame.yielded (c.in-Some.frame ∷ []) in
    record {
      luma = λ bytes all.
          let large = all_but_last 0 bytes c.loop-frame.yielded _ all in
          kept_more _ (n + 1) _ bytes _ _ (omega (arith, one)) (kept_both _ n 1 bytes _ _ _ (c.loop-frame.invariant.luma bytes large.0) (kept_fewer _ 1 _ bytes _ _ (of_some _ _ _ c.in-Some-frame.is large.1) c.keep.ensures.luma));
      chroma = λ bytes all.
          let large = all_but_last 1 bytes c.loop-frame.yielded _ all in
          kept_more _ (2 * n + 2) _ bytes _ _ (omega (arith, one)) (kept_both _ (2 * n) 2 bytes _ _ _ (c.loop-frame.invariant.chroma bytes large.0) (kept_fewer _ 2 _ bytes _ _ (of_some _ _ _ c.in-Some-frame.is large.1) c.keep.ensures.chroma));
    }

pub loop-frame-preserved : goal.loop-frame-preserved
loop-frame-preserved c =
    let one = length-append c.loop-frame.yielded (c.in-Some.frame ∷ []) in
    record {
      luma = λ bytes all. kept_more _ _ _ bytes _ _ (omega (arith, one)) (c.loop-frame.invariant.luma bytes (all_but_last 0 bytes c.loop-frame.yielded _ all).0);
      chroma = λ bytes all. kept_more _ _ _ bytes _ _ (omega (arith, one)) (c.loop-frame.invariant.chroma bytes (all_but_last 1 bytes c.loop-frame.yielded _ all).0);
    }
