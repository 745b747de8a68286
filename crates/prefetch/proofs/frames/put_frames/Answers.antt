-- One frame more, or a prefix of it.
use Rattle.std.proofs.Common.{refl, arith}
use Rattle.std.proofs.lemmas.Option.{slice_get_read}
use Rattle.prefetch.proofs.PutLemmas.{put_more, put_cut}
use Rattle.prefetch.proofs.frames.put_frames.Goals as goal

pub returns-in-Err-clause-cut : goal.returns-in-Err-clause-cut
returns-in-Err-clause-cut g c =
    let at = slice_get_read c.args.frames.now _ c.loop-frame.frame-index c.frame-item.result refl c.loop-frame-test.true c.frame-item.is in
    put_cut g.K.Sink c.args.out.now c.loop-frame.out c.put_frame.new.out c.args.frames.now c.loop-frame.frame-index c.frame-item.result at c.loop-frame.invariant.put c.in-Err.ensures.cut

pub loop-frame-preserved : goal.loop-frame-preserved
loop-frame-preserved g c =
    let at = slice_get_read c.args.frames.now _ c.loop-frame.frame-index c.frame-item.result refl c.loop-frame-test.true c.frame-item.is in
    record {
      put = put_more g.K.Sink c.args.out.now c.loop-frame.out c.put_frame.new.out c.args.frames.now c.loop-frame.frame-index c.frame-item.result at c.loop-frame.invariant.put c.in-Ok.ensures.put;
      later = omega (arith, c.loop-frame.invariant.later, c.in-Ok.ensures.later);
    }
