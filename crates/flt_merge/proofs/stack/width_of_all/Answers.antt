use Rattle.fv_plane.specs.Picture.{Picture}
use Rattle.flt_merge.proofs.StackLemmas.{total_more, sizes_more}
use Rattle.flt_merge.proofs.stack.width_of_all.Goals as goal

pub loop-i-preserved : goal.loop-i-preserved
loop-i-preserved c =
    let one = c.index-inputs-i.result in
    record {
      total = rw c.shape-width.ensures.shape (total_more (λ (q : Picture). q.shape.width) c.args.inputs.now c.loop-i.i c.loop-i.width one c.loop-i-test.true c.index-inputs-i.is c.loop-i.invariant.total);
      sizes = sizes_more c.args.inputs.now c.loop-i.i one c.loop-i-test.true c.index-inputs-i.is c.shape-width.ensures.sizes c.loop-i.invariant.sizes;
    }
