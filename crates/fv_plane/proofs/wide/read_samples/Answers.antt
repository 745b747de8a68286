use Rattle.std.proofs.Common.{arith, ◌≡◌, ◌*◌, length}
use Rattle.fv_plane.proofs.WideLemmas.{samples_read}
use Rattle.fv_plane.proofs.wide.read_samples.Goals as goal

pub returns : goal.returns
returns c =
    let long : length c.args.bytes.now ≡ length c.loop-x.samples * 2 = omega arith in
    samples_read c.args.bytes.now c.loop-x.samples long (λ k within. c.loop-x.invariant k (omega arith))
