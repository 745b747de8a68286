use Rattle.std.proofs.Common.{arith, ◌≡◌, ◌*◌, length}
use Rattle.fv_plane.proofs.WideLemmas.{bytes_written}
use Rattle.fv_plane.proofs.wide.write_samples.Goals as goal

pub returns : goal.returns
returns c =
    let long : length c.loop-x.bytes ≡ length c.args.samples.now * 2 = omega arith in
    bytes_written c.args.samples.now c.loop-x.bytes long (λ k within. c.loop-x.invariant.even k (omega arith)) (λ k within. c.loop-x.invariant.odd k (omega arith))
