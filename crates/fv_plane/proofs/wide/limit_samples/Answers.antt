use Rattle.std.proofs.Common.{rules, arith, ◌≡◌, length}
use Rattle.fv_plane.proofs.WideLemmas.{bytes_limited}
use Rattle.fv_plane.proofs.wide.limit_samples.Goals as goal

pub returns : goal.returns
returns c =
    let same : length c.loop-x.bytes ≡ length c.args.bytes.now = search rules in
    bytes_limited c.args.largest c.args.bytes.now c.loop-x.bytes same c.requires (λ k within. c.loop-x.invariant.even k (omega arith)) (λ k within. c.loop-x.invariant.odd k (omega arith))
