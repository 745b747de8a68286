use Rattle.std.proofs.Common.{◌≡◌, length, arith}
use Rattle.std.proofs.lemmas.List.{ext_get_or}
use Rattle.clip_reference.proofs.make.narrow_samples.Goals as goal

pub returns : goal.returns
returns c =
    let long : length c.loop-x.bytes ≡ length c.args.samples.now = omega arith in
    ext_get_or 0 c.loop-x.bytes c.args.samples.now long (λ k within. c.loop-x.invariant k (omega arith))
