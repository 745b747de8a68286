use Rattle.std.proofs.Common.{arith}
use Rattle.std.proofs.lemmas.Nat.Gcd.{IsGcd-from_mod, IsGcd-from_zero}
use Rattle.fv_plane.proofs.GcdLemmas.{gcd_found, positive}
use Rattle.fv_plane.proofs.rate.gcd.Goals as goal

pub loop-y-preserved : goal.loop-y-preserved
loop-y-preserved c g is = c.loop-y.invariant g (IsGcd-from_mod c.loop-y.x c.loop-y.y g is)

pub returns : goal.returns
returns c =
    let is = c.loop-y.invariant c.loop-y.x (IsGcd-from_zero c.loop-y.x c.loop-y.y (omega arith)) in
    let value = gcd_found c.args.a c.args.b c.loop-y.x is c.requires.some c.requires.more in
    record { value = cc; some = positive c.args.a c.args.b c.loop-y.x is c.requires.some c.requires.more }
