use Rattle.std.proofs.Common.{rules, ◌≡◌, arith}
use Rattle.clip_term.specs.Refusals.{nat_of, part_of}
use Rattle.flt_space.proofs.borders.paint.Goals as goal

pub returns : goal.returns
returns c =
    let part : c.part_of.result ≡ part_of (nat_of c.args.colour) c.args.plane = search rules in
    rw c.requires (omega (arith, part))
