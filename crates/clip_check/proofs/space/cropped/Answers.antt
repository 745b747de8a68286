use Rattle.std.proofs.Common.{◌≡◌, rules}
use Rattle.clip_term.specs.Refusals.{nat_of, sized}
use Rattle.clip_term.specs.Space.{size_from}
use Rattle.clip_check.specs.Numbers.{shape_in}
use Rattle.clip_check.proofs.space.cropped.Goals as goal

pub returns-clause-sides : goal.returns-clause-sides
returns-clause-sides c =
    let width = nat_of (size_from c.args.left c.args.width c.args.shape.width) in
    let height = nat_of (size_from c.args.top c.args.height c.args.shape.height) in
    let is : shape_in c.of_size-sides.result ≡ sized c.args.shape width height = search rules in
    rw is at c.unless.ensures.sides
