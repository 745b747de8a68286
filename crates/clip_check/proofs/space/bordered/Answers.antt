use Rattle.std.proofs.Common.{◌≡◌, ◌+◌, rules}
use Rattle.clip_term.specs.Refusals.{nat_of, sized}
use Rattle.clip_check.specs.Numbers.{shape_in}
use Rattle.clip_check.proofs.space.bordered.Goals as goal

pub returns-clause-sides : goal.returns-clause-sides
returns-clause-sides c =
    let width = c.args.shape.width + nat_of c.args.left + nat_of c.args.right in
    let height = c.args.shape.height + nat_of c.args.top + nat_of c.args.bottom in
    let is : shape_in c.of_size.result ≡ sized c.args.shape width height = search rules in
    rw is at c.unless.ensures.sides
