use Rattle.std.proofs.Common.{rules}
use Rattle.flt_rows.proofs.DivideLemmas.{power_whole, factor_fits, factor_is}
use Rattle.flt_rows.proofs.narrow.reciprocal_at.Goals as goal

pub overflow_cast-result : goal.overflow_cast-result
overflow_cast-result c =
    let d = c.args.divisor in
    let few = factor_fits d c.args.bits c.requires.some c.requires.few c.requires.below c.requires.above in
    rw (power_whole c.args.bits c.requires.few) (search (rules, few))

pub returns : goal.returns
returns c =
    rw (power_whole c.args.bits c.requires.few) (factor_is c.args.divisor c.args.bits c.requires.some c.requires.few c.requires.below)
