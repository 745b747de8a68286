use Rattle.std.proofs.Common.{rules}
use Rattle.flt_rows.proofs.DivideLemmas.{wide_power_whole, wide_factor_fits, wide_factor_is}
use Rattle.flt_rows.proofs.reciprocal.reciprocal_at.Goals as goal

pub overflow_cast-result : goal.overflow_cast-result
overflow_cast-result c =
    let d = c.args.divisor in
    let few = wide_factor_fits d c.args.bits c.requires.some c.requires.few c.requires.below c.requires.above in
    rw (wide_power_whole c.args.bits c.requires.few) (search (rules, few))

pub returns : goal.returns
returns c =
    rw (wide_power_whole c.args.bits c.requires.few) (wide_factor_is c.args.divisor c.args.bits c.requires.some c.requires.few c.requires.below)
