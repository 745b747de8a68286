use Rattle.flt_rows.proofs.DivideLemmas.{divide_by_upper}
use Rattle.flt_rows.proofs.narrow.divide.Goals as goal

pub returns : goal.returns
returns c = divide_by_upper c.args.n c.args.divisor c.args.by.factor c.args.by.bits c.requires.by c.requires.small
