use Rattle.std.proofs.Common.{◌^◌}
use Rattle.flt_rows.proofs.DivideLemmas.{div_by_times}
use Rattle.flt_rows.proofs.reciprocal.divide.Goals as goal

pub returns : goal.returns
returns c =
    let by = c.requires.by in
    div_by_times c.args.n c.args.by.factor c.args.divisor (2 ^ c.args.by.bits) (2 ^ 31) by.some by.low by.high c.requires.small by.wide
