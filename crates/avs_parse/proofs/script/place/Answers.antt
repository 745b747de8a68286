use Rattle.std.proofs.Common.{◌-◌, length, arith}
use Rattle.avs_parse.proofs.NumberLemmas.{number_below, line_is}
use Rattle.avs_parse.proofs.script.place.Goals as goal

pub narrow-requires : goal.narrow-requires
narrow-requires c = number_below c.args.text.now c.args.tokens.now c.requires.list (length c.args.tokens.now - c.args.left) _ (omega (arith, c.requires.some, c.requires.within))

pub returns-clause-line : goal.returns-clause-line
returns-clause-line c = line_is c.args.text.now c.args.tokens.now (length c.args.tokens.now - c.args.left) (omega (arith, c.requires.some, c.requires.within)) _
