-- A number that is too large to be read is out of range.
use Rattle.std.proofs.Common.{◌∙◌, sym, arith}
use Rattle.command_line.proofs.NumberLemmas.{none_read}
use Rattle.command_line.proofs.numbers.number_in.Goals as goal

pub returns-in-Err : goal.returns-in-Err
returns-in-Err c = none_read c.args.least c.args.most c.args.word.now c.in-Err.field-0 c.parse.result c.parse.ensures.value.0 (sym c.is_number.ensures ∙ c.if-not-is_number.false) c.in-Err.is (omega arith)
