use Rattle.avs_print.proofs.ReadBack.{printed_is_read}
use Rattle.avs_print.proofs.laws.printed_is_read.Goals as goal

pub returns : goal.returns
returns c = printed_is_read
