use Rattle.flt_field.proofs.ShareLemmas.{listed_done}
use Rattle.flt_field.proofs.make.shared.Goals as goal

pub returns : goal.returns
returns c = listed_done c.args.frame.now c.share.result c.shape.ensures.sizes c.share.ensures
