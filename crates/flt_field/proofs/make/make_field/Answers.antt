use Rattle.flt_field.proofs.ShareLemmas.{shared_done}
use Rattle.flt_field.proofs.make.make_field.Goals as goal

pub returns-in-AssumeTFF : goal.returns-in-AssumeTFF
returns-in-AssumeTFF c =
    shared_done c.args.op.now c.args.info.now.field c.args.n c.args.inputs.now c.index-inputs-0-in-AssumeTFF.result c.shared.result c.requires c.index-inputs-0-in-AssumeTFF.is c.in-AssumeTFF.is c.shared.ensures
