use Rattle.std.proofs.Common.{◌∙◌, ap}
use Rattle.clip_term.specs.Terms.{act_of}
use Rattle.clip_graph.specs.Plan.{Application}
use Rattle.clip_frames.proofs.NodeLemmas.{is_shown}
use Rattle.clip_frames.proofs.inputs.input_at.Goals as goal

pub asked_at-requires-clause-shown : goal.asked_at-requires-clause-shown
asked_at-requires-clause-shown c =
    let is = c.node-node.ensures in
    let r = c.requires.key in
    is_shown c.args.graph.now c.args.key.node c.args.key.n (act_of c.node-node.result.now.op) c.deref.result.now c.len.ensures.plan r.node r.number
    (ap (λ (a : Application). a.act) is) (c.deref.ensures.value ∙ ap (λ (a : Application). a.inputs) is)
