use Rattle.std.proofs.Common.{rules, ◌≡◌, ap}
use Rattle.clip_graph.specs.Plan.{application_at}
use Rattle.avs_state.proofs.StateLemmas.{lawful_at}
use Rattle.avs_state.proofs.run_state.RunState.info_of.Goals as goal

pub returns-clause-lawful : goal.returns-clause-lawful
returns-clause-lawful c =
    let same : c.node.result.now.info ≡ (application_at c.args.self.now.plan c.args.i).info = ap (λ a. a.info) c.node.ensures in
    rw same (lawful_at c.args.self.now.plan c.args.i c.len.ensures.plan (search rules))
