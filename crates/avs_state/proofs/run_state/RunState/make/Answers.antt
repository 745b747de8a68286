use Rattle.std.proofs.Common.{rules, ◌≡◌, sym, true, Ok, Err}
use Rattle.clip_graph.specs.Plan.{infos_among}
use Rattle.clip_term.specs.Terms.{act_of, check}
use Rattle.avs_meaning.specs.Filters as f
use Rattle.avs_state.specs.States.{state_of}
use Rattle.avs_state.proofs.RefusedLemmas.{allowed, refused}
use Rattle.avs_state.proofs.run_state.RunState.make.Goals as goal

pub returns-in-Err-clause-gives : goal.returns-in-Err-clause-gives
unfolding state_of
returns-in-Err-clause-gives c = λ here.
    let plan = c.args.self.now.plan in
    let inputs = c.args.inputs.now in
    let act = act_of c.args.op in
    let places : f.are_places inputs plan ≡ true = search rules in
    let checked : check act (infos_among plan inputs) ≡ Err c.in-Err.fault = search rules in
    refused here c.args.filter act inputs c.args.line (state_of c.args.self.now) c.in-Err.fault places checked

pub returns-in-Ok-clause-memory : goal.returns-in-Ok-clause-memory
unfolding state_of
returns-in-Ok-clause-memory c = λ here.
    let plan = c.args.self.now.plan in
    let inputs = c.args.inputs.now in
    let act = act_of c.args.op in
    let places : f.are_places inputs plan ≡ true = search rules in
    let checked : check act (infos_among plan inputs) ≡ Ok c.in-Ok.info = search rules in
    rw (allowed here c.args.filter act inputs c.args.line (state_of c.args.self.now) c.in-Ok.info places checked, sym c.mode_for-mode.ensures.mode) (c.add.ensures.memory here)
