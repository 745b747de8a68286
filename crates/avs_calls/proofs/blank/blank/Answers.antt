use Rattle.std.proofs.Common.{◌≡◌, refl, option_map}
use Rattle.avs_meaning.specs.Filters as f
use Rattle.avs_state.specs.States.{state_of}
use Rattle.avs_calls.specs.Views.{args_view}
use Rattle.avs_calls.proofs.BlankLemmas.{blank_first}
use Rattle.avs_calls.proofs.blank.blank.Goals as goal

pub returns-then-signature-eq0-clause-memory : goal.returns-then-signature-eq0-clause-memory
returns-then-signature-eq0-clause-memory c = λ here.
    let state = state_of c.args.state.now in
    let known : f.blank here c.args.signature c.args.values.now c.args.line state
    ≡ f.blank_of here (option_map (λ value. value.now) c.value_at.result) (args_view c.of-args.result) c.args.line state
    = rw (c.if-signature-eq0.true, c.value_at.ensures, c.of-args.ensures) refl in
    rw known (c.blank_of.ensures.memory here)

pub returns-clause-memory : goal.returns-clause-memory
returns-clause-memory c = λ here.
    let state = state_of c.args.state.now in
    let known : f.blank here c.args.signature c.args.values.now c.args.line state
    ≡ f.blank_of here (option_map (λ value. value.now) c.value_at-2.result) (args_view c.of-args-2.result) c.args.line state
    = rw (c.value_at-2.ensures, c.of-args-2.ensures) (blank_first here c.args.signature c.args.values.now c.args.line state c.if-signature-eq0.false) in
    rw known (c.blank_of-2.ensures.memory here)
