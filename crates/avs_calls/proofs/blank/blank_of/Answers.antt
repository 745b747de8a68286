use Rattle.std.proofs.Common.{rules, ◌≡◌, option_map}
use Rattle.avs_meaning.specs.Filters as f
use Rattle.avs_state.specs.States.{state_of}
use Rattle.avs_calls.specs.Views.{args_view}
use Rattle.avs_calls.proofs.blank.blank_of.Goals as goal

pub returns-in_ok-info-in-Some-Clip-clause-memory : goal.returns-in_ok-info-in-Some-Clip-clause-memory
returns-in_ok-info-in-Some-Clip-clause-memory c = λ here.
    let state = state_of c.args.state.now in
    let args = args_view c.args.args.now in
    let known : f.blank_of here (option_map (λ value. value.now) c.args.clip) args c.args.line state
    ≡ f.blank_like here c.in_ok-info-in-Some-Clip.info args c.args.line state = search (rules, c.in_ok-info-in-Some-Clip.ensures.gives here) in
    rw known (c.blank_like.ensures.memory here)

pub returns-in_default-clause-memory : goal.returns-in_default-clause-memory
returns-in_default-clause-memory c = λ here.
    let state = state_of c.args.state.now in
    let args = args_view c.args.args.now in
    let known : f.blank_of here (option_map (λ value. value.now) c.args.clip) args c.args.line state
    ≡ f.blank_like here c.default_clip.result args c.args.line state = search rules in
    rw known (c.blank_like-in_default.ensures.memory here)
