use Rattle.std.proofs.Common.{rules, ◌≡◌, []}
use Rattle.clip_term.specs.Terms.{plain}
use Rattle.clip_term.specs.declared.filter.Filter.TheVariants.{BlankClip}
use Rattle.avs_meaning.specs.Filters as f
use Rattle.avs_state.specs.States.{state_of}
use Rattle.avs_calls.specs.Views.{args_view}
use Rattle.avs_calls.proofs.blank.blank_like.Goals as goal

pub returns-clause-memory : goal.returns-clause-memory
returns-clause-memory c = λ here.
    let state = state_of c.args.state.now in
    let made : f.blank_like here c.args.base.now (args_view c.args.args.now) c.args.line state
    ≡ f.made here BlankClip (plain c.blank_info-info.result c.colour_of-colour.result) [] c.args.line state = search rules in
    rw made (c.make.ensures.memory here)
