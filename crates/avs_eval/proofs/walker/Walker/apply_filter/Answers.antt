use Rattle.std.proofs.Common.{rules, refl}
use Rattle.avs_values.specs.Views.{bound_view}
use Rattle.avs_meaning.specs.Filters.{filtered}
use Rattle.avs_eval.specs.OutsideBy.{outside_by}
use Rattle.avs_state.specs.States.{state_of}
use Rattle.avs_state.specs.Stops.{in_text}
use Rattle.avs_state.proofs.Failures.{given, unread}
use Rattle.avs_eval.proofs.walker.Walker.apply_filter.Goals as goal

pub returns-in_default-clause-told : goal.returns-in_default-clause-told
returns-in_default-clause-told g c = λ told.
    let here = c.args.self.now.script_name.now in
    let outside = outside_by g.H.Host.clips g.H.Host.scripts in
    given (λ v. v) (filtered here outside c.args.applied c.args.signature (bound_view c.args.given.now) c.args.line (state_of c.args.state.now))
    (in_text here c.apply_filter.result) (state_of c.apply_filter.new.state) (c.apply_filter.ensures.gives here outside refl)

pub returns-in_default-clause-kept : goal.returns-in_default-clause-kept
returns-in_default-clause-kept g c =
    let here = c.args.self.now.script_name.now in
    let outside = outside_by g.H.Host.clips g.H.Host.scripts in
    record {
      given = search rules;
      listed = search rules;
      later = search rules;
      more = search rules;
      faults = unread (λ v. v) (filtered here outside c.args.applied c.args.signature (bound_view c.args.given.now) c.args.line (state_of c.args.state.now))
          (in_text here c.apply_filter.result) (state_of c.apply_filter.new.state) (g.H.Host.faults c.args.host.now) (c.apply_filter.ensures.gives here outside refl);
      fetched = search rules;
      steps = search rules;
    }
