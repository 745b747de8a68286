use Rattle.std.proofs.Common.{◌≡◌, Ok, sym, rules}
use Rattle.avs_meaning.specs.Filters.{open_by}
use Rattle.avs_state.specs.States.{state_of}
use Rattle.avs_state.specs.Stops.{in_text}
use Rattle.avs_state.proofs.Failures.{given, unread}
use Rattle.avs_state.proofs.Kept.{one_fetched}
use Rattle.avs_eval.proofs.walker.Walker.open.Goals as goal

pub returns-in-Ok-clause-told : goal.returns-in-Ok-clause-told
returns-in-Ok-clause-told g c = λ told.
    let here = c.args.self.now.script_name.now in
    let copied : c.in_ok-file.file ≡ c.args.name.now = search rules in
    rw (c.in-Ok.ensures.told told, sym copied)
    (given (λ v. v) (open_by here (Ok c.in-Ok.info) c.in_ok-file.file c.args.line (state_of c.args.state.now))
    (in_text here c.add_source.result) (state_of c.add_source.new.self) (c.add_source.ensures.gives here))

pub returns-in-Ok-clause-kept : goal.returns-in-Ok-clause-kept
returns-in-Ok-clause-kept g c = let here = c.args.self.now.script_name.now in record {
  given = search rules;
  listed = search rules;
  later = search rules;
  more = search rules;
  faults = rw c.in-Ok.ensures.steady (unread (λ v. v) (open_by here (Ok c.in-Ok.info) c.in_ok-file.file c.args.line (state_of c.args.state.now))
      (in_text here c.add_source.result) (state_of c.add_source.new.self) (g.H.Host.faults c.args.host.now) (c.add_source.ensures.gives here));
  fetched = one_fetched g.H.Host c.args.state.now c.add_source.new.self c.args.host.now c.clip.new.self (record { name = c.in_ok-file.file; info = c.in-Ok.info }) here c.add_source.result
      c.in-Ok.ensures.fetched c.add_source.ensures.opened c.add_source.ensures.imports;
  steps = search rules;
}
