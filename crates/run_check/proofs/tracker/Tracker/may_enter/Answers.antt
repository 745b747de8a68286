use Rattle.std.proofs.Common.{◌&&◌, not}
use Rattle.std.specs.Prelude.{◌==◌}
use Rattle.std.specs.Map.{lookup}
use Rattle.inst_table.specs.Places.{same_place}
use Rattle.serve_machine.specs.Events.{mode_at, instance_of}
use Rattle.serve_machine.specs.Machine.{claims_at, holds_nothing, is_running, place_named}
use Rattle.run_check.proofs.EnterLemmas.{enter_test, meant_there}
use Rattle.run_check.proofs.tracker.Tracker.may_enter.Goals as goal

pub returns : goal.returns
returns c = λ m s is less h.
    let w = c.args.worker in
    let i = c.args.node in
    let j = c.args.instance in
    rw (c.claims_at.ensures m s h, c.holds_nothing.ensures m s h, c.has_instances.ensures, c.is_own.ensures, c.is_in.ensures m s h, c.place_named.ensures, is, c.is_running.ensures m s h)
    (enter_test (claims_at w i s.claims && holds_nothing w s.places && not (mode_at m.fixed.plan i == 1) && j == instance_of m.fixed.plan w i) (lookup (same_place (place_named m.fixed.plan i j)) s.places) (is_running s)
    (meant_there m s c.args.self.now h w i j less))
