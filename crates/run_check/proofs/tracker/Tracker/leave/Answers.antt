use Rattle.std.proofs.Common.{List, None, sym, ap, ◌∙◌}
use Rattle.std.specs.Map.{lookup}
use Rattle.clip_graph.specs.Plan.{Application}
use Rattle.inst_table.specs.Places.{same_place}
use Rattle.serve_machine.specs.Events.{instance_of}
use Rattle.serve_machine.specs.Law.{worker_at}
use Rattle.serve_machine.specs.Machine.{place_named, is_by}
use Rattle.serve_machine.proofs.TruthLemmas.{held_some}
use Rattle.run_check.proofs.EnterLemmas.{present_set}
use Rattle.run_check.proofs.MirrorLemmas.{lease_test}
use Rattle.run_check.proofs.tracker.Tracker.leave.Goals as goal

pub returns-then-not-has_lease : goal.returns-then-not-has_lease
returns-then-not-has_lease c = λ m s is h.
    let place = c.place_named-place.ensures ∙ ap (λ (plan : List Application). place_named plan c.args.node c.args.instance) is in
    record {
      right = c.if-not-has_lease.ensures m s h ∙ ap (λ p. is_by c.args.worker (worker_at (lookup (same_place p) s.places))) place ∙ lease_test c.args.worker (lookup (same_place (place_named m.fixed.plan c.args.node c.args.instance)) s.places);
      made = λ e. absurd (cc);
    }

pub returns-in-Ok : goal.returns-in-Ok
returns-in-Ok c = λ m s is h.
    let p = place_named m.fixed.plan c.args.node c.args.instance in
    let place = c.place_named-place.ensures ∙ ap (λ (plan : List Application). place_named plan c.args.node c.args.instance) is in
    let yes = c.if-not-has_lease.ensures m s h ∙ ap (λ q. is_by c.args.worker (worker_at (lookup (same_place q) s.places))) place ∙ lease_test c.args.worker (lookup (same_place p) s.places) in
    record {
      right = yes;
      made = λ e. record {
        workers = h.workers;
        first = h.first;
        count = h.count;
        capacity = h.capacity;
        cache = h.cache;
        claims = h.claims;
        leases = (rw place at c.in-Ok.ensures) s.places h.leases (held_some c.args.worker (lookup (same_place p) s.places) (sym yes));
        apart = h.apart;
        claimed = h.claimed;
        instances = λ i w inside less other. present_set (same_place (place_named m.fixed.plan i (instance_of m.fixed.plan w i))) (same_place p) s.places None ∙ h.instances i w inside less other;
        got = h.got;
        taken = h.taken;
        delivered = h.delivered;
        failed = h.failed;
        entered = h.entered;
        awaits = h.awaits;
        stopped = h.stopped;
      };
    }
