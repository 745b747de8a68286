use Rattle.std.proofs.Common.{◌&&◌, true, cond, List, Some, sym, ap, ◌∙◌, not}
use Rattle.std.specs.Prelude.{◌==◌}
use Rattle.std.specs.Map.{lookup}
use Rattle.clip_graph.specs.Plan.{Application}
use Rattle.frame_cache.proofs.CallerLemmas.{left_true, right_true}
use Rattle.inst_table.specs.Places.{same_place}
use Rattle.serve_machine.specs.Events.{mode_at, instance_of}
use Rattle.serve_machine.specs.Machine.{claims_at, holds_nothing, is_entered, is_open, is_running, is_some_and, place_named}
use Rattle.serve_machine.proofs.TruthLemmas.{open_none}
use Rattle.run_check.proofs.EnterLemmas.{present_set, cond_or}
use Rattle.run_check.proofs.tracker.Tracker.enter.Goals as goal

pub returns-then-not-may_enter : goal.returns-then-not-may_enter
returns-then-not-may_enter c = λ m s is less h. record { right = c.if-not-may_enter.ensures m s is less h; made = λ e. absurd (cc) }

pub returns-in-Ok-insert : goal.returns-in-Ok-insert
returns-in-Ok-insert c = λ m s is less h.
    let w = c.args.worker in
    let i = c.args.node in
    let j = c.args.instance in
    let p = place_named m.fixed.plan i j in
    let yes = c.if-not-may_enter.ensures m s is less h in
    let all = claims_at w i s.claims && holds_nothing w s.places && not (mode_at m.fixed.plan i == 1) && j == instance_of m.fixed.plan w i in
    let free = right_true all (is_some_and is_open (lookup (same_place p) s.places)) (left_true (all && is_some_and is_open (lookup (same_place p) s.places)) (is_running s) (sym yes)) in
    let place = c.place_named.ensures ∙ ap (λ (plan : List Application). place_named plan i j) is in
    record {
      right = yes;
      made = λ e. record {
        workers = h.workers;
        first = h.first;
        count = h.count;
        capacity = h.capacity;
        cache = h.cache;
        claims = h.claims;
        leases = (rw place at c.in-Ok.ensures) s.places h.leases (open_none (lookup (same_place p) s.places) free);
        apart = h.apart;
        claimed = h.claimed;
        instances = λ a v inside few other. present_set (same_place (place_named m.fixed.plan a (instance_of m.fixed.plan v a))) (same_place p) s.places (Some w) ∙ h.instances a v inside few other;
        got = h.got;
        taken = h.taken;
        delivered = h.delivered;
        failed = h.failed;
        entered = λ v a. c.in-Ok-insert.ensures.updates.0 (record { worker = v; node = a }) ∙ ap (cond (w == v && i == a) true) (h.entered v a) ∙ cond_or (w == v && i == a) (is_entered v a s.entered);
        awaits = h.awaits;
        stopped = h.stopped;
      };
    }
