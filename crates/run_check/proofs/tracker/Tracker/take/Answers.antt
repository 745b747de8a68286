use Rattle.std.proofs.Common.{◌++◌, ◌∷◌, [], ℕ, List, ap, ◌∙◌}
use Rattle.run_check.proofs.tracker.Tracker.take.Goals as goal

pub returns-then-not-may_take : goal.returns-then-not-may_take
returns-then-not-may_take c = λ m s h. record { right = c.if-not-may_take.ensures m s c.args.worker h; made = λ e. absurd (cc) }

pub returns-in-Ok : goal.returns-in-Ok
returns-in-Ok c = λ m s h.
    record {
      right = c.if-not-may_take.ensures m s c.args.worker h;
      made = λ e. record {
        workers = h.workers;
        first = h.first;
        count = h.count;
        capacity = h.capacity;
        cache = h.cache;
        claims = h.claims;
        leases = h.leases;
        apart = h.apart;
        claimed = h.claimed;
        instances = h.instances;
        got = h.got;
        taken = c.in-Ok.ensures.items ∙ ap (λ (l : List ℕ). l ++ c.args.worker ∷ []) h.taken;
        delivered = h.delivered;
        failed = h.failed;
        entered = h.entered;
        awaits = h.awaits;
        stopped = h.stopped;
      };
    }
