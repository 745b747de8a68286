use Rattle.std.proofs.Common.{true, Bool, List, refl, ap, ◌∙◌}
use Rattle.std.specs.Prelude.{slice_set}
use Rattle.run_check.proofs.tracker.Tracker.fail.Goals as goal

pub returns-then-not-may_fail : goal.returns-then-not-may_fail
returns-then-not-may_fail c = λ m s untold is h. record { right = c.if-not-may_fail.ensures m s untold is h; made = λ e. absurd (cc) }

pub returns : goal.returns
returns c = λ m s untold is h.
    record {
      right = c.if-not-may_fail.ensures m s untold is h;
      made = λ e. record {
        workers = h.workers;
        first = h.first;
        count = h.count;
        capacity = h.capacity;
        cache = h.cache;
        claims = h.claims;
        leases = h.leases;
        apart = h.apart;
        claimed = h.claimed;
        instances = h.instances;
        got = h.got;
        taken = h.taken;
        delivered = h.delivered;
        failed = c.set_true.ensures ∙ ap (λ (l : List Bool). slice_set l c.args.worker true) h.failed;
        entered = h.entered;
        awaits = h.awaits;
        stopped = refl;
      };
    }
