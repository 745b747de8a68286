use Rattle.std.proofs.Common.{sym}
use Rattle.frame_cache.specs.Cached.{at_key}
use Rattle.frame_cache.proofs.CallerLemmas.{some_without}
use Rattle.serve_machine.proofs.TruthLemmas.{by_there}
use Rattle.run_check.proofs.tracker.Tracker.abandon.Goals as goal

pub returns-then-not-claims : goal.returns-then-not-claims
returns-then-not-claims c = λ m s h. record { right = c.if-not-claims.ensures m s h; made = λ e. absurd (cc) }

pub returns-in-Ok : goal.returns-in-Ok
returns-in-Ok c = λ m s h.
    let yes = c.if-not-claims.ensures m s h in
    record {
      right = yes;
      made = λ e. record {
        workers = h.workers;
        first = h.first;
        count = h.count;
        capacity = h.capacity;
        cache = h.cache;
        claims = c.in-Ok.ensures s.claims h.claims (by_there c.args.worker (at_key c.args.key s.claims) (sym yes));
        leases = h.leases;
        apart = λ j there. h.apart j (some_without j c.args.key s.claims there);
        claimed = λ j there. h.claimed j (some_without j c.args.key s.claims there);
        instances = h.instances;
        got = h.got;
        taken = h.taken;
        delivered = h.delivered;
        failed = h.failed;
        entered = h.entered;
        awaits = h.awaits;
        stopped = h.stopped;
      };
    }
