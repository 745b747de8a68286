use Rattle.std.proofs.Common.{not, ◌&&◌, sym}
use Rattle.frame_cache.specs.Cached.{at_key, has_key}
use Rattle.frame_cache.proofs.CallerLemmas.{left_true, right_true}
use Rattle.serve_machine.specs.Machine.{is_key, is_running}
use Rattle.serve_machine.proofs.TruthLemmas.{none_there}
use Rattle.run_check.proofs.MirrorLemmas.{apart_claimed, claimed_push}
use Rattle.run_check.proofs.tracker.Tracker.claim.Goals as goal

pub returns-then-not-may_claim : goal.returns-then-not-may_claim
returns-then-not-may_claim c = λ m s is h. record { right = c.if-not-may_claim.ensures m s c.args.worker is h; made = λ e. absurd (cc) }

pub returns-in-Ok : goal.returns-in-Ok
returns-in-Ok c = λ m s is h.
    let yes = c.if-not-may_claim.ensures m s c.args.worker is h in
    let k = c.args.key in
    let a = left_true (is_key m.fixed.plan k && not (has_key k s.cache) && not (has_key k s.claims)) (is_running s) (sym yes) in
    let b = left_true (is_key m.fixed.plan k && not (has_key k s.cache)) (not (has_key k s.claims)) a in
    let unclaimed = none_there (at_key k s.claims) (right_true (is_key m.fixed.plan k && not (has_key k s.cache)) (not (has_key k s.claims)) a) in
    let uncached = none_there (at_key k s.cache) (right_true (is_key m.fixed.plan k) (not (has_key k s.cache)) b) in
    let key = left_true (is_key m.fixed.plan k) (not (has_key k s.cache)) b in
    record {
      right = yes;
      made = λ e. record {
        workers = h.workers;
        first = h.first;
        count = h.count;
        capacity = h.capacity;
        cache = h.cache;
        claims = c.in-Ok.ensures s.claims h.claims unclaimed;
        leases = h.leases;
        apart = apart_claimed k c.args.worker s.claims s.cache uncached h.apart;
        claimed = claimed_push m.fixed.plan k c.args.worker s.claims key h.claimed;
        instances = h.instances;
        got = h.got;
        taken = h.taken;
        delivered = h.delivered;
        failed = h.failed;
        entered = h.entered;
        awaits = h.awaits;
        stopped = h.stopped;
      };
    }
