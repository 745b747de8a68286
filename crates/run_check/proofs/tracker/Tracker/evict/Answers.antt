use Rattle.std.proofs.Common.{◌≡◌, ◌-◌, List, take, length, refl, sym, ap, ◌∙◌}
use Rattle.lru.specs.LruCache.{LruCache}
use Rattle.fv_plane.specs.declared.key.Key.{Key}
use Rattle.frame_cache.proofs.CallerLemmas.{none_take}
use Rattle.run_check.proofs.MirrorLemmas.{full_of}
use Rattle.run_check.proofs.tracker.Tracker.evict.Goals as goal

pub returns-then-not-may_evict : goal.returns-then-not-may_evict
returns-then-not-may_evict c = λ m s h. record { right = c.if-not-may_evict.ensures m s h; made = λ e. absurd (cc) }

pub returns : goal.returns
returns c = λ m s h.
    let yes = c.if-not-may_evict.ensures m s h in
    let full : length s.cache ≡ m.fixed.capacity = full_of _ (length s.cache) m.fixed.capacity _ (sym yes) in
    record {
      right = yes;
      made = λ e. record {
        workers = h.workers;
        first = h.first;
        count = h.count;
        capacity = ap (λ (l : LruCache Key (Unit {0})). l.cap) c.pop_lru.ensures.entries ∙ h.capacity;
        cache = ap (λ (l : LruCache Key (Unit {0})). l.entries) c.pop_lru.ensures.entries ∙ ap (λ (l : List (Key × Unit {0})). take (length l - 1) l) h.cache ∙ ap (λ n. take (n - 1) s.cache) full;
        claims = h.claims;
        leases = h.leases;
        apart = λ j there. none_take j (m.fixed.capacity - 1) s.cache (h.apart j there);
        claimed = h.claimed;
        instances = h.instances;
        got = h.got;
        taken = h.taken;
        delivered = h.delivered;
        failed = h.failed;
        entered = h.entered;
        awaits = refl;
        stopped = h.stopped;
      };
    }
