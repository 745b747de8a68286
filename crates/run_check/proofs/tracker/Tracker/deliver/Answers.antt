use Rattle.std.proofs.Common.{◌-◌, ℕ, Bool, true, not, ◌&&◌, List, sym, ap, ◌∙◌}
use Rattle.std.specs.Prelude.{nat_lt, is_some, slice_get, slice_set}
use Rattle.frame_cache.proofs.CallerLemmas.{right_true}
use Rattle.serve_machine.specs.Events.{frame_key}
use Rattle.serve_machine.specs.Machine.{is_by, is_some_and, is_open, got_at}
use Rattle.run_check.proofs.MirrorLemmas.{delivered_set}
use Rattle.run_check.proofs.tracker.Tracker.deliver.Goals as goal

pub returns-then-not-may_deliver : goal.returns-then-not-may_deliver
returns-then-not-may_deliver c = λ m s is h. record { right = c.if-not-may_deliver.ensures m s is h; made = λ e. absurd (cc) }

pub returns : goal.returns
returns c = λ m s is h.
    let yes = c.if-not-may_deliver.ensures m s is h in
    let got = right_true (not (nat_lt c.args.n m.fixed.first) && is_by c.args.worker (slice_get s.taken (c.args.n - m.fixed.first)) && is_some_and is_open (slice_get s.frames (c.args.n - m.fixed.first)))
    (is_some (got_at c.args.worker (frame_key m.fixed.root c.args.n) s.got)) (sym yes) in
    record {
      right = yes;
      made = λ e. record {
        workers = h.workers;
        first = h.first;
        count = h.count;
        capacity = h.capacity;
        cache = h.cache;
        claims = h.claims;
        leases = h.leases;
        apart = h.apart;
        claimed = h.claimed;
        instances = h.instances;
        got = h.got;
        taken = h.taken;
        delivered = c.set_true.ensures ∙ ap (λ (i : ℕ). slice_set c.args.self.now.delivered.items i true) (c.saturating_sub-at.ensures ∙ ap (λ (f : ℕ). c.args.n - f) h.first)
            ∙ ap (λ (l : List Bool). slice_set l (c.args.n - m.fixed.first) true) h.delivered
            ∙ delivered_set s.frames (c.args.n - m.fixed.first) (got_at c.args.worker (frame_key m.fixed.root c.args.n) s.got) got;
        failed = h.failed;
        entered = h.entered;
        awaits = h.awaits;
        stopped = h.stopped;
      };
    }
