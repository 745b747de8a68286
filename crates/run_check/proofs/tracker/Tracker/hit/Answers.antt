use Rattle.std.proofs.Common.{refl, sym}
use Rattle.run_check.proofs.MirrorLemmas.{hit_made}
use Rattle.run_check.proofs.tracker.Tracker.hit.Goals as goal

pub returns-then-not-may_hit : goal.returns-then-not-may_hit
returns-then-not-may_hit c = λ m s h. record { right = c.if-not-may_hit.ensures m s h; made = λ e. absurd (cc) }

pub returns-in-Ok : goal.returns-in-Ok
returns-in-Ok c = λ m s h.
    let yes = c.if-not-may_hit.ensures m s h in
    record {
      right = yes;
      made = λ e. hit_made m s c.args.self.now _ c.args.worker c.args.key h (sym yes) refl refl refl c.promote.ensures.entries refl refl c.in-Ok.ensures.updates.0 refl refl refl refl refl refl;
    }
