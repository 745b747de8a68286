use Rattle.std.proofs.Common.{◌≡◌, true, refl, sym, subst}
use Rattle.serve_machine.specs.declared.event.Event.TheVariants.{Publish}
use Rattle.serve_machine.specs.Machine.{meets}
use Rattle.run_check.proofs.MirrorLemmas.{publish_made, publisher}
use Rattle.run_check.proofs.tracker.Tracker.publish.Goals as goal

pub returns-in-Ok-false : goal.returns-in-Ok-false
returns-in-Ok-false c = λ m s is h.
    record { right = subst (λ b. b ≡ meets m s (Publish c.args.worker c.args.key)) c.in-Ok-false.field-0-test (c.in-Ok-false.ensures m s is h); made = λ e. absurd (cc) }

pub returns-in-Ok-insert : goal.returns-in-Ok-insert
returns-in-Ok-insert c = λ m s is h.
    let yes : true ≡ meets m s (Publish c.args.worker c.args.key) = subst (λ b. b ≡ meets m s (Publish c.args.worker c.args.key)) c.in-Ok-true.field-0-test (c.in-Ok-true.ensures m s is h) in
    record {
      right = yes;
      made = λ e. publish_made m s c.args.self.now _ c.args.worker c.args.key h (sym yes) refl refl refl c.in-Ok-push.ensures.entries
          (c.in-Ok.ensures s.claims h.claims (publisher m s c.args.worker c.args.key (sym yes))) refl c.in-Ok-insert.ensures.updates.0 refl refl refl refl refl refl;
    }
