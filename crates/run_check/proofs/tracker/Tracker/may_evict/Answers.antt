use Rattle.std.proofs.Common.{◌&&◌}
use Rattle.std.specs.Prelude.{◌==◌}
use Rattle.std.specs.List.{list_any}
use Rattle.serve_machine.specs.Machine.{holds_nothing}
use Rattle.run_check.proofs.MirrorLemmas.{last_test}
use Rattle.run_check.proofs.tracker.Tracker.may_evict.Goals as goal

pub returns : goal.returns
returns c = λ m s h. rw (c.has_any.ensures m s h, c.holds_nothing.ensures m s h, c.is_full.ensures m s h, c.is_last.ensures m s h)
    (last_test (list_any (λ x. x.1 == c.args.worker) s.claims && holds_nothing c.args.worker s.places) c.args.key m.fixed.capacity s.cache)
