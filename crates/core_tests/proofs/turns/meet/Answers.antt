use Rattle.core_tests.specs.declared.turns.Note.{Note}
use Rattle.turn_lock.proofs.CallerLemmas.{adds_none}
use Rattle.core_tests.proofs.turns.meet.Goals as goal

pub leave-seat-requires-clause-added : goal.leave-seat-requires-clause-added
leave-seat-requires-clause-added g c = rw c.enter-value.ensures.turn (adds_none (λ (e : Note). e.by) c.args.seat.number _)
