use Rattle.std.proofs.Common.{arith}
use Rattle.turn_lock.proofs.SeatLemmas.{starts}
use Rattle.turn_lock.proofs.turn_lock.TurnLock.new.Goals as goal

pub new-requires : goal.new-requires
new-requires g c = rw (c.in_default.ensures.items, c.new-slots.ensures.items, c.of.ensures)
    (starts g.V.Booked.entries g.V.Booked.by g.V.Booked.stands_for c.args.value _ c.args.seats c.requires.bare c.requires.stands (omega arith) c.requires.seats)
