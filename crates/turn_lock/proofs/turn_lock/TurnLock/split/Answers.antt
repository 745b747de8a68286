use Rattle.std.proofs.Common.{◌≡◌, ◌<◌, ap, sym, subst, ◌∙◌, arith}
use Rattle.turn_lock.proofs.SeatLemmas.{splits}
use Rattle.turn_lock.proofs.turn_lock.TurnLock.split.Goals as goal

pub split_seat-other-requires : goal.split_seat-other-requires
split_seat-other-requires g c =
    let here : c.seat.inside.place.table_id ≡ c.self.inside.board.shared.table_id = ap (λ s. s.lock) c.seat.view_is ∙ (c.requires.lock ∙ sym c.self.view_is) in
    let words = c.self.invariant.words in
    let more = subst (λ s. s.next < s.limit) (sym c.seat.view_is) c.requires.more in
    (here, omega arith, splits g.V.Booked.entries g.V.Booked.by g.V.Booked.stands_for _ _ c.seat.invariant.numbered.live c.seat.invariant.stage more)
