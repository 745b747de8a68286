use Rattle.std.proofs.Common.{◌≡◌, ap, sym, ◌∙◌, arith}
use Rattle.turn_lock.proofs.SeatLemmas.{joins}
use Rattle.turn_lock.proofs.turn_lock.TurnLock.join.Goals as goal

pub join_seat-requires : goal.join_seat-requires
join_seat-requires g c =
    let here : c.seat.inside.place.table_id ≡ c.self.inside.board.shared.table_id = ap (λ s. s.lock) c.seat.view_is ∙ (c.requires.seat ∙ sym c.self.view_is) in
    let there : c.ended.inside.place.table_id ≡ c.self.inside.board.shared.table_id = ap (λ s. s.lock) c.ended.view_is ∙ (c.requires.ended ∙ sym c.self.view_is) in
    let words = c.self.invariant.words in
    let seat = c.seat.invariant in
    let ended = c.ended.invariant in
    (here, there, ended.empty, omega arith, joins g.V.Booked.entries g.V.Booked.by g.V.Booked.stands_for _ _ _ _ seat.numbered.live seat.stage ended.numbered.live ended.stage)
