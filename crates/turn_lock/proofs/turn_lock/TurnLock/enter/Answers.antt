use Rattle.std.proofs.Common.{◌≡◌, ap, sym, ◌∙◌, arith}
use Rattle.turn_lock.proofs.TurnLemmas.{draws}
use Rattle.turn_lock.proofs.turn_lock.TurnLock.enter.Goals as goal

pub fetch_add-ticket-requires : goal.fetch_add-ticket-requires
fetch_add-ticket-requires g c =
    let here : c.seat.inside.place.table_id ≡ c.self.inside.board.shared.table_id = ap (λ s. s.lock) c.seat.view_is ∙ (c.requires.lock ∙ sym c.self.view_is) in
    let words = c.self.invariant.words in (
      here,
      omega arith,
      draws g.V.Booked.entries g.V.Booked.by g.V.Booked.stands_for _ _ _ c.seat.invariant.numbered.live c.seat.invariant.stage,
    )
