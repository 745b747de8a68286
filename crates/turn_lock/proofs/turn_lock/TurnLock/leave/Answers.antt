use Rattle.std.proofs.Common.{◌≡◌, [], ap, sym, subst, ◌∙◌, arith, refl, IfSome}
use Rattle.turn_lock.specs.Entries.{AddsOnly}
use Rattle.turn_lock.specs.SeatView.{seat_view}
use Rattle.turn_lock.specs.Places.{IsResting}
use Rattle.turn_lock.proofs.EntryLemmas.{own_grows}
use Rattle.turn_lock.proofs.TurnLemmas.{leaves_from, rested_after}
use Rattle.turn_lock.specs.Steps.{rested}
use Rattle.turn_lock.proofs.turn_lock.TurnLock.leave.Given.{Over}
use Rattle.turn_lock.proofs.turn_lock.TurnLock.leave.Goals as goal

pub fetch_add-requires : goal.fetch_add-requires
fetch_add-requires g c =
    let turn = c.turn.invariant in
    let here : c.turn.inside.place.table_id ≡ c.self.inside.board.shared.table_id = ap (λ s. s.lock) c.turn.view_is ∙ (c.requires.lock ∙ sym c.self.view_is) in
    let still : c.exchange-taken.new.seat.table_id ≡ c.turn.inside.place.table_id = c.exchange-taken.ensures.0 in
    let words = c.self.invariant.words in
    let stands = subst (λ t. IfSome t.tag (g.V.Booked.stands_for c.args.value)) (sym c.turn.view_is) c.requires.stands in
    let adds = subst (λ t. AddsOnly g.V.Booked.by t.number t.seen (g.V.Booked.entries c.args.value)) (sym c.turn.view_is) c.requires.added in (
      still ∙ here,
      omega arith,
      leaves_from g.V.Booked.entries g.V.Booked.by g.V.Booked.stands_for c.self.inside.board.shared.table_id.slots c.exchange-taken.new.seat.id c.turn.inside.place.me c.exchange-taken.new.seat.me c.args.value c.exchange-taken.ensures.3 turn.numbered.live turn.stage turn.out stands adds,
    )

-- the seat's place once the turn has ended
after : (g : Over) (c : goal.After-wake g) → c.fetch_add.new.seat.me ≡ (rested g.V.Booked.by c.turn.inside.place.me.0 (g.V.Booked.entries c.args.value), [])
after g c = rested_after g.V.Booked.entries g.V.Booked.by g.V.Booked.stands_for c.turn.inside.place.me c.exchange-taken.new.seat.me c.fetch_add.new.seat.me c.args.value c.exchange-taken.ensures.3 c.turn.invariant.out c.fetch_add.ensures.2

pub invariant_of-result : goal.invariant_of-result
invariant_of-result g c =
    let numbers = c.turn.invariant.numbered in
    subst (IsResting c.turn.inside.number c.turn.inside.next) (sym (after g c)) record {
      numbered = record { number_is = numbers.number_is; next_is = numbers.next_is; limited = numbers.limited; live = numbers.live };
      stage = refl;
      empty = refl;
    }

pub returns-clause-seat : goal.returns-clause-seat
returns-clause-seat g c =
    let table = c.fetch_add.ensures.0 ∙ c.exchange-taken.ensures.0 in
    rw (← c.turn.view_is) (λ i. seat_view (table i) (after g c i).0)

pub returns-clause-own : goal.returns-clause-own
returns-clause-own g c =
    let adds = subst (λ t. AddsOnly g.V.Booked.by t.number t.seen (g.V.Booked.entries c.args.value)) (sym c.turn.view_is) c.requires.added in
    let v = c.turn.inside.place.me.0 in
    rw (← c.turn.view_is) (λ added is. ap (λ m. m.0.own) (after g c) ∙ own_grows g.V.Booked.by v.number v.seen (g.V.Booked.entries c.args.value) added v.own adds c.turn.invariant.own_seen is)
