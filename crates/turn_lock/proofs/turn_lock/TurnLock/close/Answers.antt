use Rattle.std.proofs.Common.{sym, subst, ◌∙◌, refl}
use mathlib.Core.Option.{some-injective}
use Rattle.turn_lock.specs.SeatView.{HasAllNumbers}
use Rattle.turn_lock.proofs.SeatLemmas.{closes, whole_at_end}
use Rattle.turn_lock.proofs.turn_lock.TurnLock.close.Goals as goal

pub unwrap-value-requires : goal.unwrap-value-requires
unwrap-value-requires g c =
    let end = closes g.V.Booked.entries g.V.Booked.by g.V.Booked.stands_for c.seat.inside.place.table_id _ _ _ _ c.seat.invariant.numbered.live c.seat.invariant.stage (subst HasAllNumbers (sym c.seat.view_is) c.requires.all) c.close_with-closed.ensures.values.2 in
    rw (some-injective _ _ (sym c.take.ensures.value ∙ end.1)) refl

pub returns : goal.returns
returns g c =
    let whole = whole_at_end g.V.Booked.entries g.V.Booked.by g.V.Booked.stands_for c.seat.inside.place.table_id _ _ _ _ c.seat.invariant.numbered.live c.seat.invariant.stage (subst HasAllNumbers (sym c.seat.view_is) c.requires.all) c.close_with-closed.ensures.values.2
    c.take.result c.unwrap-value.result c.take.ensures.value c.unwrap-value.ensures in
    rw (← c.seat.view_is) record { seen = whole.seen; own = whole.own; ended = whole.ended; ended_seen = whole.ended_seen; others = whole.others; stands = whole.stands }
