use Rattle.std.proofs.Common.{rules, ◌∷◌, Some, ap, sym, ◌∙◌}
use Rattle.atomic_table.specs.Table.{rest}
use Rattle.turn_lock.proofs.TurnLemmas.{looks}
use Rattle.turn_lock.proofs.turn_lock.wait.Goals as goal

pub load-served-requires : goal.load-served-requires
load-served-requires g c = let w = c.requires.waits in (search rules, search rules, looks g.V.Booked.entries g.V.Booked.by g.V.Booked.stands_for _ _ w.0 _ (rw c.loop.invariant.same c.requires.live) (ap (λ m. m.0.stage) c.loop.invariant.same ∙ w.1))

pub exchange-requires : goal.exchange-requires
exchange-requires g c =
    let w = c.requires.waits in
    let took = (c.load-served.ensures.2 w.0 (ap (λ m. m.0.stage) c.loop.invariant.same ∙ w.1)).0 (w.3 ∙ sym c.if-served-ticket.true) in
    let e = ap (λ m. m.1) took.1 in
    (search rules, (Some took.0, e ∙ ap (λ cs. (0, Some took.0) ∷ rest cs) (sym e)))
