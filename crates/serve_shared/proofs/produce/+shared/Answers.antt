-- Each way out is a lemma over the seats.
use Rattle.std.proofs.Common.{rules, ◌≡◌, ◌+◌, ◌*◌, ◌<◌, IfOk, IfErr, Some, Ok, [], take, slice_get, sym, ap, ◌∙◌, subst, arith}
use Rattle.std.proofs.lemmas.Option.{slice_get_within}
use Rattle.clip_graph.specs.Plan.{input_keys}
use Rattle.serve_machine.specs.Work.{CutShort, CutInputs}
use Rattle.serve_core.proofs.Making.{front_more, taken_all}
use Rattle.serve_shared.specs.Shares.{StopsWithin, Produced, Gathered}
use Rattle.serve_shared.proofs.SeatLemmas.{same_lock}
use Rattle.serve_shared.proofs.ProduceLemmas.{not_past, gathered_none, hit_produced, not_asked, claimed_work, claimed_from, inputs_stop, next_has, next_got, next_right, made_produced, made_stops, all_same, all_work, inputs_work, below, input_key, input_past, input_stops, one_more, more_work, more_ends}
use Rattle.serve_shared.proofs.produce.+shared.Goals as goal

pub gather-loop-input-init : goal.gather-loop-input-init
gather-loop-input-init g t c =
    record { inside = omega arith; gathered = subst (λ l. Gathered g.I.Held c.args.worker.now c.args.seat [] l c.args.seat) (sym c.new-frames.ensures.items) (gathered_none g.I.Held c.args.worker.now c.args.seat) }

pub gather-produce-later-requires : goal.gather-produce-later-requires
gather-produce-later-requires g t c κs within =
    let me = c.args.worker.now in
    let ks = input_keys me.plan c.args.key in
    let i = c.loop-input.i in
    let gathered = c.loop-input.invariant.gathered in
    let at : slice_get ks i ≡ Some c.in-Some.input = ap (λ plan. slice_get (input_keys plan c.args.key) i) (sym {b = me.plan} c.graph.ensures) ∙ sym c.in-Some.ensures in
    let less = (below g.I.Held me c.args.seat c.args.key c.requires.work c.requires.key c.requires.from c.loop-input.seat i c.loop-input.frames.items gathered c.in-Some.input at).node in (
      subst (λ m. 2 * c.in-Some.input.node + 1 < m) c.decreases (omega (arith, less)),
      (
        within.0,
        (
          within.1.0,
          (
            within.1.1,
            (
              search rules,
              (
                same_lock c.args.seat c.loop-input.seat gathered.adds.seat_is ∙ c.requires.lock,
                (inputs_work g.I.Held me c.args.seat c.args.key c.requires.work c.requires.key c.requires.from c.loop-input.seat i c.loop-input.frames.items gathered, (input_key g.I.Held me c.args.seat c.args.key c.requires.work c.requires.key c.requires.from c.loop-input.seat i c.loop-input.frames.items gathered c.in-Some.input at, input_past g.I.Held me c.args.seat c.args.key c.requires.work c.requires.key c.requires.from c.loop-input.seat i c.loop-input.frames.items gathered c.in-Some.input at)),
              ),
            ),
          ),
        ),
      ),
    )

pub gather-returns-in-Err-clause-err : goal.gather-returns-in-Err-clause-err
gather-returns-in-Err-clause-err g t c =
    let me = c.args.worker.now in
    let ks = input_keys me.plan c.args.key in
    let i = c.loop-input.i in
    let gathered = c.loop-input.invariant.gathered in
    let at : slice_get ks i ≡ Some c.in-Some.input = ap (λ plan. slice_get (input_keys plan c.args.key) i) (sym {b = me.plan} c.graph.ensures) ∙ sym c.in-Some.ensures in
    input_stops g.I.Held me c.args.seat c.args.key c.requires.work c.requires.key c.requires.from c.loop-input.seat i c.loop-input.frames.items gathered c.in-Some.input at c.produce-later.result.0 c.in-Err.stop (subst (λ r. IfErr r (λ why. StopsWithin me (CutShort me.plan me.number c.in-Some.input) why c.loop-input.seat c.produce-later.result.0)) c.in-Err.is c.produce-later.ensures.err)

pub gather-fail_turn-requires-clause-lock : goal.gather-fail_turn-requires-clause-lock
gather-fail_turn-requires-clause-lock g t c =
    let me = c.args.worker.now in
    let ks = input_keys me.plan c.args.key in
    let i = c.loop-input.i in
    let gathered = c.loop-input.invariant.gathered in
    let at : slice_get ks i ≡ Some c.in-Some.input = ap (λ plan. slice_get (input_keys plan c.args.key) i) (sym {b = me.plan} c.graph.ensures) ∙ sym c.in-Some.ensures in
    let produced = subst (λ r. IfOk r (λ x. Produced g.I.Held me c.loop-input.seat c.in-Some.input x c.produce-later.result.0)) c.in-Ok.is c.produce-later.ensures.ok in
    same_lock c.args.seat c.produce-later.result.0 (one_more g.I.Held me c.args.seat c.args.key c.requires.work c.requires.key c.requires.from c.loop-input.seat i c.loop-input.frames.items gathered c.in-Some.input at c.in-Ok.frame c.produce-later.result.0 produced).adds.seat_is ∙ c.requires.lock

pub gather-fail_turn-requires-clause-work : goal.gather-fail_turn-requires-clause-work
gather-fail_turn-requires-clause-work g t c =
    let me = c.args.worker.now in
    let ks = input_keys me.plan c.args.key in
    let i = c.loop-input.i in
    let gathered = c.loop-input.invariant.gathered in
    let at : slice_get ks i ≡ Some c.in-Some.input = ap (λ plan. slice_get (input_keys plan c.args.key) i) (sym {b = me.plan} c.graph.ensures) ∙ sym c.in-Some.ensures in
    let produced = subst (λ r. IfOk r (λ x. Produced g.I.Held me c.loop-input.seat c.in-Some.input x c.produce-later.result.0)) c.in-Ok.is c.produce-later.ensures.ok in
    more_work g.I.Held me c.args.seat c.args.key c.requires.work c.requires.key c.requires.from c.loop-input.seat i c.loop-input.frames.items gathered c.in-Some.input at c.in-Ok.frame c.produce-later.result.0 produced

pub gather-fail_turn-requires-in_default-checked_add-clause-lock : goal.gather-fail_turn-requires-in_default-checked_add-clause-lock
gather-fail_turn-requires-in_default-checked_add-clause-lock g t c =
    let me = c.args.worker.now in
    let ks = input_keys me.plan c.args.key in
    let i = c.loop-input.i in
    let gathered = c.loop-input.invariant.gathered in
    let at : slice_get ks i ≡ Some c.in-Some.input = ap (λ plan. slice_get (input_keys plan c.args.key) i) (sym {b = me.plan} c.graph.ensures) ∙ sym c.in-Some.ensures in
    let produced = subst (λ r. IfOk r (λ x. Produced g.I.Held me c.loop-input.seat c.in-Some.input x c.produce-later.result.0)) c.in-Ok.is c.produce-later.ensures.ok in
    same_lock c.args.seat c.produce-later.result.0 (one_more g.I.Held me c.args.seat c.args.key c.requires.work c.requires.key c.requires.from c.loop-input.seat i c.loop-input.frames.items gathered c.in-Some.input at c.in-Ok.frame c.produce-later.result.0 produced).adds.seat_is ∙ c.requires.lock

pub gather-fail_turn-requires-in_default-checked_add-clause-work : goal.gather-fail_turn-requires-in_default-checked_add-clause-work
gather-fail_turn-requires-in_default-checked_add-clause-work g t c =
    let me = c.args.worker.now in
    let ks = input_keys me.plan c.args.key in
    let i = c.loop-input.i in
    let gathered = c.loop-input.invariant.gathered in
    let at : slice_get ks i ≡ Some c.in-Some.input = ap (λ plan. slice_get (input_keys plan c.args.key) i) (sym {b = me.plan} c.graph.ensures) ∙ sym c.in-Some.ensures in
    let produced = subst (λ r. IfOk r (λ x. Produced g.I.Held me c.loop-input.seat c.in-Some.input x c.produce-later.result.0)) c.in-Ok.is c.produce-later.ensures.ok in
    more_work g.I.Held me c.args.seat c.args.key c.requires.work c.requires.key c.requires.from c.loop-input.seat i c.loop-input.frames.items gathered c.in-Some.input at c.in-Ok.frame c.produce-later.result.0 produced

pub gather-returns-in_default-push-clause-err : goal.gather-returns-in_default-push-clause-err
gather-returns-in_default-push-clause-err g t c =
    let me = c.args.worker.now in
    let ks = input_keys me.plan c.args.key in
    let i = c.loop-input.i in
    let gathered = c.loop-input.invariant.gathered in
    let at : slice_get ks i ≡ Some c.in-Some.input = ap (λ plan. slice_get (input_keys plan c.args.key) i) (sym {b = me.plan} c.graph.ensures) ∙ sym c.in-Some.ensures in
    let produced = subst (λ r. IfOk r (λ x. Produced g.I.Held me c.loop-input.seat c.in-Some.input x c.produce-later.result.0)) c.in-Ok.is c.produce-later.ensures.ok in
    more_ends g.I.Held me c.args.seat c.args.key c.requires.work c.requires.key c.requires.from c.loop-input.seat i c.loop-input.frames.items gathered c.in-Some.input at c.in-Ok.frame c.produce-later.result.0 produced c.fail_turn.result _ c.fail_turn.ensures

pub gather-returns-in_default-checked_add-clause-err : goal.gather-returns-in_default-checked_add-clause-err
gather-returns-in_default-checked_add-clause-err g t c =
    let me = c.args.worker.now in
    let ks = input_keys me.plan c.args.key in
    let i = c.loop-input.i in
    let gathered = c.loop-input.invariant.gathered in
    let at : slice_get ks i ≡ Some c.in-Some.input = ap (λ plan. slice_get (input_keys plan c.args.key) i) (sym {b = me.plan} c.graph.ensures) ∙ sym c.in-Some.ensures in
    let produced = subst (λ r. IfOk r (λ x. Produced g.I.Held me c.loop-input.seat c.in-Some.input x c.produce-later.result.0)) c.in-Ok.is c.produce-later.ensures.ok in
    more_ends g.I.Held me c.args.seat c.args.key c.requires.work c.requires.key c.requires.from c.loop-input.seat i c.loop-input.frames.items gathered c.in-Some.input at c.in-Ok.frame c.produce-later.result.0 produced c.fail_turn-in_default-checked_add.result _ c.fail_turn-in_default-checked_add.ensures

pub gather-loop-input-smaller : goal.gather-loop-input-smaller
gather-loop-input-smaller g t c =
    let me = c.args.worker.now in
    let ks = input_keys me.plan c.args.key in
    let i = c.loop-input.i in
    let gathered = c.loop-input.invariant.gathered in
    let at : slice_get ks i ≡ Some c.in-Some.input = ap (λ plan. slice_get (input_keys plan c.args.key) i) (sym {b = me.plan} c.graph.ensures) ∙ sym c.in-Some.ensures in
    let inside = slice_get_within ks i c.in-Some.input at in
    let next : c.in-Some-checked_add.next ≡ i + 1 = search rules in
    omega (arith, inside, next)

pub gather-loop-input-preserved : goal.gather-loop-input-preserved
gather-loop-input-preserved g t c =
    let me = c.args.worker.now in
    let ks = input_keys me.plan c.args.key in
    let i = c.loop-input.i in
    let gathered = c.loop-input.invariant.gathered in
    let at : slice_get ks i ≡ Some c.in-Some.input = ap (λ plan. slice_get (input_keys plan c.args.key) i) (sym {b = me.plan} c.graph.ensures) ∙ sym c.in-Some.ensures in
    let produced = subst (λ r. IfOk r (λ x. Produced g.I.Held me c.loop-input.seat c.in-Some.input x c.produce-later.result.0)) c.in-Ok.is c.produce-later.ensures.ok in
    let inside = slice_get_within ks i c.in-Some.input at in
    let next : c.in-Some-checked_add.next ≡ i + 1 = search rules in
    record { inside = omega (arith, next, inside); gathered = rw (c.in-Ok-push.ensures.items, ap (λ n. take n ks) next ∙ front_more ks i c.in-Some.input at) (one_more g.I.Held me c.args.seat c.args.key c.requires.work c.requires.key c.requires.from c.loop-input.seat i c.loop-input.frames.items gathered c.in-Some.input at c.in-Ok.frame c.produce-later.result.0 produced) }

pub gather-returns-clause-ok : goal.gather-returns-clause-ok
gather-returns-clause-ok g t c =
    let me = c.args.worker.now in
    let ks = input_keys me.plan c.args.key in
    let none = ap (λ plan. slice_get (input_keys plan c.args.key) c.loop-input.i) (sym c.graph.ensures) ∙ sym c.in_default.ensures in
    subst (λ l. Gathered g.I.Held me c.args.seat l c.loop-input.frames.items c.loop-input.seat) (taken_all ks c.loop-input.i none) c.loop-input.invariant.gathered

pub produce-claim-seat-requires-clause-open : goal.produce-claim-seat-requires-clause-open
produce-claim-seat-requires-clause-open g t c =
    not_past c.args.key _ c.requires.past

pub produce-returns-in-Ok-Some-clause-ok : goal.produce-returns-in-Ok-Some-clause-ok
produce-returns-in-Ok-Some-clause-ok g t c =
    hit_produced g.I.Held c.args.worker.now c.args.seat c.args.key c.in-Ok-Some.frame c.claim-seat.result.0 c.claim-seat.result.1 (c.in-Ok-Some.is ∙ ap Ok c.in-Ok-Some.field-0-is) c.claim-seat.ensures

pub produce-returns-in-Err-clause-err : goal.produce-returns-in-Err-clause-err
produce-returns-in-Err-clause-err g t c =
    not_asked g.I.Held c.args.worker.now c.args.seat c.args.key c.in-Err.stop c.claim-seat.result.0 c.claim-seat.result.1 c.in-Err.is c.claim-seat.ensures

pub produce-gather-seat-requires : goal.produce-gather-seat-requires
produce-gather-seat-requires g t c κs within = (
  subst (λ m. 2 * c.args.key.node < m) c.decreases (omega arith),
  (
    within.0,
    (
      within.1.0,
      (
        within.1.1,
        (search rules, (search rules, (claimed_work g.I.Held c.args.worker.now c.args.seat c.args.key c.claim-seat.result.0 c.claim-seat.result.1 (c.in-Ok-None.is ∙ ap Ok c.in-Ok-None.field-0-is) c.claim-seat.ensures c.requires.work, (c.requires.key, claimed_from g.I.Held c.args.worker.now c.args.seat c.args.key c.claim-seat.result.0 c.claim-seat.result.1 (c.in-Ok-None.is ∙ ap Ok c.in-Ok-None.field-0-is) c.claim-seat.ensures c.requires.past)))),
      ),
    ),
  ),
)

pub produce-finish-requires-clause-work : goal.produce-finish-requires-clause-work
produce-finish-requires-clause-work g t c κs within =
    let me = c.args.worker.now in
    let mid = c.claim-seat.result.0 in
    let next = c.gather-seat.result.0 in
    let ks = input_keys me.plan c.args.key in
    let whole = subst (λ r. IfOk r (λ l. Gathered g.I.Held me mid ks l.items next)) c.in-Ok.is c.gather-seat.ensures.ok in
    let gathered = subst (λ l. Gathered g.I.Held me mid ks l next) (sym c.deref.ensures.value) whole in
    let work = claimed_work g.I.Held c.args.worker.now c.args.seat c.args.key c.claim-seat.result.0 c.claim-seat.result.1 (c.in-Ok-None.is ∙ ap Ok c.in-Ok-None.field-0-is) c.claim-seat.ensures c.requires.work in
    let from = claimed_from g.I.Held c.args.worker.now c.args.seat c.args.key c.claim-seat.result.0 c.claim-seat.result.1 (c.in-Ok-None.is ∙ ap Ok c.in-Ok-None.field-0-is) c.claim-seat.ensures c.requires.past in
    all_work g.I.Held me mid c.args.key work c.requires.key from next c.deref.result.now gathered

pub produce-finish-requires-clause-claim : goal.produce-finish-requires-clause-claim
produce-finish-requires-clause-claim g t c κs within =
    let me = c.args.worker.now in
    let mid = c.claim-seat.result.0 in
    let next = c.gather-seat.result.0 in
    let ks = input_keys me.plan c.args.key in
    let whole = subst (λ r. IfOk r (λ l. Gathered g.I.Held me mid ks l.items next)) c.in-Ok.is c.gather-seat.ensures.ok in
    let gathered = subst (λ l. Gathered g.I.Held me mid ks l next) (sym c.deref.ensures.value) whole in
    let work = claimed_work g.I.Held c.args.worker.now c.args.seat c.args.key c.claim-seat.result.0 c.claim-seat.result.1 (c.in-Ok-None.is ∙ ap Ok c.in-Ok-None.field-0-is) c.claim-seat.ensures c.requires.work in
    let from = claimed_from g.I.Held c.args.worker.now c.args.seat c.args.key c.claim-seat.result.0 c.claim-seat.result.1 (c.in-Ok-None.is ∙ ap Ok c.in-Ok-None.field-0-is) c.claim-seat.ensures c.requires.past in
    next_has g.I.Held c.args.worker.now c.args.seat c.args.key c.claim-seat.result.0 c.claim-seat.result.1 (c.in-Ok-None.is ∙ ap Ok c.in-Ok-None.field-0-is) c.claim-seat.ensures next c.deref.result.now gathered (all_same g.I.Held me mid c.args.key work c.requires.key from next c.deref.result.now gathered)

pub produce-finish-requires-clause-got : goal.produce-finish-requires-clause-got
produce-finish-requires-clause-got g t c κs within =
    let me = c.args.worker.now in
    let mid = c.claim-seat.result.0 in
    let next = c.gather-seat.result.0 in
    let ks = input_keys me.plan c.args.key in
    let whole = subst (λ r. IfOk r (λ l. Gathered g.I.Held me mid ks l.items next)) c.in-Ok.is c.gather-seat.ensures.ok in
    let gathered = subst (λ l. Gathered g.I.Held me mid ks l next) (sym c.deref.ensures.value) whole in
    let work = claimed_work g.I.Held c.args.worker.now c.args.seat c.args.key c.claim-seat.result.0 c.claim-seat.result.1 (c.in-Ok-None.is ∙ ap Ok c.in-Ok-None.field-0-is) c.claim-seat.ensures c.requires.work in
    let from = claimed_from g.I.Held c.args.worker.now c.args.seat c.args.key c.claim-seat.result.0 c.claim-seat.result.1 (c.in-Ok-None.is ∙ ap Ok c.in-Ok-None.field-0-is) c.claim-seat.ensures c.requires.past in
    next_got g.I.Held c.args.worker.now c.args.seat c.args.key c.claim-seat.result.0 c.claim-seat.result.1 (c.in-Ok-None.is ∙ ap Ok c.in-Ok-None.field-0-is) c.claim-seat.ensures next c.deref.result.now gathered (all_same g.I.Held me mid c.args.key work c.requires.key from next c.deref.result.now gathered)

pub produce-finish-requires-clause-shapes : goal.produce-finish-requires-clause-shapes
produce-finish-requires-clause-shapes g t c κs within =
    let me = c.args.worker.now in
    let mid = c.claim-seat.result.0 in
    let next = c.gather-seat.result.0 in
    let ks = input_keys me.plan c.args.key in
    let whole = subst (λ r. IfOk r (λ l. Gathered g.I.Held me mid ks l.items next)) c.in-Ok.is c.gather-seat.ensures.ok in
    let gathered = subst (λ l. Gathered g.I.Held me mid ks l next) (sym c.deref.ensures.value) whole in
    let work = claimed_work g.I.Held c.args.worker.now c.args.seat c.args.key c.claim-seat.result.0 c.claim-seat.result.1 (c.in-Ok-None.is ∙ ap Ok c.in-Ok-None.field-0-is) c.claim-seat.ensures c.requires.work in
    let from = claimed_from g.I.Held c.args.worker.now c.args.seat c.args.key c.claim-seat.result.0 c.claim-seat.result.1 (c.in-Ok-None.is ∙ ap Ok c.in-Ok-None.field-0-is) c.claim-seat.ensures c.requires.past in
    gathered.shapes

pub produce-finish-requires-clause-right : goal.produce-finish-requires-clause-right
produce-finish-requires-clause-right g t c κs within =
    let me = c.args.worker.now in
    let mid = c.claim-seat.result.0 in
    let next = c.gather-seat.result.0 in
    let ks = input_keys me.plan c.args.key in
    let whole = subst (λ r. IfOk r (λ l. Gathered g.I.Held me mid ks l.items next)) c.in-Ok.is c.gather-seat.ensures.ok in
    let gathered = subst (λ l. Gathered g.I.Held me mid ks l next) (sym c.deref.ensures.value) whole in
    let work = claimed_work g.I.Held c.args.worker.now c.args.seat c.args.key c.claim-seat.result.0 c.claim-seat.result.1 (c.in-Ok-None.is ∙ ap Ok c.in-Ok-None.field-0-is) c.claim-seat.ensures c.requires.work in
    let from = claimed_from g.I.Held c.args.worker.now c.args.seat c.args.key c.claim-seat.result.0 c.claim-seat.result.1 (c.in-Ok-None.is ∙ ap Ok c.in-Ok-None.field-0-is) c.claim-seat.ensures c.requires.past in
    next_right g.I.Held c.args.worker.now c.args.seat c.args.key c.claim-seat.result.0 c.claim-seat.result.1 (c.in-Ok-None.is ∙ ap Ok c.in-Ok-None.field-0-is) c.claim-seat.ensures next c.deref.result.now gathered (all_same g.I.Held me mid c.args.key work c.requires.key from next c.deref.result.now gathered)

pub produce-returns-in-Ok-clause-ok : goal.produce-returns-in-Ok-clause-ok
produce-returns-in-Ok-clause-ok g t c =
    let me = c.args.worker.now in
    let mid = c.claim-seat.result.0 in
    let next = c.gather-seat.result.0 in
    let ks = input_keys me.plan c.args.key in
    let whole = subst (λ r. IfOk r (λ l. Gathered g.I.Held me mid ks l.items next)) c.in-Ok.is c.gather-seat.ensures.ok in
    let gathered = subst (λ l. Gathered g.I.Held me mid ks l next) (sym c.deref.ensures.value) whole in
    let work = claimed_work g.I.Held c.args.worker.now c.args.seat c.args.key c.claim-seat.result.0 c.claim-seat.result.1 (c.in-Ok-None.is ∙ ap Ok c.in-Ok-None.field-0-is) c.claim-seat.ensures c.requires.work in
    let from = claimed_from g.I.Held c.args.worker.now c.args.seat c.args.key c.claim-seat.result.0 c.claim-seat.result.1 (c.in-Ok-None.is ∙ ap Ok c.in-Ok-None.field-0-is) c.claim-seat.ensures c.requires.past in
    made_produced g.I.Held c.args.worker.now c.args.seat c.args.key c.claim-seat.result.0 c.claim-seat.result.1 (c.in-Ok-None.is ∙ ap Ok c.in-Ok-None.field-0-is) c.claim-seat.ensures next c.deref.result.now gathered (all_same g.I.Held me mid c.args.key work c.requires.key from next c.deref.result.now gathered) c.finish.result.0 c.finish.result.1 c.finish.ensures.ok

pub produce-returns-in-Ok-clause-err : goal.produce-returns-in-Ok-clause-err
produce-returns-in-Ok-clause-err g t c =
    let me = c.args.worker.now in
    let mid = c.claim-seat.result.0 in
    let next = c.gather-seat.result.0 in
    let ks = input_keys me.plan c.args.key in
    let whole = subst (λ r. IfOk r (λ l. Gathered g.I.Held me mid ks l.items next)) c.in-Ok.is c.gather-seat.ensures.ok in
    let gathered = subst (λ l. Gathered g.I.Held me mid ks l next) (sym c.deref.ensures.value) whole in
    let work = claimed_work g.I.Held c.args.worker.now c.args.seat c.args.key c.claim-seat.result.0 c.claim-seat.result.1 (c.in-Ok-None.is ∙ ap Ok c.in-Ok-None.field-0-is) c.claim-seat.ensures c.requires.work in
    let from = claimed_from g.I.Held c.args.worker.now c.args.seat c.args.key c.claim-seat.result.0 c.claim-seat.result.1 (c.in-Ok-None.is ∙ ap Ok c.in-Ok-None.field-0-is) c.claim-seat.ensures c.requires.past in
    made_stops g.I.Held c.args.worker.now c.args.seat c.args.key c.claim-seat.result.0 c.claim-seat.result.1 (c.in-Ok-None.is ∙ ap Ok c.in-Ok-None.field-0-is) c.claim-seat.ensures next c.deref.result.now gathered (all_same g.I.Held me mid c.args.key work c.requires.key from next c.deref.result.now gathered) c.finish.result.0 c.finish.result.1 c.finish.ensures.err

pub produce-returns-in-Err-gathered-clause-err : goal.produce-returns-in-Err-gathered-clause-err
produce-returns-in-Err-gathered-clause-err g t c =
    let me = c.args.worker.now in
    inputs_stop g.I.Held c.args.worker.now c.args.seat c.args.key c.claim-seat.result.0 c.claim-seat.result.1 (c.in-Ok-None.is ∙ ap Ok c.in-Ok-None.field-0-is) c.claim-seat.ensures c.gather-seat.result.0 c.in-Err-gathered.stop (subst (λ r. IfErr r (λ why. StopsWithin me (CutInputs me.plan me.number (input_keys me.plan c.args.key)) why c.claim-seat.result.0 c.gather-seat.result.0)) c.in-Err-gathered.is c.gather-seat.ensures.err)
