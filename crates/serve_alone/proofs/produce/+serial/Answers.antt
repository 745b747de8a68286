-- Each way out is a lemma over the states of the core.
use Rattle.std.proofs.Common.{◌≡◌, ◌+◌, ◌*◌, ◌<◌, take, drop, suc, ◌++◌, ◌∷◌, [], sym, ap, ◌∙◌, subst, arith, rules}
use Rattle.std.proofs.lemmas.List.{append_assoc}
use Rattle.std.proofs.lemmas.Option.{slice_get_within}
use Rattle.clip_graph.specs.Plan.{input_keys}
use Rattle.frame_cache.specs.Cached.{at_key}
use Rattle.serve_core.specs.Calls.{Asked}
use Rattle.serve_core.specs.CoreValue.{CoreValue}
use Rattle.serve_core.specs.Kept.{AnswerIsShaped}
use Rattle.serve_alone.specs.Alone.{AllFrom}
use Rattle.serve_alone.specs.Made.{Gathered}
use Rattle.serve_alone.proofs.Going.{alone_went, claimed_alone}
use Rattle.serve_alone.proofs.KeyLemmas.{never_there, claims_from, fewer_from, last_claim}
use Rattle.serve_core.proofs.Making.{front_more, front_and, taken_all, input_below}
use Rattle.serve_alone.proofs.Producing.{hit_produced, refused_stopped, produced_ok, stopped_inside, stopped_after, gathered_more, stopped_within, stopped_between}
use Rattle.serve_alone.proofs.produce.+serial.Goals as goal

pub produce-ask-requires-clause-open : goal.produce-ask-requires-clause-open
produce-ask-requires-clause-open g t c = never_there c.args.key 0 c.args.core.now.claims c.requires.above

pub produce-returns-in-Ok-Hit-clause-ok : goal.produce-returns-in-Ok-Hit-clause-ok
produce-returns-in-Ok-Hit-clause-ok g t c =
    let asked = subst (λ a. Asked c.args.core.now 0 c.args.key a c.ask.new.self) c.in-Ok-Hit.field-0-is c.in-Ok-Hit.ensures.ok in
    let shaped = subst (λ a. AnswerIsShaped c.args.core.now.fixed.plan c.args.key a) c.in-Ok-Hit.field-0-is c.in-Ok-Hit.ensures.shape in
    hit_produced g.I.Held c.args.graph.now c.args.core.now c.ask.new.self c.args.key c.in-Ok-Hit.frame c.requires.alone asked shaped

pub produce-unreachable-requires : goal.produce-unreachable-requires
produce-unreachable-requires g t c =
    let asked = subst (λ a. Asked c.args.core.now 0 c.args.key a c.ask.new.self) c.in-Ok-Taken.field-0-is c.in-Ok-Taken.ensures.ok in
    never_there c.args.key c.in-Ok-Taken.field-0-0 c.args.core.now.claims c.requires.above asked.2

pub produce-returns-in-Err-clause-err : goal.produce-returns-in-Err-clause-err
produce-returns-in-Err-clause-err g t c = refused_stopped g.I.Held c.args.graph.now c.args.core.now c.ask.new.self c.args.key c.requires.alone c.in-Err.ensures.err

pub produce-gather-requires : goal.produce-gather-requires
produce-gather-requires g t c κs within =
    let asked = subst (λ a. Asked c.args.core.now 0 c.args.key a c.ask.new.self) c.in-Ok-Claimed.field-0-is c.in-Ok-Claimed.ensures.ok in (
      subst (λ m. 2 * c.args.key.node < m) c.decreases (omega arith),
      (
        within,
        (
          claimed_alone c.args.graph.now c.args.core.now c.args.key c.ask.new.self asked.3 c.requires.alone,
          (
            c.requires.key,
            subst (λ (z : CoreValue g.row.I.Denot). AllFrom c.args.key.node z.claims) (sym asked.3) (claims_from c.args.key 0 c.args.core.now.claims c.requires.above),
          ),
        ),
      ),
    )

pub produce-abandon-requires-clause-claim : goal.produce-abandon-requires-clause-claim
produce-abandon-requires-clause-claim g t c =
    let asked = subst (λ a. Asked c.args.core.now 0 c.args.key a c.ask.new.self) c.in-Ok-Claimed.field-0-is c.in-Ok-Claimed.ensures.ok in
    ap (at_key c.args.key) (c.in-Err-gather.ensures.err.went.claims ∙ ap (λ (z : CoreValue g.row.I.Denot). z.claims) asked.3) ∙ last_claim c.args.key 0 c.args.core.now.claims asked.2

pub produce-returns-in-Err-gather-clause-err : goal.produce-returns-in-Err-gather-clause-err
produce-returns-in-Err-gather-clause-err g t c =
    let asked = subst (λ a. Asked c.args.core.now 0 c.args.key a c.ask.new.self) c.in-Ok-Claimed.field-0-is c.in-Ok-Claimed.ensures.ok in
    stopped_inside g.I.Held c.args.graph.now c.args.core.now c.ask.new.self c.gather.new.core c.abandon.new.self c.args.key c.in-Err-gather.stop c.requires.above asked c.in-Err-gather.ensures.err c.abandon.ensures

pub produce-finish-requires-clause-claim : goal.produce-finish-requires-clause-claim
produce-finish-requires-clause-claim g t c =
    let asked = subst (λ a. Asked c.args.core.now 0 c.args.key a c.ask.new.self) c.in-Ok-Claimed.field-0-is c.in-Ok-Claimed.ensures.ok in
    ap (at_key c.args.key) ((c.in-Ok.ensures.ok.ran c.args.key.node (omega arith)).went.claims ∙ ap (λ (z : CoreValue g.row.I.Denot). z.claims) asked.3) ∙ last_claim c.args.key 0 c.args.core.now.claims asked.2

pub produce-returns-in-Ok-finish-clause-ok : goal.produce-returns-in-Ok-finish-clause-ok
produce-returns-in-Ok-finish-clause-ok g t c =
    let asked = subst (λ a. Asked c.args.core.now 0 c.args.key a c.ask.new.self) c.in-Ok-Claimed.field-0-is c.in-Ok-Claimed.ensures.ok in
    let made = subst (λ l. Gathered g.I.Held c.args.graph.now c.ask.new.self c.args.key.node (input_keys c.args.graph.now c.args.key) l c.gather.new.core) (sym c.deref.ensures.value) c.in-Ok.ensures.ok in
    produced_ok g.I.Held c.args.graph.now c.args.core.now c.ask.new.self c.gather.new.core c.finish.new.core c.args.key c.deref.result.now c.in-Ok-finish.frame c.requires.above asked made c.in-Ok-finish.ensures.ok

pub produce-abandon-requires-in-Err-finish-clause-claim : goal.produce-abandon-requires-in-Err-finish-clause-claim
produce-abandon-requires-in-Err-finish-clause-claim g t c =
    let asked = subst (λ a. Asked c.args.core.now 0 c.args.key a c.ask.new.self) c.in-Ok-Claimed.field-0-is c.in-Ok-Claimed.ensures.ok in
    ap (at_key c.args.key) (c.in-Err-finish.ensures.err.went.claims ∙ ((c.in-Ok.ensures.ok.ran c.args.key.node (omega arith)).went.claims ∙ ap (λ (z : CoreValue g.row.I.Denot). z.claims) asked.3)) ∙ last_claim c.args.key 0 c.args.core.now.claims asked.2

pub produce-returns-clause-err : goal.produce-returns-clause-err
produce-returns-clause-err g t c =
    let asked = subst (λ a. Asked c.args.core.now 0 c.args.key a c.ask.new.self) c.in-Ok-Claimed.field-0-is c.in-Ok-Claimed.ensures.ok in
    stopped_after g.I.Held c.args.graph.now c.args.core.now c.ask.new.self c.gather.new.core c.finish.new.core c.abandon-in-Err-finish.new.self c.args.key c.in-Ok.frames.items c.in-Err-finish.stop c.requires.alone.is_plan c.requires.key.node c.requires.above asked c.in-Ok.ensures.ok c.in-Err-finish.ensures.err c.abandon-in-Err-finish.ensures

pub gather-produce-requires : goal.gather-produce-requires
gather-produce-requires g t c κs within =
    let made = c.loop-input.invariant.1 in
    let went = (made.ran c.args.key.node (omega arith)).went in
    let below = input_below c.args.graph.now c.args.key c.loop-input.i c.in-Some.input c.requires.alone.is_plan c.requires.key.node (sym c.in-Some.ensures) in
    let less = below.node in
    let inside = c.requires.key.node in (
      subst (λ m. 2 * c.in-Some.input.node + 1 < m) c.decreases (omega arith),
      (
        within,
        (
          alone_went g.I.Held.holds c.args.graph.now c.args.core.now c.loop-input.core _ c.requires.alone went,
          (
            record { node = omega arith; number = below.number },
            subst (AllFrom (c.in-Some.input.node + 1)) (sym went.claims) (fewer_from (c.in-Some.input.node + 1) c.args.key.node c.args.core.now.claims (omega arith) c.requires.above),
          ),
        ),
      ),
    )

pub gather-returns-in-Err-clause-err : goal.gather-returns-in-Err-clause-err
gather-returns-in-Err-clause-err g t c =
    let ks = input_keys c.args.graph.now c.args.key in
    stopped_within g.I.Held c.args.graph.now c.args.core.now c.loop-input.core c.produce.new.core c.args.key c.in-Some.input (take c.loop-input.i ks) (drop (suc c.loop-input.i) ks) c.loop-input.frames.items c.in-Err.stop
    c.requires.alone.is_plan c.requires.key.node (front_and ks c.loop-input.i c.in-Some.input (sym c.in-Some.ensures)) c.loop-input.invariant.1 c.in-Err.ensures.err

pub gather-returns-in_default-push-clause-err : goal.gather-returns-in_default-push-clause-err
gather-returns-in_default-push-clause-err g t c =
    let ks = input_keys c.args.graph.now c.args.key in
    let at = sym c.in-Some.ensures in
    let below = input_below c.args.graph.now c.args.key c.loop-input.i c.in-Some.input c.requires.alone.is_plan c.requires.key.node at in
    let made = gathered_more g.I.Held c.args.graph.now c.args.core.now c.loop-input.core c.produce.new.core c.args.key.node (take c.loop-input.i ks) c.loop-input.frames.items c.in-Some.input c.in-Ok.frame c.loop-input.invariant.1 below.node c.in-Ok.ensures.ok in
    stopped_between g.I.Held c.args.graph.now c.args.core.now c.produce.new.core c.args.key (take c.loop-input.i ks ++ c.in-Some.input ∷ []) (drop (suc c.loop-input.i) ks) (c.loop-input.frames.items ++ c.in-Ok.frame ∷ []) c.requires.alone.is_plan c.requires.key.node
    (front_and ks c.loop-input.i c.in-Some.input at ∙ sym (append_assoc (take c.loop-input.i ks) (c.in-Some.input ∷ []) (drop (suc c.loop-input.i) ks))) made

pub gather-loop-input-preserved : goal.gather-loop-input-preserved
gather-loop-input-preserved g t c =
    let ks = input_keys c.args.graph.now c.args.key in
    let at = sym c.in-Some.ensures in
    let below = input_below c.args.graph.now c.args.key c.loop-input.i c.in-Some.input c.requires.alone.is_plan c.requires.key.node at in
    let inside = slice_get_within ks c.loop-input.i c.in-Some.input at in
    let made = gathered_more g.I.Held c.args.graph.now c.args.core.now c.loop-input.core c.produce.new.core c.args.key.node (take c.loop-input.i ks) c.loop-input.frames.items c.in-Some.input c.in-Ok.frame c.loop-input.invariant.1 below.node c.in-Ok.ensures.ok in
    let next : c.in-Some-checked_add.next ≡ c.loop-input.i + 1 = search rules in
    (omega (arith, next, inside), rw (c.in-Ok-push.ensures.items, ap (λ n. take n ks) next ∙ front_more ks c.loop-input.i c.in-Some.input at) made)

pub gather-loop-input-smaller : goal.gather-loop-input-smaller
gather-loop-input-smaller g t c =
    let inside = slice_get_within (input_keys c.args.graph.now c.args.key) c.loop-input.i c.in-Some.input (sym c.in-Some.ensures) in
    omega (arith, inside)

pub gather-returns-clause-ok : goal.gather-returns-clause-ok
gather-returns-clause-ok g t c =
    let ks = input_keys c.args.graph.now c.args.key in
    let all : take c.loop-input.i ks ≡ ks = taken_all ks c.loop-input.i (sym c.in_default.ensures) in
    subst (λ l. Gathered g.I.Held c.args.graph.now c.args.core.now c.args.key.node l c.loop-input.frames.items c.loop-input.core) all c.loop-input.invariant.1

pub produce-finish-requires-clause-alone : goal.produce-finish-requires-clause-alone
produce-finish-requires-clause-alone g t c =
    let asked = subst (λ a. Asked c.args.core.now 0 c.args.key a c.ask.new.self) c.in-Ok-Claimed.field-0-is c.in-Ok-Claimed.ensures.ok in
    alone_went g.I.Held.holds c.args.graph.now c.ask.new.self c.gather.new.core _ (claimed_alone c.args.graph.now c.args.core.now c.args.key c.ask.new.self asked.3 c.requires.alone) (c.in-Ok.ensures.ok.ran c.args.key.node (omega arith)).went

pub produce-abandon-requires-in-Err-finish-clause-worker : goal.produce-abandon-requires-in-Err-finish-clause-worker
produce-abandon-requires-in-Err-finish-clause-worker g t c =
    let asked = subst (λ a. Asked c.args.core.now 0 c.args.key a c.ask.new.self) c.in-Ok-Claimed.field-0-is c.in-Ok-Claimed.ensures.ok in
    let alone = alone_went g.I.Held.holds c.args.graph.now c.ask.new.self c.gather.new.core _ (claimed_alone c.args.graph.now c.args.core.now c.args.key c.ask.new.self asked.3 c.requires.alone) (c.in-Ok.ensures.ok.ran c.args.key.node (omega arith)).went in
    subst (λ f. 0 < f.workers) (sym c.in-Err-finish.ensures.err.went.fixed) alone.worker

pub gather-returns-in_default-checked_add-clause-err : goal.gather-returns-in_default-checked_add-clause-err
gather-returns-in_default-checked_add-clause-err g t c =
    let ks = input_keys c.args.graph.now c.args.key in
    let at = sym c.in-Some.ensures in
    let below = input_below c.args.graph.now c.args.key c.loop-input.i c.in-Some.input c.requires.alone.is_plan c.requires.key.node at in
    let made = gathered_more g.I.Held c.args.graph.now c.args.core.now c.loop-input.core c.produce.new.core c.args.key.node (take c.loop-input.i ks) c.loop-input.frames.items c.in-Some.input c.in-Ok.frame c.loop-input.invariant.1 below.node c.in-Ok.ensures.ok in
    stopped_between g.I.Held c.args.graph.now c.args.core.now c.produce.new.core c.args.key (take c.loop-input.i ks ++ c.in-Some.input ∷ []) (drop (suc c.loop-input.i) ks) (c.loop-input.frames.items ++ c.in-Ok.frame ∷ []) c.requires.alone.is_plan c.requires.key.node
    (front_and ks c.loop-input.i c.in-Some.input at ∙ sym (append_assoc (take c.loop-input.i ks) (c.in-Some.input ∷ []) (drop (suc c.loop-input.i) ks))) made
