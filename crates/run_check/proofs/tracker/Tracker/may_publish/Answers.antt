use Rattle.std.proofs.Common.{◌≡◌, ◌&&◌, List, false, sym, ap, ◌∙◌}
use Rattle.std.specs.Prelude.{is_some}
use Rattle.clip_graph.specs.Plan.{Application, input_keys}
use Rattle.frame_cache.specs.Cached.{at_key}
use Rattle.serve_machine.specs.Machine.{is_by, holds_nothing, is_key, gathered}
use Rattle.run_check.proofs.EnterLemmas.{ready, unready, ready_key, if_ok_map}
use Rattle.run_check.proofs.NodeLemmas.{key_below}
use Rattle.run_check.proofs.tracker.Tracker.may_publish.Goals as goal

pub returns-then-not-is_ready : goal.returns-then-not-is_ready
returns-then-not-is_ready c = λ m s is h.
    sym (unready (is_by c.args.worker (at_key c.args.key s.claims) && holds_nothing c.args.worker s.places) (is_some (gathered c.args.worker (input_keys m.fixed.plan c.args.key) s.got)) _ (sym (c.if-not-is_ready.ensures m s h)))

pub returns-then-not-is_key : goal.returns-then-not-is_key
returns-then-not-is_key c = λ m s is h.
    let yes = ready_key m s c.args.self.now c.args.worker c.args.key _ _ h (sym (c.if-not-is_ready.ensures m s h)) in
    let no : false ≡ is_key m.fixed.plan c.args.key = c.if-not-is_key.ensures ∙ ap (λ (p : List Application). is_key p c.args.key) is in
    absurd (let bad : ⊥ = cc in bad)

pub has_got_inputs-requires : goal.has_got_inputs-requires
has_got_inputs-requires c = key_below c.args.graph.now c.args.key (sym c.if-not-is_key.ensures)

pub returns : goal.returns
returns c = λ m s is h.
    if_ok_map c.has_got_inputs.result (c.has_got_inputs.ensures m s is h)
    (λ yes same. same ∙ sym (ready (is_by c.args.worker (at_key c.args.key s.claims) && holds_nothing c.args.worker s.places) (is_some (gathered c.args.worker (input_keys m.fixed.plan c.args.key) s.got)) _ (sym (c.if-not-is_ready.ensures m s h))))
