-- Taken, produced and delivered, or cut short.
use Rattle.std.proofs.Common.{◌≡◌, ◌<◌, true, subst, suc, arith, sym, ap, ◌∙◌}
use Rattle.serve_core.specs.Calls.{TookOutput}
use Rattle.serve_core.specs.CoreValue.{CoreValue}
use Rattle.serve_core.specs.Kept.{IsUndelivered}
use Rattle.serve_core.specs.Sources.{shape_at}
use Rattle.serve_machine.specs.Events.{frame_key, has_got}
use Rattle.serve_alone.specs.Alone.{AllFrom}
use Rattle.serve_alone.proofs.Serving.{is_taken, still_open, output_key, taken_alone, taken_claims, step_ok, untaken_cut, taken_cut}
use Rattle.serve_alone.proofs.alone.deliver_next.Goals as goal

pub returns-in-Err-clause-err : goal.returns-in-Err-clause-err
returns-in-Err-clause-err g c = untaken_cut g.I.Held c.args.graph.now c.args.core.now c.take_output.new.self c.requires.alone c.in-Err.ensures.err

pub produce-requires-clause-alone : goal.produce-requires-clause-alone
produce-requires-clause-alone g c =
    let took = subst (λ o. TookOutput c.args.core.now 0 o c.take_output.new.self) c.in-Ok-Some.field-0-is c.in-Ok-Some.ensures.ok in
    taken_alone c.args.graph.now c.args.core.now c.take_output.new.self c.in-Ok-Some.n c.requires.alone took

pub produce-requires-clause-key : goal.produce-requires-clause-key
produce-requires-clause-key g c =
    let took = subst (λ o. TookOutput c.args.core.now 0 o c.take_output.new.self) c.in-Ok-Some.field-0-is c.in-Ok-Some.ensures.ok in
    output_key c.args.graph.now c.args.core.now c.take_output.new.self c.root.result c.in-Ok-Some.n c.requires.alone c.requires.ready took c.root.ensures.root

pub produce-requires-clause-above : goal.produce-requires-clause-above
produce-requires-clause-above g c =
    let took = subst (λ o. TookOutput c.args.core.now 0 o c.take_output.new.self) c.in-Ok-Some.field-0-is c.in-Ok-Some.ensures.ok in
    subst (AllFrom _) (sym (taken_claims c.args.core.now c.take_output.new.self c.in-Ok-Some.n took ∙ c.requires.ready.claims)) tt

pub deliver-requires-clause-taken : goal.deliver-requires-clause-taken
deliver-requires-clause-taken g c =
    let took = subst (λ o. TookOutput c.args.core.now 0 o c.take_output.new.self) c.in-Ok-Some.field-0-is c.in-Ok-Some.ensures.ok in
    let went = (c.in-Ok.ensures.ok.ran (suc c.root.result) (omega arith)).went in
    is_taken c.args.core.now c.take_output.new.self c.produce.new.core c.in-Ok-Some.n took went.fixed went.outputs

pub deliver-requires-clause-open : goal.deliver-requires-clause-open
deliver-requires-clause-open g c =
    let took = subst (λ o. TookOutput c.args.core.now 0 o c.take_output.new.self) c.in-Ok-Some.field-0-is c.in-Ok-Some.ensures.ok in
    let undelivered = subst (λ o. IsUndelivered c.args.core.now o) c.in-Ok-Some.field-0-is c.in-Ok-Some.ensures.undelivered in
    let went = (c.in-Ok.ensures.ok.ran (suc c.root.result) (omega arith)).went in
    still_open c.args.core.now c.take_output.new.self c.produce.new.core c.in-Ok-Some.n took went.fixed went.outputs undelivered

pub returns-in-Ok-clause-ok : goal.returns-in-Ok-clause-ok
returns-in-Ok-clause-ok g c =
    let took = subst (λ o. TookOutput c.args.core.now 0 o c.take_output.new.self) c.in-Ok-Some.field-0-is c.in-Ok-Some.ensures.ok in
    (c.in-Ok.frame, step_ok g.I.Held c.args.graph.now c.args.core.now c.take_output.new.self c.produce.new.core c.deliver.new.self c.root.result c.in-Ok-Some.n c.in-Ok.frame c.requires.alone.plan_is took c.root.ensures.root c.in-Ok.ensures.ok c.deliver.ensures)

pub returns-in-Err-produce-clause-err : goal.returns-in-Err-produce-clause-err
returns-in-Err-produce-clause-err g c =
    let took = subst (λ o. TookOutput c.args.core.now 0 o c.take_output.new.self) c.in-Ok-Some.field-0-is c.in-Ok-Some.ensures.ok in
    taken_cut g.I.Held c.args.graph.now c.args.core.now c.take_output.new.self c.produce.new.core c.root.result c.in-Ok-Some.n c.in-Err-produce.stop took c.root.ensures.root c.in-Err-produce.ensures.err

pub deliver-requires-clause-worker : goal.deliver-requires-clause-worker
deliver-requires-clause-worker g c =
    let took = subst (λ o. TookOutput c.args.core.now 0 o c.take_output.new.self) c.in-Ok-Some.field-0-is c.in-Ok-Some.ensures.ok in
    let went = (c.in-Ok.ensures.ok.ran (suc c.root.result) (omega arith)).went in
    subst (λ f. 0 < f.workers) (sym went.fixed) (taken_alone c.args.graph.now c.args.core.now c.take_output.new.self c.in-Ok-Some.n c.requires.alone took).worker

pub deliver-requires-clause-low : goal.deliver-requires-clause-low
deliver-requires-clause-low g c =
    let took = subst (λ o. TookOutput c.args.core.now 0 o c.take_output.new.self) c.in-Ok-Some.field-0-is c.in-Ok-Some.ensures.ok in
    let went = (c.in-Ok.ensures.ok.ran (suc c.root.result) (omega arith)).went in
    let first = ap (λ z. z.first) (went.fixed ∙ ap (λ (z : CoreValue g.row.I.Denot). z.fixed) took.3) in
    let is = took.2 in
    omega (arith, first, is)

pub deliver-requires-clause-got : goal.deliver-requires-clause-got
deliver-requires-clause-got g c =
    let went = (c.in-Ok.ensures.ok.ran (suc c.root.result) (omega arith)).went in
    let root = c.root.ensures.root ∙ sym (ap (λ z. z.root) went.fixed) in
    subst (λ r. has_got 0 (frame_key r c.in-Ok-Some.n) c.produce.new.core.journal ≡ true) root c.in-Ok.ensures.ok.got

pub deliver-requires-clause-shape : goal.deliver-requires-clause-shape
deliver-requires-clause-shape g c =
    let took = subst (λ o. TookOutput c.args.core.now 0 o c.take_output.new.self) c.in-Ok-Some.field-0-is c.in-Ok-Some.ensures.ok in
    let went = (c.in-Ok.ensures.ok.ran (suc c.root.result) (omega arith)).went in
    let fixed = went.fixed ∙ ap (λ (z : CoreValue g.row.I.Denot). z.fixed) took.3 in
    let root = c.root.ensures.root ∙ sym (ap (λ z. z.root) went.fixed) in
    let plan = sym (ap (λ z. z.plan) fixed ∙ c.requires.alone.plan_is) in
    c.in-Ok.ensures.ok.shape ∙ (λ i. shape_at (plan i) (root i))
