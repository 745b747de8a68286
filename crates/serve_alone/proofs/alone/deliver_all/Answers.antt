-- Output after output, up to a stop.
use Rattle.std.proofs.Common.{◌≡◌, ◌<◌, true, length, slice_get, subst, sym, ap, ◌∙◌, arith}
use Rattle.serve_machine.specs.Events.{names_source}
use Rattle.serve_alone.specs.Windows.{Stepped}
use Rattle.serve_alone.proofs.Serving.{served_none, served_alone, served_ready, served_more, served_all, one_more, cut_window}
use Rattle.serve_alone.proofs.alone.deliver_all.Goals as goal

pub outputs-init : goal.outputs-init
outputs-init g c = served_none g.I.Held c.args.graph.now c.args.core.now c.requires.alone c.requires.fresh

pub deliver_next-requires-clause-alone : goal.deliver_next-requires-clause-alone
deliver_next-requires-clause-alone g c = served_alone g.I.Held c.args.graph.now c.args.core.now c.outputs.core (length c.outputs.core.outputs.taken) c.requires.alone c.outputs.invariant

pub deliver_next-requires-clause-ready : goal.deliver_next-requires-clause-ready
deliver_next-requires-clause-ready g c = served_ready g.I.Held c.args.graph.now c.args.core.now c.outputs.core (length c.outputs.core.outputs.taken) c.requires.fresh.ready c.outputs.invariant

pub outputs-preserved : goal.outputs-preserved
outputs-preserved g c =
    let stepped = subst (λ b. Stepped g.I.Held c.args.graph.now c.outputs.core b c.deliver_next.new.core) c.in-Ok-true.field-0-test c.in-Ok-true.ensures.ok in
    served_more g.I.Held c.args.graph.now c.args.core.now c.outputs.core c.deliver_next.new.core stepped.0 c.outputs.invariant stepped.1

pub outputs-smaller : goal.outputs-smaller
outputs-smaller g c =
    let stepped = subst (λ b. Stepped g.I.Held c.args.graph.now c.outputs.core b c.deliver_next.new.core) c.in-Ok-true.field-0-test c.in-Ok-true.ensures.ok in
    let some = stepped.1.some in
    let count = ap (λ f. f.count) c.outputs.invariant.fixed in
    let more = one_more g.I.Held c.args.graph.now c.outputs.core c.deliver_next.new.core stepped.0 stepped.1 in
    omega (arith, some, count, more)

pub returns-in-Ok-false-clause-ok : goal.returns-in-Ok-false-clause-ok
returns-in-Ok-false-clause-ok g c =
    let stepped = subst (λ b. Stepped g.I.Held c.args.graph.now c.outputs.core b c.deliver_next.new.core) c.in-Ok-false.field-0-test c.in-Ok-false.ensures.ok in
    served_all g.I.Held c.args.graph.now c.args.core.now c.outputs.core c.deliver_next.new.core c.outputs.invariant stepped.0 stepped.1

pub fail-requires-clause-worker : goal.fail-requires-clause-worker
fail-requires-clause-worker g c =
    let e = c.in-Err.ensures.err in
    subst (λ f. 0 < f.workers) (sym (e.fixed ∙ c.outputs.invariant.fixed)) c.requires.alone.worker

pub fail-requires-clause-fresh : goal.fail-requires-clause-fresh
fail-requires-clause-fresh g c =
    let e = c.in-Err.ensures.err in
    ap (λ l. slice_get l 0) (e.failed ∙ c.outputs.invariant.failed) ∙ c.requires.fresh.ready.unfailed

pub fail-requires-clause-source : goal.fail-requires-clause-source
fail-requires-clause-source g c =
    let e = c.in-Err.ensures.err in
    let plan = ap (λ f. f.plan) (e.fixed ∙ c.outputs.invariant.fixed) ∙ c.requires.alone.plan_is in
    subst (λ pl. names_source pl c.in-Err.stop ≡ true) (sym plan) e.stops.named

pub returns-in-Err-clause-err : goal.returns-in-Err-clause-err
returns-in-Err-clause-err g c =
    cut_window g.I.Held c.args.graph.now c.args.core.now c.outputs.core c.deliver_next.new.core c.fail.new.self (length c.outputs.core.outputs.taken) c.in-Err.stop c.requires.alone c.requires.fresh.ready.root c.outputs.invariant c.in-Err.ensures.err c.fail.ensures
