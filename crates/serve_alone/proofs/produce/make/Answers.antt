-- With no instance, or with one that is out for a while. Memory that is taken before changes nothing.
use Rattle.std.proofs.Common.{◌≡◌, IfOk, IfErr, sym, ap, ◌∙◌, subst}
use Rattle.serve_machine.specs.Events.{mode_at}
use Rattle.serve_machine.specs.Machine.{first_stop}
use Rattle.serve_core.specs.declared.answers.Admitted.TheVariants.{Leased as Lends, Busy as IsBusy}
use Rattle.serve_core.specs.Calls.{Admits}
use Rattle.serve_core.specs.CoreValue.{CoreValue}
use Rattle.serve_core.specs.Holds.{holds_none}
use Rattle.serve_core.specs.Sources.{place_of}
use Rattle.serve_core.proofs.Tables.{none_held, never_busy}
use Rattle.serve_alone.specs.Made.{Made, Unmade}
use Rattle.serve_alone.proofs.Producing.{plain_made, plain_unmade, unmade_now, leased_now, made_ok, made_err}
use Rattle.serve_alone.proofs.produce.make.Goals as goal

pub returns-then-node-eq1-clause-ok : goal.returns-then-node-eq1-clause-ok
returns-then-node-eq1-clause-ok g c =
    let one : mode_at c.args.graph.now c.args.key.node ≡ 1 = sym (ap (λ a. a.mode) c.node.ensures) ∙ c.if-node-eq1.true in
    subst (λ d. IfOk c.make_plain.result (λ x. Made g.I.Held c.args.graph.now c.args.core.now c.args.key c.args.frames.now x d)) (sym c.memory_for-memory.ensures)
    (plain_made g.I.Held c.args.graph.now c.args.core.now c.args.key c.args.frames.now c.make_plain.result c.requires.alone c.requires.key.node one c.make_plain.ensures.made)

pub returns-then-node-eq1-clause-err : goal.returns-then-node-eq1-clause-err
returns-then-node-eq1-clause-err g c =
    subst (λ d. IfErr c.make_plain.result (λ why. Unmade g.I.Held c.args.graph.now c.args.core.now c.args.key why d)) (sym c.memory_for-memory.ensures)
    (plain_unmade g.I.Held c.args.graph.now c.args.core.now c.args.key c.make_plain.result c.requires.alone c.make_plain.ensures.stop)

pub enter-requires-clause-hands : goal.enter-requires-clause-hands
enter-requires-clause-hands g c = ap (λ (z : CoreValue _). holds_none 0 z.table) c.memory_for-memory.ensures ∙ none_held c.args.core.now.table c.requires.alone.free

pub returns-in-Ok-Leased-clause-ok : goal.returns-in-Ok-Leased-clause-ok
returns-in-Ok-Leased-clause-ok g c =
    let many : mode_at c.args.graph.now c.args.key.node ≡ 1 → ⊥ = λ one. c.if-node-eq1.false (ap (λ a. a.mode) c.node.ensures ∙ one) in
    let adm = subst (λ a. Admits c.memory_for-memory.new.self 0 c.args.key.node a c.enter.new.self) c.in-Ok-Leased.field-0-is c.in-Ok-Leased.ensures.ok in
    let adm' = subst (λ z. Admits z 0 c.args.key.node (Lends c.in-Ok-Leased.lease) c.enter.new.self) c.memory_for-memory.ensures adm in
    let first = subst (λ (z : CoreValue _). z.stop ≡ first_stop z.journal) c.memory_for-memory.ensures c.in-Ok-Leased.ensures.stopped in
    made_ok g.I.Held c.args.graph.now c.args.core.now c.enter.new.self c.lend.new.core c.args.key c.args.frames.now c.in-Ok-Leased.lease c.lend.result c.requires.alone c.requires.key.node many first adm' c.lend.ensures

pub returns-in-Ok-Leased-clause-err : goal.returns-in-Ok-Leased-clause-err
returns-in-Ok-Leased-clause-err g c =
    let many : mode_at c.args.graph.now c.args.key.node ≡ 1 → ⊥ = λ one. c.if-node-eq1.false (ap (λ a. a.mode) c.node.ensures ∙ one) in
    let adm = subst (λ a. Admits c.memory_for-memory.new.self 0 c.args.key.node a c.enter.new.self) c.in-Ok-Leased.field-0-is c.in-Ok-Leased.ensures.ok in
    let adm' = subst (λ z. Admits z 0 c.args.key.node (Lends c.in-Ok-Leased.lease) c.enter.new.self) c.memory_for-memory.ensures adm in
    let first = subst (λ (z : CoreValue _). z.stop ≡ first_stop z.journal) c.memory_for-memory.ensures c.in-Ok-Leased.ensures.stopped in
    made_err g.I.Held c.args.graph.now c.args.core.now c.enter.new.self c.lend.new.core c.args.key c.args.frames.now c.in-Ok-Leased.lease c.lend.result c.requires.alone c.requires.key.node many first adm' c.lend.ensures

pub returns-in-Err-clause-err : goal.returns-in-Err-clause-err
returns-in-Err-clause-err g c = unmade_now g.I.Held c.args.graph.now c.args.core.now c.enter.new.self c.args.key c.requires.alone (c.in-Err.ensures.err ∙ c.memory_for-memory.ensures)

pub lend-requires-clause-lease : goal.lend-requires-clause-lease
lend-requires-clause-lease g c =
    let adm = subst (λ a. Admits c.memory_for-memory.new.self 0 c.args.key.node a c.enter.new.self) c.in-Ok-Leased.field-0-is c.in-Ok-Leased.ensures.ok in
    leased_now g.I.Held c.args.graph.now c.memory_for-memory.new.self c.enter.new.self c.args.key.node c.in-Ok-Leased.lease adm

pub unreachable-requires : goal.unreachable-requires
unreachable-requires g c =
    let adm = subst (λ a. Admits c.memory_for-memory.new.self 0 c.args.key.node a c.enter.new.self) c.in-Ok-Busy.field-0-is c.in-Ok-Busy.ensures.ok in
    let adm' = subst (λ z. Admits z 0 c.args.key.node (IsBusy c.in-Ok-Busy.field-0-0) c.enter.new.self) c.memory_for-memory.ensures adm in
    never_busy (place_of c.args.core.now.fixed.plan 0 c.args.key.node) c.in-Ok-Busy.field-0-0 c.args.core.now.table c.requires.alone.free adm'.1
