-- Window after window.
use Rattle.std.proofs.Common.{◌≡◌, ◌∙◌, ◌<◌, ◌-◌, ◌+◌, min, sym, ap, subst, arith}
use Rattle.std.specs.Map.{keys_of}
use Rattle.serve_machine.specs.Events.{windows_of}
use Rattle.serve_core.proofs.Tables.{all_free}
use Rattle.prefetch.specs.Crew.{AreOfCrew}
use Rattle.serve_machine.specs.Journals.{AreAloneFirst, AreAloneCut}
use Rattle.prefetch.specs.SerialWindows.{IsAloneWindow, IsAloneCut, AreSerial}
use Rattle.prefetch.specs.Windows.{frames_at}
use Rattle.prefetch.proofs.CrewTogether as together
use Rattle.prefetch.proofs.CrewTogether.{IsFirstOf, none_crew, first_crew, more_crew}
use Rattle.prefetch.proofs.RenderLemmas.{keeps_first, keeps_on, put_none, ends_at_once, put_more, window_stops, renders_all}
use Rattle.prefetch.proofs.SerialLemmas.{none_serial, first_serial, all_serial, more_serial, first_more, cut_more}
use Rattle.prefetch.proofs.windows.render_plain.Given.{Over}
use Rattle.prefetch.proofs.windows.render_plain.Goals as goal
use Rattle.prefetch.proofs.windows.render_plain.Goals.{After-new-worker}

total_is : (g : Over) (c : After-new-worker g) → c.node.result.now.info.frames ≡ frames_at c.args.core.now.fixed.plan c.args.core.now.fixed.root
total_is g c =
    let plan = c.deref.ensures ∙ c.in-Ok.ensures ∙ c.graph.ensures.graph in
    ap (λ a. a.info.frames) c.node.ensures ∙ (λ i. frames_at (plan i) (c.root-root.ensures.root i))

pub returns-in_default-clause-stop : goal.returns-in_default-clause-stop
returns-in_default-clause-stop g c =
    let core = c.args.core.now in
    let kept = keeps_first g.I.Held core c.requires.rest.between c.requires.rest.unclaimed (all_free core.table c.requires.rest.unlent) in
    let none = subst (λ ws. AreSerial core c.args.window 0 ws core) (sym c.requires.fresh) (none_serial core c.args.window) in
    let crew = subst (λ ws. AreOfCrew core c.args.window 0 ws core) (sym c.requires.fresh) (none_crew core c.args.window c.requires.rest.empty) in
    ends_at_once g.I.Held core g.K.Sink c.args.out.now (windows_of c.args.journal.now) kept
    (record { serial = first_serial core c.args.window 0 (windows_of c.args.journal.now) core none c.requires.rest.empty; crew = first_crew core c.args.window 0 (windows_of c.args.journal.now) core crew })

pub loop-first-init : goal.loop-first-init
loop-first-init g c =
    let core = c.args.core.now in
    record {
      inside = omega arith;
      worker = c.new-worker.ensures.plan ∙ c.in-Ok.ensures ∙ c.graph.ensures.graph;
      keeps = keeps_first g.I.Held core c.requires.rest.between c.requires.rest.unclaimed (all_free core.table c.requires.rest.unlent);
      serial = subst (λ ws. AreSerial core c.args.window 0 ws core) (sym c.requires.fresh) (none_serial core c.args.window);
      crew = subst (λ ws. AreOfCrew core c.args.window 0 ws core) (sym c.requires.fresh) (none_crew core c.args.window c.requires.rest.empty);
      put = put_none g.I.Held core g.K.Sink c.args.out.now;
      later = omega arith;
    }

pub returns-in-Err-clause-stop : goal.returns-in-Err-clause-stop
returns-in-Err-clause-stop g c =
    let core = c.args.core.now in
    let i = c.loop-first.invariant in
    let w = c.render_window.new in
    let n = c.loop-first.first in
    let count = c.min-count.result in
    let frames = frames_at core.fixed.plan core.fixed.root in
    let total = total_is g (goal.at.returns-in-Err-clause-stop g c).After-new-worker in
    let less : n < frames = omega (arith, total, c.loop-first-test.true) in
    let is : count ≡ min c.args.window (frames - n) = c.min-count.ensures ∙ ap (λ m. min c.args.window (m - n)) total in
    let log = windows_of c.loop-first.journal in
    let longer = windows_of w.journal in
    let before = c.loop-first.core in
    let same : (before.fixed.plan ≡ core.fixed.plan) × (before.fixed.root ≡ core.fixed.root) × (before.fixed.capacity ≡ core.fixed.capacity) = (i.keeps.stays.plan, i.keeps.stays.root, i.keeps.stays.capacity) in
    window_stops g.I.Held core g.K.Sink c.args.out.now c.loop-first.out w.out before w.core n count i.keeps (IsAloneWindow before n count) (IsAloneCut before n count)
    (AreAloneFirst core.fixed.plan core.fixed.root core.fixed.capacity core.fixed.workers (keys_of core.table) c.args.window frames)
    (AreAloneCut core.fixed.plan core.fixed.root core.fixed.capacity core.fixed.workers (keys_of core.table) c.args.window frames) log longer (omega arith) i.later
    (record { serial = first_serial core c.args.window n log before i.serial c.requires.rest.empty; crew = first_crew core c.args.window n log before i.crew })
    (λ finished a.
    record {
      serial = first_more core c.args.window n log before i.serial count c.requires.size.some less is same finished.events.items w.core longer a.log_is a.whole.serial c.requires.rest.empty;
      crew = together.first_more core c.args.window g.I.Held.holds n log before i.crew count less is i.keeps.stays finished.events.items w.core longer a.log_is a.whole.crew;
    })
    (λ why a.
    record {
      serial = cut_more core c.args.window n log before i.serial count c.requires.size.some less is same why a.events longer a.log_is a.cut.serial c.requires.rest.empty;
      crew = together.cut_more core c.args.window g.I.Held.holds n log before i.crew count less is i.keeps.stays why a.events longer a.log_is a.cut.crew;
    }) i.put c.in-Err.stop c.in-Err.ensures.stop

pub loop-first-preserved : goal.loop-first-preserved
loop-first-preserved g c =
    let core = c.args.core.now in
    let i = c.loop-first.invariant in
    let w = c.render_window.new in
    let n = c.loop-first.first in
    let count = c.min-count.result in
    let frames = frames_at core.fixed.plan core.fixed.root in
    let total = total_is g (goal.at.loop-first-preserved g c).After-new-worker in
    let less : n < frames = omega (arith, total, c.loop-first-test.true) in
    let is : count ≡ min c.args.window (frames - n) = c.min-count.ensures ∙ ap (λ m. min c.args.window (m - n)) total in
    let one = c.in-Ok-render_window.ensures.ok in
    record {
      inside = omega (arith, total, less, is);
      worker = ap (λ z. z.plan) c.in-Ok-render_window.ensures.worker ∙ i.worker;
      keeps = keeps_on g.I.Held core c.loop-first.core w.core i.keeps one.adds.delivered.keeps;
      serial = subst (λ ws. AreSerial core c.args.window (n + count) ws w.core) (sym one.adds.log_is)
          (more_serial core c.args.window n (windows_of c.loop-first.journal) c.loop-first.core i.serial count c.requires.size.some less is (i.keeps.stays.plan, i.keeps.stays.root, i.keeps.stays.capacity) one.finished.events.items w.core one.adds.whole.serial);
      crew = subst (λ ws. AreOfCrew core c.args.window (n + count) ws w.core) (sym one.adds.log_is)
          (more_crew core c.args.window g.I.Held.holds n (windows_of c.loop-first.journal) c.loop-first.core i.crew count less is i.keeps.stays one.finished.events.items w.core one.adds.whole.crew);
      put = put_more g.I.Held core g.K.Sink c.args.out.now c.loop-first.out w.out c.loop-first.core w.core n count i.keeps one.finished one.adds.delivered i.put one.put;
      later = omega (arith, i.later, c.in-Ok-render_window.ensures.later);
    }

pub returns-clause-ok : goal.returns-clause-ok
returns-clause-ok g c =
    let core = c.args.core.now in
    let i = c.loop-first.invariant in
    let n = c.loop-first.first in
    let log = windows_of c.loop-first.journal in
    let total = total_is g (goal.at.returns-clause-ok g c).After-new-worker in
    let all : n ≡ frames_at core.fixed.plan core.fixed.root = omega (arith, total, i.inside, c.loop-first-test.false) in
    renders_all g.I.Held core g.K.Sink c.args.out.now c.loop-first.out c.loop-first.core n log all i.keeps i.put
    (record { serial = all_serial core c.args.window n log c.loop-first.core i.serial c.requires.rest.empty all; crew = subst (IsFirstOf core c.args.window log) all (first_crew core c.args.window n log c.loop-first.core i.crew) })
