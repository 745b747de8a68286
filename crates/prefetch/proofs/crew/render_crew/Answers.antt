-- Window after window.
use Rattle.std.proofs.Common.{◌≡◌, ◌∙◌, ◌<◌, ◌-◌, ◌+◌, min, sym, ap, subst, arith}
use Rattle.serve_machine.specs.Events.{windows_of}
use Rattle.serve_core.proofs.Tables.{all_free}
use Rattle.prefetch.specs.Crew.{AreOfCrew, MakesNext, NextShows}
use Rattle.prefetch.specs.Windows.{frames_at}
use Rattle.prefetch.proofs.CrewTogether.{IsFirstOf, none_crew, first_crew, more_crew, next_stops}
use Rattle.prefetch.proofs.RenderLemmas.{Waits, keeps_first, keeps_on, none_waits, put_waiting, waiting_fails, more_waits, renders_all}
use Rattle.prefetch.proofs.crew.render_crew.Given.{Over}
use Rattle.prefetch.proofs.crew.render_crew.Goals as goal
use Rattle.prefetch.proofs.crew.render_crew.Goals.{After-node}

total_is : (g : Over) (c : After-node g) → c.node.result.now.info.frames ≡ frames_at c.args.core.fixed.plan c.args.core.fixed.root
total_is g c =
    let plan : c.deref.result.now ≡ c.args.core.fixed.plan = c.deref.ensures ∙ c.graph.ensures.graph in
    ap (λ a. a.info.frames) c.node.ensures ∙ (λ i. frames_at (plan i) (c.root.ensures.root i))

pub loop-first-init : goal.loop-first-init
loop-first-init g c =
    let core = c.args.core in
    record {
      inside = omega arith;
      keeps = keeps_first g.I.Held core c.requires.rest.between c.requires.rest.unclaimed (all_free core.table c.requires.rest.unlent);
      crew = subst (λ ws. AreOfCrew core c.args.window 0 ws core) (sym c.requires.fresh) (none_crew core c.args.window c.requires.rest.empty);
      waits = subst (λ frames. Waits g.I.Held core g.K.Sink c.args.out.now c.args.out.now frames 0) (sym c.new-frames.ensures.items)
          (none_waits g.I.Held core g.K.Sink c.args.out.now);
      later = omega arith;
    }

pub returns-in-Err-clause-stop : goal.returns-in-Err-clause-stop
returns-in-Err-clause-stop g c =
    let core = c.args.core in
    let i = c.loop-first.invariant in
    let before = c.loop-first.core in
    let after = c.render_crew_window-left.result.0 in
    let w = c.render_crew_window-left.new in
    let n = c.loop-first.first in
    let count = c.min-count.result in
    let log = windows_of c.loop-first.journal in
    let longer = windows_of w.journal in
    let total = total_is g (goal.at.returns-in-Err-clause-stop g c).After-node in
    let less : n < frames_at core.fixed.plan core.fixed.root = omega (arith, total, c.loop-first-test.true) in
    let is : count ≡ min c.args.window (frames_at core.fixed.plan core.fixed.root - n) = c.min-count.ensures ∙ ap (λ m. min c.args.window (m - n)) total in
    let stop : NextShows g.I.Held before n count log longer after g.K.Sink c.loop-first.frames.items c.loop-first.out w.out c.in-Err.stop = rw c.in-Err.is at c.render_crew_window-left.ensures.stop in
    next_stops core c.args.window g.I.Held g.K.Sink c.args.out.now c.loop-first.out w.out n count log longer before after i.crew less is i.keeps c.loop-first.frames.items i.waits i.later c.in-Err.stop stop

pub loop-first-preserved : goal.loop-first-preserved
loop-first-preserved g c =
    let core = c.args.core in
    let i = c.loop-first.invariant in
    let before = c.loop-first.core in
    let after = c.render_crew_window-left.result.0 in
    let w = c.render_crew_window-left.new in
    let n = c.loop-first.first in
    let count = c.min-count.result in
    let log = windows_of c.loop-first.journal in
    let total = total_is g (goal.at.loop-first-preserved g c).After-node in
    let less : n < frames_at core.fixed.plan core.fixed.root = omega (arith, total, c.loop-first-test.true) in
    let is : count ≡ min c.args.window (frames_at core.fixed.plan core.fixed.root - n) = c.min-count.ensures ∙ ap (λ m. min c.args.window (m - n)) total in
    let one : MakesNext g.I.Held before n count log (windows_of w.journal) after g.K.Sink c.loop-first.frames.items c.loop-first.out w.out c.in-Ok.next.items
    = rw c.in-Ok.is at c.render_crew_window-left.ensures.ok in
    let put = put_waiting g.I.Held core g.K.Sink c.args.out.now c.loop-first.out w.out c.loop-first.frames.items n i.waits one.put in
    record {
      inside = omega (arith, total, less, is);
      keeps = keeps_on g.I.Held core before after i.keeps one.adds.delivered.keeps;
      crew = subst (λ ws. AreOfCrew core c.args.window (n + count) ws after) (sym one.adds.log_is) (more_crew core c.args.window g.I.Held.holds n log before i.crew count less is i.keeps.stays one.finished.events.items after one.adds.whole);
      waits = subst (λ frames. Waits g.I.Held core g.K.Sink c.args.out.now w.out frames (n + count)) (sym one.frames_are)
          (more_waits g.I.Held core g.K.Sink c.args.out.now w.out w.out before after n count i.keeps one.finished one.adds.delivered put);
      later = omega (arith, i.later, c.render_crew_window-left.ensures.later);
    }

pub returns-in-Ok-put_frames-clause-ok : goal.returns-in-Ok-put_frames-clause-ok
returns-in-Ok-put_frames-clause-ok g c =
    let core = c.args.core in
    let i = c.loop-first.invariant in
    let n = c.loop-first.first in
    let log = windows_of c.loop-first.journal in
    let total = total_is g (goal.at.returns-in-Ok-put_frames-clause-ok g c).After-node in
    let all : n ≡ frames_at core.fixed.plan core.fixed.root = omega (arith, total, i.inside, c.loop-first-test.false) in
    let put = put_waiting g.I.Held core g.K.Sink c.args.out.now c.loop-first.out c.put_frames.new.out c.loop-first.frames.items n i.waits (rw c.deref-2.ensures.value at c.in-Ok-put_frames.ensures.put) in
    renders_all g.I.Held core g.K.Sink c.args.out.now c.put_frames.new.out c.loop-first.core n log all i.keeps put (subst (IsFirstOf core c.args.window log) all (first_crew core c.args.window n log c.loop-first.core i.crew))

pub returns-clause-stop : goal.returns-clause-stop
returns-clause-stop g c =
    let core = c.args.core in
    let i = c.loop-first.invariant in
    let n = c.loop-first.first in
    let log = windows_of c.loop-first.journal in
    let total = total_is g (goal.at.returns-clause-stop g c).After-node in
    let put = c.in-Err-put_frames.ensures in
    waiting_fails g.I.Held core g.K.Sink c.args.out.now c.loop-first.out c.put_frames.new.out c.loop-first.frames.items n i.waits log c.loop-first.core n (omega arith) (omega (arith, total, i.inside)) i.keeps.stays i.later
    put.failed (rw c.deref-2.ensures.value at put.cut) (first_crew core c.args.window n log c.loop-first.core i.crew)
