use Rattle.std.proofs.Common.{◌∙◌, OnOk, IfErr, rules}
use Rattle.serve_machine.specs.Events.{windows_of}
use Rattle.serve_worker.specs.Instances.{holds_of}
use Rattle.serve_core.proofs.Tables.{all_free}
use Rattle.prefetch.specs.Renders.{RendersBy, StopsBy}
use Rattle.prefetch.specs.Windows.{Stays}
use Rattle.prefetch.proofs.CoreRenders.{alone_renders, alone_stops, stays_by, steady_by, unfailed_by, named_by}
use Rattle.prefetch.proofs.StreamLemmas.{streamed, streamed_headless}
use Rattle.prefetch.proofs.stream.put_clip_alone.Goals as goal
use Rattle.prefetch.proofs.stream.put_clip_alone.Given.{Over}
use Rattle.prefetch.proofs.stream.put_clip_alone.Goals.{After-whole_of-whole}

renders : (g : Over) (c : After-whole_of-whole g) → OnOk c.render_plain-done.result (RendersBy g.S.Source c.args.core g.K.Sink c.put_head.new.out c.render_plain-done.new.out c.args.window (windows_of c.render_plain-done.new.journal) c.render_plain-done.new.core)
renders g c = alone_renders g.S.Source c.args.core g.K.Sink c.put_head.new.out c.render_plain-done.new.out c.args.window (windows_of c.render_plain-done.new.journal) c.render_plain-done.new.core c.requires.one c.render_plain-done.result c.render_plain-done.ensures.ok

stopped : (g : Over) (c : After-whole_of-whole g) → IfErr c.render_plain-done.result (StopsBy g.S.Source c.args.core g.K.Sink c.put_head.new.out c.render_plain-done.new.out c.args.window (windows_of c.render_plain-done.new.journal) c.render_plain-done.new.core)
stopped g c = alone_stops g.S.Source c.args.core g.K.Sink c.put_head.new.out c.render_plain-done.new.out c.args.window (windows_of c.render_plain-done.new.journal) c.render_plain-done.new.core c.requires.one c.render_plain-done.result c.render_plain-done.ensures.stop

pub returns-in-Err-clause-streamed : goal.returns-in-Err-clause-streamed
returns-in-Err-clause-streamed g c =
    streamed_headless g.S.Source g.K.Sink c.args.core c.args.window c.node.result.now.info c.args.out.now c.put_head.new.out c.in-Err.stop c.args.journal.now
    (search rules) c.in-Err.ensures.stop c.requires.none

pub returns-in-Err-clause-free : goal.returns-in-Err-clause-free
returns-in-Err-clause-free g c = all_free c.args.core.table c.requires.unlent

pub whole_of-whole-requires : goal.whole_of-whole-requires
whole_of-whole-requires g c = record {
  named = named_by g.S.Source c.args.core g.K.Sink c.put_head.new.out c.render_plain-done.new.out c.args.window (windows_of c.render_plain-done.new.journal) c.render_plain-done.new.core
      c.render_plain-done.result (alone_stops g.S.Source c.args.core g.K.Sink c.put_head.new.out c.render_plain-done.new.out c.args.window (windows_of c.render_plain-done.new.journal) c.render_plain-done.new.core c.requires.one c.render_plain-done.result c.render_plain-done.ensures.stop);
}

pub returns-clause-streamed : goal.returns-clause-streamed
returns-clause-streamed g c =
    streamed g.S.Source g.K.Sink c.args.core c.args.window c.node.result.now.info c.args.out.now c.put_head.new.out c.render_plain-done.new.out c.render_plain-done.new.journal
    c.render_plain-done.new.core c.render_plain-done.result c.args.kept c.whole_of-whole.result c.requires.some c.requires.stands (search rules) c.in-Ok.ensures.put
    (c.in-Ok.ensures.unfailed (λ e. (let no : ⊥ = cc e in no))) c.put_head.ensures.later c.requires.kept (renders g c) (stopped g c) c.whole_of-whole.ensures

stays : (g : Over) (c : After-whole_of-whole g) → Stays holds_of c.args.core c.render_plain-done.new.core
stays g c =
    stays_by g.S.Source c.args.core g.K.Sink c.put_head.new.out c.render_plain-done.new.out c.args.window (windows_of c.render_plain-done.new.journal) c.render_plain-done.new.core
    c.render_plain-done.result (renders g c) (stopped g c)

pub returns-clause-free : goal.returns-clause-free
returns-clause-free g c = let kept = stays g c in kept.free

pub returns-clause-held : goal.returns-clause-held
returns-clause-held g c = let kept = stays g c in kept.held

pub returns-clause-unclaimed : goal.returns-clause-unclaimed
returns-clause-unclaimed g c = let kept = stays g c in kept.unclaimed

pub returns-clause-steady : goal.returns-clause-steady
returns-clause-steady g c =
    steady_by g.S.Source c.args.core g.K.Sink c.put_head.new.out c.render_plain-done.new.out c.args.window (windows_of c.render_plain-done.new.journal) c.render_plain-done.new.core
    c.render_plain-done.result c.render_plain-done.new.core.fixed.plan c.render_plain-done.new.core.fixed.workers c.node.result.now.info.frames c.args.kept c.whole_of-whole.result (renders g c) c.whole_of-whole.ensures

pub returns-in-Err-clause-unfailed : goal.returns-in-Err-clause-unfailed
returns-in-Err-clause-unfailed g c = λ other. c.in-Err.ensures.unfailed (λ is. other (let same = is in cc))

pub returns-clause-unfailed : goal.returns-clause-unfailed
returns-clause-unfailed g c = λ other.
    unfailed_by g.S.Source c.args.core g.K.Sink c.put_head.new.out c.render_plain-done.new.out c.args.window (windows_of c.render_plain-done.new.journal) c.render_plain-done.new.core
    c.render_plain-done.result c.render_plain-done.new.core.fixed.plan c.render_plain-done.new.core.fixed.workers c.node.result.now.info.frames c.args.kept c.whole_of-whole.result
    (renders g c) (stopped g c) c.whole_of-whole.ensures other
    ∙ c.in-Ok.ensures.unfailed (λ e. (let no : ⊥ = cc e in no))
