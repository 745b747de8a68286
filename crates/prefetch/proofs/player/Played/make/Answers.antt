use Rattle.std.proofs.Common.{Some, refl, subst}
use Rattle.serve_machine.specs.Events.{windows_of}
use Rattle.prefetch.specs.Played.{PlayedValue, MakesFrame, StopsInFrame, IsFrameOf}
use Rattle.prefetch.specs.Windows.{given}
use Rattle.serve_worker.specs.declared.instance.Instance.{Instance}
use Rattle.prefetch.proofs.SessionLemmas.{made_of, frame_of}
use Rattle.prefetch.proofs.player.Played.make.Goals as goal

pub returns-in-Ok-render_one-clause-made : goal.returns-in-Ok-render_one-clause-made
returns-in-Ok-render_one-clause-made g c =
    let made = c.in-Ok-render_one.ensures.ok in
    let after : PlayedValue (Instance g.row.S.Denot) = record { core = c.render_one.new.core; windows = windows_of c.render_one.new.journal; stop = c.self.inside.stop } in
    let before : PlayedValue (Instance g.row.S.Denot) = record { core = c.self.inside.core; windows = windows_of c.self.inside.journal; stop = c.self.inside.stop } in
    subst (λ (p : PlayedValue (Instance g.row.S.Denot)). MakesFrame g.S.Source p c.args.n after) c.self.view_is (made_of g.S.Source before after c.args.n made.finished made.adds refl)

pub returns-in-Ok-render_one-clause-frame : goal.returns-in-Ok-render_one-clause-frame
returns-in-Ok-render_one-clause-frame g c =
    let made = c.in-Ok-render_one.ensures.ok in
    let before : PlayedValue (Instance g.row.S.Denot) = record { core = c.self.inside.core; windows = windows_of c.self.inside.journal; stop = c.self.inside.stop } in
    subst (λ (p : PlayedValue (Instance g.row.S.Denot)). IsFrameOf g.S.Source p c.args.n (given c.in-Ok-render_one.frames.items)) c.self.view_is
    (frame_of g.S.Source before c.args.n (windows_of c.self.inside.journal) (windows_of c.render_one.new.journal) c.render_one.new.core made.finished c.in-Ok-render_one.frames.items (rw (← c.self.view_is) at c.requires.inside) made.adds made.frames_are)

pub returns-in-Err-Stopped-clause-stopped : goal.returns-in-Err-Stopped-clause-stopped
returns-in-Err-Stopped-clause-stopped g c = λ is.
    let after : PlayedValue (Instance g.row.S.Denot) = record { core = c.render_one.new.core; windows = windows_of c.render_one.new.journal; stop = Some c.in-Err-Stopped.why } in
    let before : PlayedValue (Instance g.row.S.Denot) = record { core = c.self.inside.core; windows = windows_of c.self.inside.journal; stop = c.self.inside.stop } in
    subst (λ (p : PlayedValue (Instance g.row.S.Denot)). StopsInFrame g.S.Source p c.args.n after) c.self.view_is
    (record { why = c.in-Err-Stopped.why; stop = refl; cuts = rw c.in-Err-Stopped.field-0-is at c.in-Err-Stopped.ensures.stop })
