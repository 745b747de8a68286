-- What a render leaves is told with what is to be told of it.
use Rattle.std.proofs.Common.{◌≡◌, rules}
use Rattle.serve_app.specs.Journals.{cache_of}
use Rattle.serve_app.specs.Run.{plain_size}
use Rattle.serve_app.proofs.EndLemmas.{before_told, unfailed_told, render_does}
use Rattle.serve_app.proofs.entry.run_command_alone.Goals as goal

pub returns-in-Render-clause-does : goal.returns-in-Render-clause-does
returns-in-Render-clause-does g c =
    let cache : c.unwrap_or-cache.result ≡ cache_of c.in-Render.options.cache = search rules in
    rw c.in-Render.is (rw c.telling_of.ensures
    (render_does g.F.Files g.K.Sink c.args.files.now c.render_alone-done.new.files c.args.out.now c.render_alone-done.new.out c.render_alone-done.new.journal plain_size c.in-Render.script
    c.in-Render.options c.render_alone-done.result (rw cache at c.render_alone-done.ensures.render) c.render_alone-done.ensures.reads))

pub returns-in-Render-clause-before : goal.returns-in-Render-clause-before
returns-in-Render-clause-before g c = rw c.telling_of.ensures (before_told c.in-Render.options.tells c.render_alone-done.result _ c.render_alone-done.ensures.before)

pub returns-in-Render-clause-unfailed : goal.returns-in-Render-clause-unfailed
returns-in-Render-clause-unfailed g c = rw c.telling_of.ensures (unfailed_told c.in-Render.options.tells c.render_alone-done.result _ c.render_alone-done.ensures.unfailed)
