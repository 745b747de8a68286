-- The script can't be read from its file, or has no clip; where it has one, each file was fetched once.
use Rattle.std.proofs.Common.{◌≡◌, Ok, Err, rules}
use Rattle.avs_state.specs.Hosts.{StopsBy}
use Rattle.avs_state.specs.Stops.{named}
use Rattle.avs_eval.specs.OutsideBy.{outside_by}
use Rattle.serve_text.specs.StopKinds.{stop_of}
use Rattle.serve_app.proofs.PlayLemmas.{told_as}
use Rattle.serve_app.proofs.ReadsLemmas.{fault_told, all_read}
use Rattle.serve_app.proofs.opening.evaluate.Goals as goal

pub returns-in-Err-clause-told : goal.returns-in-Err-clause-told
returns-in-Err-clause-told g c = λ told.
    let stop = c.stop_of.result in
    let is : c.from.result ≡ stop_of (named c.args.script.now stop) = search rules in
    let by : StopsBy c.in-Err.fault c.args.script.now 0 stop = search rules in
    rw is (fault_told (g.H.Host.scripts c.args.script.now) (outside_by g.H.Host.clips g.H.Host.scripts) c.args.script.now c.in-Err.fault stop (c.in-Err.ensures.told told) by)

pub returns-in_err-opened-clause-told : goal.returns-in_err-opened-clause-told
returns-in_err-opened-clause-told g c = λ told.
    let stop = c.in_err-opened.field-0.0 in
    let is : c.from_residual-in_err-opened.result ≡ Err (stop_of stop) = search rules in
    let there : g.H.Host.scripts c.args.script.now ≡ Ok c.in-Ok.text = c.in-Ok.ensures.told told in
    rw (is, there) (told_as _ stop (c.in_err-opened.ensures.told told))

pub returns-clause-fetched : goal.returns-clause-fetched
returns-clause-fetched g c = λ told.
    all_read (outside_by g.H.Host.clips g.H.Host.scripts) c.args.script.now c.in-Ok.text c.in_ok-opened.opened (g.H.Host.opened c.eval.new.host)
    (g.H.Host.fetched c.args.host.now) (g.H.Host.fetched c.script.new.self) (g.H.Host.fetched c.eval.new.host)
    (c.in-Ok.ensures.told told) (c.in_ok-opened.ensures.told told) c.in_ok-opened.ensures.opened.sources c.in-Ok.ensures.fetched (c.in_ok-opened.ensures.fetched told)
