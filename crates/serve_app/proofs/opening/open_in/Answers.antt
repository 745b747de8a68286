-- The sources are those of the plan.
use Rattle.std.proofs.Common.{◌∙◌, ap, Err}
use Rattle.fv_io.specs.Faults.{with_faults}
use Rattle.serve_app.proofs.ClosingLemmas.{no_faults, none_failed}
use Rattle.serve_app.proofs.OpeningLemmas.{opening_counts}
use Rattle.serve_app.proofs.PlayLemmas.{fit}
use Rattle.serve_app.proofs.opening.open_in.Goals as goal

pub returns-in-Ok-clause-sources : goal.returns-in-Ok-clause-sources
returns-in-Ok-clause-sources g c =
    let was = c.evaluate-answer.new.host in
    fit g.H.Src.Source g.W.Known.told g.W.Known.world c.in-Ok.opened.graph was.listed.items was.sources.items c.in-Ok.ensures.opened.sources was.opened

pub returns-in-Err-clause-steady : goal.returns-in-Err-clause-steady
returns-in-Err-clause-steady g c = λ other.
    let was = c.evaluate-answer.new.host in
    let count = g.H.HeldFiles.faults was.files in
    c.close_all.ensures.faults ∙ (ap (with_faults count) (none_failed g.H.Src.Source g.W.Known.told g.W.Known.world was.listed.items was.sources.items was.opened) ∙ no_faults count)
    ∙ opening_counts (g.H.HeldFiles.faults c.new-host.result.files) count c.in-Err.stop c.in-Err.ensures.before (λ is. other (ap Err is))
    ∙ ap g.H.HeldFiles.faults c.new-host.ensures.files
