-- What was opened is the plan that the script means, and its sources, which have not failed.
use Rattle.std.proofs.Common.{◌∙◌, ap}
use Rattle.fv_io.specs.Faults.{with_faults}
use Rattle.serve_app.proofs.ClosingLemmas.{no_faults}
use Rattle.serve_app.proofs.OpeningLemmas.{clip_found, means_plan, unfailed}
use Rattle.serve_app.proofs.opening.plan_held.Goals as goal

pub returns-clause-means : goal.returns-clause-means
returns-clause-means g c = means_plan g.H.Src.Source (g.H.HeldFiles.world c.args.files) c.args.script.now c.in-Ok.found.opened c.in-Ok.found.sources.items (rw c.in-Ok.is at c.open_script-held.ensures.opened)

pub returns-clause-clip : goal.returns-clause-clip
returns-clause-clip g c = clip_found g.H.Src.Source (g.H.HeldFiles.world c.args.files) c.args.script.now c.in-Ok.found.opened c.in-Ok.found.sources.items (rw c.in-Ok.is at c.open_script-held.ensures.opened)

pub returns-clause-reads : goal.returns-clause-reads
returns-clause-reads g c =
    let is = rw c.in-Ok.is at c.open_script-held.ensures.opened in
    let reads = rw c.in-Ok.is at c.open_script-held.ensures.reads in
    let count = g.H.HeldFiles.faults c.open_script-held.result.0 in
    record {
      steady = c.close_all.ensures.faults ∙ (ap (with_faults count) (unfailed g.H.Src.Source (g.H.HeldFiles.world c.args.files) c.args.script.now c.in-Ok.found.opened c.in-Ok.found.sources.items is) ∙ no_faults count) ∙ reads.steady;
      fetched = λ world there. c.close_all.ensures.fetched ∙ reads.fetched world there;
    }

pub returns-clause-steady : goal.returns-clause-steady
returns-clause-steady g c = λ other.
    let is = rw c.in-Ok.is at c.open_script-held.ensures.opened in
    let reads = rw c.in-Ok.is at c.open_script-held.ensures.reads in
    let count = g.H.HeldFiles.faults c.open_script-held.result.0 in
    c.close_all.ensures.faults ∙ (ap (with_faults count) (unfailed g.H.Src.Source (g.H.HeldFiles.world c.args.files) c.args.script.now c.in-Ok.found.opened c.in-Ok.found.sources.items is) ∙ no_faults count) ∙ reads.steady

pub returns-in-Err-clause-steady : goal.returns-in-Err-clause-steady
returns-in-Err-clause-steady g c = λ other. c.open_script-held.ensures.steady (λ is. other (let same = c.in-Err.is in cc))
