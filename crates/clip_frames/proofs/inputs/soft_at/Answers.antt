use Rattle.std.proofs.Common.{◌≡◌, ◌∙◌, ap, rules}
use Rattle.std.specs.List.{slice_get}
use Rattle.clip_term.specs.Refusals.{nat_of}
use Rattle.clip_frames.proofs.InputLemmas.{around_keys}
use Rattle.clip_frames.proofs.inputs.soft_at.Goals as goal

pub returns-in-TemporalSoften : goal.returns-in-TemporalSoften
returns-in-TemporalSoften c =
    let a = c.args in
    let radius : c.unsigned_abs.result ≡ nat_of c.in-TemporalSoften.radius = search rules in
    let asked = c.around_at.ensures ∙ ap (λ keys. slice_get keys a.i) (around_keys a.graph.now a.inputs.now c.unsigned_abs.result a.n) in
    rw c.in-TemporalSoften.is (rw radius at asked)
