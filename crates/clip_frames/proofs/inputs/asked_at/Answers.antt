use Rattle.std.proofs.Common.{◌∙◌, ap}
use Rattle.std.specs.List.{slice_get}
use Rattle.clip_frames.proofs.InputLemmas.{joined_keys}
use Rattle.clip_frames.proofs.inputs.asked_at.Goals as goal

pub returns-in-Join : goal.returns-in-Join
returns-in-Join c =
    let a = c.args in
    rw c.in-Join.is (c.each_at.ensures ∙ ap (λ keys. slice_get keys a.i) (joined_keys a.graph.now a.inputs.now a.n))

pub returns-in-Run : goal.returns-in-Run
returns-in-Run c =
    let a = c.args in
    rw c.in-Run.is (c.each_at-in-Run.ensures ∙ ap (λ keys. slice_get keys a.i) (joined_keys a.graph.now a.inputs.now a.n))
