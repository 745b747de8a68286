use Rattle.std.proofs.Common.{◌+◌, ◌-◌, ◌*◌, ◌∙◌, Some, sym, ap, arith}
use Rattle.clip_frames.specs.Asked.{key_in_range}
use Rattle.clip_frames.proofs.InputLemmas.{listed_at, listed_past}
use Rattle.clip_frames.proofs.inputs.around_at.Goals as goal

pub returns-then-i-radius : goal.returns-then-i-radius
returns-then-i-radius c = let a = c.args in sym (listed_past (λ k. key_in_range a.graph.now a.inputs.now 0 (a.n + k - a.radius)) (2 * a.radius + 1) a.i (omega arith))

pub returns : goal.returns
returns c =
    let a = c.args in
    ap Some (c.key_in_range.ensures ∙ ap (key_in_range a.graph.now a.inputs.now 0) c.saturating_sub-number.ensures)
    ∙ sym (listed_at (λ k. key_in_range a.graph.now a.inputs.now 0 (a.n + k - a.radius)) (2 * a.radius + 1) a.i (omega arith))
