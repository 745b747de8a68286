use Rattle.std.proofs.Common.{◌∙◌, Some, length, sym, ap, arith}
use Rattle.clip_frames.specs.Asked.{key_in_range}
use Rattle.clip_frames.proofs.InputLemmas.{listed_at, listed_past}
use Rattle.clip_frames.proofs.inputs.each_at.Goals as goal

pub returns-then-i-inputs : goal.returns-then-i-inputs
returns-then-i-inputs c = let a = c.args in sym (listed_past (λ k. key_in_range a.graph.now a.inputs.now k a.n) (length a.inputs.now) a.i (omega arith))

pub returns : goal.returns
returns c =
    let a = c.args in
    ap Some c.key_in_range.ensures ∙ sym (listed_at (λ k. key_in_range a.graph.now a.inputs.now k a.n) (length a.inputs.now) a.i (omega arith))
