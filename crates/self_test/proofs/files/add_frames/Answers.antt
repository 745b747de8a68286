-- One more frame, and at the end none is left.
use Rattle.std.proofs.Common.{◌≡◌, ◌∙◌, ◌+◌, ◌-◌, ◌++◌, ap, ap₂, codes, arith}
use Rattle.self_test.specs.Workload.{frames, samples}
use Rattle.self_test.proofs.SampleLemmas.{frame_more, frames_end}
use Rattle.self_test.proofs.files.add_frames.Goals as goal

pub loop-done-preserved : goal.loop-done-preserved
loop-done-preserved c =
    let x = c.loop-done.state in
    let n = c.args.count - (c.loop-done._done + 1) in
    let head : c.extend_from_slice.new.self.items ≡ c.loop-done.bytes.items ++ codes "FRAME\n" = c.in_ok-extend_from_slice.ensures.items ∙ ap (λ piece. c.loop-done.bytes.items ++ piece) c.as_bytes.ensures.value in
    let added : c.add_samples.new.bytes.items ≡ (c.loop-done.bytes.items ++ codes "FRAME\n") ++ samples c.args.size x = c.in_ok-state.ensures.bytes ∙ ap (λ bytes. bytes ++ samples c.args.size x) head in
    ap₂ (λ bytes y. bytes ++ frames n c.args.size y) added c.in_ok-state.ensures.state
    ∙ frame_more c.loop-done.bytes.items _ c.args.size c.args.count c.loop-done._done x (omega arith) c.loop-done.invariant

pub returns : goal.returns
returns c = frames_end c.loop-done.bytes.items _ c.args.size c.args.count c.loop-done._done c.loop-done.state (omega arith) c.loop-done.invariant
