-- One more sample, and at the end none is left.
use Rattle.std.proofs.Common.{◌≡◌, ◌∙◌, ◌+◌, ◌-◌, ◌/◌, ◌++◌, [], ◌∷◌, ap, ap₂, arith}
use Rattle.self_test.specs.Workload.{next, sample, samples, after}
use Rattle.self_test.proofs.SampleLemmas.{sample_more, after_more, samples_end, after_end}
use Rattle.self_test.proofs.files.add_samples.Goals as goal

pub loop-done-preserved : goal.loop-done-preserved
loop-done-preserved c =
    let x = c.loop-done.state in
    let n = c.args.count - (c.loop-done._done + 1) in
    let pushed : c.push.new.self.items ≡ c.loop-done.bytes.items ++ sample (next x) ∷ [] = c.in_ok-push.ensures.items ∙ ap (λ y. c.loop-done.bytes.items ++ (y / 16777216) ∷ []) c.next-state.ensures in
    record {
      state = ap (after n) c.next-state.ensures ∙ after_more c.args.count c.loop-done._done x _ (omega arith) c.loop-done.invariant.state;
      bytes = ap₂ (λ bytes y. bytes ++ samples n y) pushed c.next-state.ensures
          ∙ sample_more c.loop-done.bytes.items _ c.args.count c.loop-done._done x (omega arith) c.loop-done.invariant.bytes;
    }

pub returns-clause-state : goal.returns-clause-state
returns-clause-state c = after_end c.args.count c.loop-done._done c.loop-done.state _ (omega arith) c.loop-done.invariant.state

pub returns-clause-bytes : goal.returns-clause-bytes
returns-clause-bytes c = samples_end c.loop-done.bytes.items _ c.args.count c.loop-done._done c.loop-done.state (omega arith) c.loop-done.invariant.bytes
